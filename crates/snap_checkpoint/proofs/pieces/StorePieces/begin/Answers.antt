use Rattle.std.proofs.Common.{◌≡◌, ◌++◌, map, rules, ap, ◌∙◌}
use Rattle.snap_world.specs.Held.{held_snapshot}
use Rattle.snap_world.specs.Restored.{SavedWorldValue}
use Rattle.snap_checkpoint.specs.Pieces.{parts_pieces, store_head, store_pieces}
use Rattle.snap_checkpoint.proofs.StoreBack.{own_back}
use Rattle.snap_checkpoint.proofs.pieces.StorePieces.begin.Goals as goal

pub returns-clause-back : goal.returns-clause-back
returns-clause-back c = λ whole.
    let own : c.into-3.result.items ++ parts_pieces (c.into.result.items ++ map (held_snapshot c.new.result) c.new-2.result.items) c.into-2.result.items ≡ store_pieces c.args.saved = search rules in
    own_back c.args.saved c.head_of-head.result _ whole (c.head_of-head.ensures ∙ ap (λ (w : SavedWorldValue). store_head w) c.saved.view_is) own

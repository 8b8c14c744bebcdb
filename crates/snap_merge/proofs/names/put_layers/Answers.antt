use Rattle.std.proofs.Common.{◌+◌, ◌∷◌, ◌++◌, [], List, drop, sym, ap, ◌∙◌}
use Rattle.std.specs.Prelude.{◌&&◌, is_some}
use Rattle.std.proofs.lemmas.List.{at_drop_more}
use Rattle.snap_layer.specs.Tree.{Tree}
use Rattle.snap_merge.specs.Objects.{seen}
use Rattle.snap_merge.specs.Shares.{seen_so_far}
use Rattle.snap_merge.proofs.Sharing.{told_last}
use Rattle.snap_merge.proofs.names.put_layers.Goals as goal

pub returns-then-not-branch : goal.returns-then-not-branch
returns-then-not-branch c = λ n.
    let q = c.args.path.now ++ n ∷ [] in
    sym (told_last c.put_layer.new.shown.keys c.put_layer.new.gone.keys n)
    ∙ ap (λ b. seen_so_far c.put_layer.new.shown.keys c.put_layer.new.gone.keys n (b && is_some (seen (drop (c.loop-shared.shared-index + 1) c.args.lowers.now) q))) (sym c.if-not-branch.true)
    ∙ c.in_ok-put_layer.ensures n (seen (drop (c.loop-shared.shared-index + 1) c.args.lowers.now) q)
    ∙ ap (λ (t : Tree). seen_so_far c.loop-shared.shown.keys c.loop-shared.gone.keys n (is_some (seen (t ∷ drop (c.loop-shared.shared-index + 1) c.args.lowers.now) q))) (c.layer.ensures.value ∙ c.shared-item.is)
    ∙ sym (at_drop_more (λ (ts : List Tree). seen_so_far c.loop-shared.shown.keys c.loop-shared.gone.keys n (is_some (seen ts q))) c.args.lowers.now c.loop-shared.shared-index c.shared-item.result c.loop-shared-test.true)
    ∙ c.loop-shared.invariant n

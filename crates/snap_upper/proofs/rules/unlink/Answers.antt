use Rattle.std.proofs.Common.{[], ◌∷◌, ◌++◌, sym, subst}
use Rattle.snap_merge.specs.Objects.{AreLayers}
use Rattle.snap_copyup.proofs.Alone.{dir_seen, free_unseen}
use Rattle.snap_upper.specs.declared.op.Op.TheVariants as op
use Rattle.snap_upper.proofs.Outcomes.{stack_passes, after_passes}
use Rattle.snap_upper.proofs.Erased.{IsErasable-name}
use Rattle.snap_upper.proofs.Sure.{node_of_number}
use Rattle.snap_layer.specs.Tree.{at}
use Rattle.snap_upper.proofs.rules.unlink.Goals as goal

pub returns-clause-ok : goal.returns-clause-ok
returns-clause-ok c =
    let u = c.args.layer.now in
    let ls = c.args.lowers.now in
    let p = c.args.path.now in
    let ok = (subst AreLayers c.over.ensures c.in_ok-found.ensures.layers).0 in
    let passes = stack_passes (op.Unlink p) _ (u ∷ ls) c.over.ensures c.in_ok-found.ensures.error in
    let layers = subst AreLayers c.over.ensures c.in_ok-found.ensures.layers in
    let erasable = IsErasable-name (u ∷ ls) p layers (dir_seen u ls [] ok.root) passes in
    record { layers = layers.1; ready = (erasable.way, erasable.there, erasable.below_root, (λ n. free_unseen u ls (p ++ n ∷ []) ok (erasable.clear n)), c.is_below-covers.ensures); same = sym (after_passes (op.Unlink p) u ls passes); in_place = node_of_number (at u p) }

use Rattle.std.proofs.Common.{rules, refl, sym, subst, arith, lit≤}
use Rattle.snap_layer.specs.Layers.{IsLayer}
use Rattle.snap_layer.specs.Edits.{root_within}
use Rattle.snap_layer.specs.Totals.{Counts, IsCounted}
use Rattle.snap_layer.proofs.Kept.{IsLayer-root_within}
use Rattle.snap_layer.proofs.layer.Layer.root_alone.Goals as goal

pub invariant_of-result : goal.invariant_of-result
invariant_of-result c =
    let ok : IsLayer (root_within c.args.most c.args.meta c.args.first) = IsLayer-root_within c.args.most c.args.meta c.args.first c.requires.most c.requires.meta c.requires.first (omega arith) (refl, lit≤ tt) in
    let counts : Counts record { inodes = 1; blocks = 1; paths = 1 } (root_within c.args.most c.args.meta c.args.first) = search rules in
    subst (IsCounted _) (sym c.in_ok-new.ensures) (counts, ok)

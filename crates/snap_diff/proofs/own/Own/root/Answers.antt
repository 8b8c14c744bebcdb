use Rattle.std.proofs.Common.{◌≡◌, [], false, Some, sym, ap, subst, ◌∙◌}
use Rattle.snap_layer.specs.Tree.{at}
use Rattle.snap_layer.specs.Directory.{Directory}
use Rattle.snap_diff.specs.Places.{IsOwnPlace}
use Rattle.snap_diff.proofs.Places.{root_own}
use Rattle.snap_diff.proofs.own.Own.root.Goals as goal

pub returns : goal.returns
returns c =
    let is : at c.args.layer.now [] ≡ Some c.node.result = ap (λ (d : Directory). at d.layer d.path) (sym c.root_dir-dir.ensures.dir) ∙ c.node.ensures.node in
    subst (λ (d : Directory). IsOwnPlace c.args.layer.now [] (Some c.node.result) (Some d) false) (sym c.root_dir-dir.ensures.dir) (root_own c.args.layer.now c.node.result is c.node.ensures.dir)

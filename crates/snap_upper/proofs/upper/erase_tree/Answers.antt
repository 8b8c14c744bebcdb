use Rattle.std.proofs.Common.{◌≡◌, true, refl, sym, ap, ◌∙◌}
use Rattle.std.specs.Prelude.{is_some, Option, Some, None}
use Rattle.snap_layer.specs.declared.node.Node.{Node}
use Rattle.snap_layer.specs.Tree.{IsDirAt}
use Rattle.snap_upper.specs.After.{limited}
use Rattle.snap_upper.proofs.Outcomes.{limited_fits, layer_fits}
use Rattle.snap_upper.proofs.Trees.{tree_own}
use Rattle.snap_upper.proofs.upper.erase_tree.Goals as goal

there : (o : Option Node) → IsDirAt o → is_some o ≡ true
there None d = absurd d
there (Some n) d = refl

pub returns-clause-ok : goal.returns-clause-ok
returns-clause-ok c =
    let u = c.args.layer.now in
    let ls = c.args.lowers.now in
    let p = c.args.path.now in
    let next = c.take_tree.new.self in
    ap limited (tree_own u ls p c.args.covers c.requires.layer (there _ c.requires.there.dir) c.requires.covers ∙ sym c.in_ok-take_tree.ensures.ok) ∙ limited_fits next (layer_fits next c.in_ok-take_tree.ensures.layer)

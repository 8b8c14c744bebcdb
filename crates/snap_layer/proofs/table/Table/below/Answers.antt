use Rattle.std.proofs.Common.{◌++◌, sym, ap, subst, ◌∙◌, arith}
use Rattle.snap_layer.specs.Tree.{Tree}
use Rattle.snap_layer.specs.Edits.{inside}
use Rattle.snap_layer.specs.Layers.{IsLayer}
use Rattle.snap_layer.specs.Rows.{own}
use Rattle.snap_layer.proofs.Makes.{opens}
use Rattle.snap_layer.proofs.table.Table.below.Goals as goal

pub below-requires : goal.below-requires
below-requires c = (
  omega arith,
  (
    (
      c.self.inside.tree,
      record {
        there = c.self.invariant.table.there;
        sorted = c.self.invariant.layer.sorted_paths;
        paths = c.self.invariant.layer.paths;
      },
    ),
    omega arith,
  ),
)

pub returns-clause-rest : goal.returns-clause-rest
returns-clause-rest c =
    let m = opens c.self.inside.slots c.self.inside.root c.self.inside.places.entries c.self.inside.next c.args.self.now c.self.inside.tree c.self.invariant c.self.view_is in
    sym (ap (λ (t : Tree). inside c.args.front.now t.entries) c.self.view_is)
    ∙ c.below.ensures.rest c.self.inside.tree
    ∙ ap (λ o. own c.args.front.now o ++ c.below.result.rest) (m.shows c.args.front.now)

pub returns-clause-layer : goal.returns-clause-layer
returns-clause-layer c = subst IsLayer c.self.view_is c.self.invariant.layer

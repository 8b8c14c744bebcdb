use Rattle.std.proofs.Common.{◌≡◌, ap, sym, ◌∙◌}
use Rattle.std.specs.Prelude.{is_some, not}
use Rattle.snap_layer.specs.Tree.{at}
use Rattle.snap_upper.specs.declared.op.Op.TheVariants as op
use Rattle.snap_upper.specs.After.{next_layer}
use Rattle.snap_upper.proofs.Erased.{none_from}
use Rattle.snap_upper.proofs.Named.{linkable, linked_next}
use Rattle.snap_upper.proofs.PreparedCounts.{prepared_next}
use Rattle.snap_upper.proofs.usage.plan_link.Goals as goal

pub count_placed-after-requires-clause-placeable : goal.count_placed-after-requires-clause-placeable
count_placed-after-requires-clause-placeable c = linkable c.args.layer.now c.args.lowers.now c.args.from.now c.args.to.now c.requires.layer c.requires.layers c.requires.passes

pub returns : goal.returns
returns c =
    let u = c.args.layer.now in
    let ls = c.args.lowers.now in
    let from = c.args.from.now in
    let to = c.args.to.now in
    let ok = c.requires.layer in
    let lower = c.is_none.result in
    let passes = c.requires.passes in
    let layers = c.requires.layers in
    let stands : is_some (at u from) ≡ not lower = ap is_some (sym c.at.ensures.node) ∙ c.is_none.ensures in
    let number = prepared_next u ls from to ok layers (linkable u ls from to ok layers passes) lower (λ e. none_from (at u from) (stands ∙ ap not e)) (λ e. stands ∙ ap not e) in
    c.fitting.ensures (next_layer (op.Link from to) u ls) (linked_next u ls from to ok layers passes c.count_placed-after.ensures.source c.count_placed-after.ensures.target c.count_placed-after.result c.count_placed-after.ensures.count lower number)

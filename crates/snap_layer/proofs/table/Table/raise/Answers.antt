use Rattle.std.proofs.Common.{arith, refl, subst}
use Rattle.snap_layer.specs.contracts.node.Node as node_contracts
use Rattle.snap_layer.specs.Layers.{IsLayer}
use Rattle.snap_layer.specs.Edits.{with_next}
use Rattle.snap_layer.specs.Walk.{view_of}
use Rattle.snap_layer.proofs.Makes.{opens, makes_view, makes_kept, most_same}
use Rattle.snap_layer.proofs.Numbers.{IsLayer-raised, made_next}
use Rattle.snap_layer.proofs.table.Table.raise.Goals as goal

pub invariant_of-self : goal.invariant_of-self
invariant_of-self c =
    let u = c.args.self.now in
    let m = opens c.self.inside.slots c.self.inside.root c.self.inside.places.entries c.self.inside.next u c.self.inside.tree c.self.invariant c.self.view_is in
    let layer : IsLayer u = subst IsLayer c.self.view_is c.self.invariant.layer in
    makes_kept c.self.inside.slots c.self.inside.root c.self.inside.places.entries c.args.next (with_next u c.args.next) (made_next (view_of c.self.inside.slots) c.self.inside.root c.self.inside.places.entries c.self.inside.next u m c.args.next c.args.next refl) (IsLayer-raised u layer c.args.next c.requires (omega arith)) (most_same c.self.view_is) (node_contracts.the_row).coded c.self-1.given.0

pub returns : goal.returns
returns c =
    let u = c.args.self.now in
    let m = opens c.self.inside.slots c.self.inside.root c.self.inside.places.entries c.self.inside.next u c.self.inside.tree c.self.invariant c.self.view_is in
    let layer : IsLayer u = subst IsLayer c.self.view_is c.self.invariant.layer in
    makes_view c.self.inside.slots c.self.inside.root c.self.inside.places.entries c.args.next (with_next u c.args.next) (made_next (view_of c.self.inside.slots) c.self.inside.root c.self.inside.places.entries c.self.inside.next u m c.args.next c.args.next refl) (IsLayer-raised u layer c.args.next c.requires (omega arith)) (most_same c.self.view_is) (node_contracts.the_row).coded c.self-1.given.0

use Rattle.std.proofs.Common.{◌≡◌, subst}
use Rattle.snap_layer.specs.Layers.{IsLayer}
use Rattle.snap_layer.specs.contracts.node.Node as node_contracts
use Rattle.snap_layer.specs.Walk.{view_of}
use Rattle.snap_layer.proofs.Makes.{opens, makes_holds, makes_view, makes_kept, most_same}
use Rattle.snap_layer.proofs.Putting.{makes_same}
use Rattle.snap_layer.proofs.Cloning.{clone_same}
use Rattle.snap_layer.proofs.table.Table.copy.Goals as goal

pub invariant_of-result : goal.invariant_of-result
invariant_of-result c =
    let m = opens c.self.inside.slots c.self.inside.root c.self.inside.places.entries c.self.inside.next c.args.self.now c.self.inside.tree c.self.invariant c.self.view_is in
    let layer : IsLayer c.args.self.now = subst IsLayer c.self.view_is c.self.invariant.layer in
    let same = clone_same c.self.inside.slots c.in_ok-clone.field-0 c.in_ok-clone.ensures.cases in
    let places : c.in_ok-copied.field-0.entries ≡ c.self.inside.places.entries = c.in_ok-copied.ensures in
    let made = makes_same (view_of c.self.inside.slots) (view_of c.in_ok-clone.field-0) c.self.inside.root same c.self.inside.places.entries c.in_ok-copied.field-0.entries c.self.inside.next c.args.self.now places m in
    (makes_holds c.in_ok-clone.field-0 c.self.inside.root c.in_ok-copied.field-0.entries c.self.inside.next c.args.self.now made layer, tt)

pub invariant_of-result-2 : goal.invariant_of-result-2
invariant_of-result-2 c =
    let m = opens c.self.inside.slots c.self.inside.root c.self.inside.places.entries c.self.inside.next c.args.self.now c.self.inside.tree c.self.invariant c.self.view_is in
    let layer : IsLayer c.args.self.now = subst IsLayer c.self.view_is c.self.invariant.layer in
    let same = clone_same c.self.inside.slots c.in_ok-clone.field-0 c.in_ok-clone.ensures.cases in
    let places : c.in_ok-copied.field-0.entries ≡ c.self.inside.places.entries = c.in_ok-copied.ensures in
    let made = makes_same (view_of c.self.inside.slots) (view_of c.in_ok-clone.field-0) c.self.inside.root same c.self.inside.places.entries c.in_ok-copied.field-0.entries c.self.inside.next c.args.self.now places m in
    makes_kept c.in_ok-clone.field-0 c.self.inside.root c.in_ok-copied.field-0.entries c.self.inside.next c.args.self.now made layer (most_same c.self.view_is) (node_contracts.the_row).coded c.result-2-1.given.0

pub returns : goal.returns
returns c =
    let m = opens c.self.inside.slots c.self.inside.root c.self.inside.places.entries c.self.inside.next c.args.self.now c.self.inside.tree c.self.invariant c.self.view_is in
    let layer : IsLayer c.args.self.now = subst IsLayer c.self.view_is c.self.invariant.layer in
    let same = clone_same c.self.inside.slots c.in_ok-clone.field-0 c.in_ok-clone.ensures.cases in
    let places : c.in_ok-copied.field-0.entries ≡ c.self.inside.places.entries = c.in_ok-copied.ensures in
    let made = makes_same (view_of c.self.inside.slots) (view_of c.in_ok-clone.field-0) c.self.inside.root same c.self.inside.places.entries c.in_ok-copied.field-0.entries c.self.inside.next c.args.self.now places m in
    makes_view c.in_ok-clone.field-0 c.self.inside.root c.in_ok-copied.field-0.entries c.self.inside.next c.args.self.now made layer (most_same c.self.view_is) (node_contracts.the_row).coded c.result-2-1.given.0

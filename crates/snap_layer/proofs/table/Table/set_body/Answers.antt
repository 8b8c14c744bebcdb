use Rattle.std.proofs.Common.{◌≡◌, Some, None, sym, ◌∙◌}
use Rattle.snap_layer.specs.contracts.node.Node as node_contracts
use Rattle.snap_layer.specs.Edits.{with_body}
use Rattle.snap_layer.specs.Walk.{view_of}
use Rattle.snap_layer.specs.Holds.{place}
use Rattle.snap_layer.proofs.Makes.{Makes, opens, makes_holds, makes_view, makes_kept, most_same}
use Rattle.snap_layer.proofs.Changing.{body_set_made, place_there, body_found, same_kind}
use Rattle.snap_layer.proofs.table.Table.set_body.Goals as goal

pub unreachable-requires : goal.unreachable-requires
unreachable-requires c =
    let m = opens c.self.inside.slots c.self.inside.root c.self.inside.places.entries c.self.inside.next c.args.self.now c.self.inside.tree c.self.invariant c.self.view_is in
    let none : place c.self.inside.places.entries c.args.number ≡ None = sym c.place_of.ensures ∙ c.in_default.is in
    place_there (view_of c.self.inside.slots) c.self.inside.root c.self.inside.places.entries c.self.inside.next c.args.self.now m c.args.number c.requires.there none

pub set_body-requires-clause-kind : goal.set_body-requires-clause-kind
set_body-requires-clause-kind c =
    let m = opens c.self.inside.slots c.self.inside.root c.self.inside.places.entries c.self.inside.next c.args.self.now c.self.inside.tree c.self.invariant c.self.view_is in
    let found : place c.self.inside.places.entries c.args.number ≡ Some c.in-Some.key = sym c.place_of.ensures ∙ c.in-Some.is in
    λ b k is. same_kind c.args.number k b c.args.new (c.requires.kind b (sym (body_found (view_of c.self.inside.slots) c.self.inside.root c.self.inside.places.entries c.self.inside.next c.args.self.now m c.args.number c.in-Some.key found) ∙ is))

pub invariant_of-self-inside : goal.invariant_of-self-inside
invariant_of-self-inside c =
    let m = opens c.self.inside.slots c.self.inside.root c.self.inside.places.entries c.self.inside.next c.args.self.now c.self.inside.tree c.self.invariant c.self.view_is in
    let found : place c.self.inside.places.entries c.args.number ≡ Some c.in-Some.key = sym c.place_of.ensures ∙ c.in-Some.is in
    let made : Makes (view_of c.set_body.new.slots) c.self.inside.root c.self.inside.places.entries c.self.inside.next (with_body c.args.self.now c.args.number c.args.new) = body_set_made (view_of c.self.inside.slots) (view_of c.set_body.new.slots) c.self.inside.root c.self.inside.places.entries c.self.inside.next c.args.self.now m c.args.number c.in-Some.key c.args.new found c.requires.there c.requires.kind c.set_body.ensures in
    (makes_holds c.set_body.new.slots c.self.inside.root c.self.inside.places.entries c.self.inside.next (with_body c.args.self.now c.args.number c.args.new) made c.requires.layer, tt)

pub invariant_of-self : goal.invariant_of-self
invariant_of-self c =
    let m = opens c.self.inside.slots c.self.inside.root c.self.inside.places.entries c.self.inside.next c.args.self.now c.self.inside.tree c.self.invariant c.self.view_is in
    let found : place c.self.inside.places.entries c.args.number ≡ Some c.in-Some.key = sym c.place_of.ensures ∙ c.in-Some.is in
    let made : Makes (view_of c.set_body.new.slots) c.self.inside.root c.self.inside.places.entries c.self.inside.next (with_body c.args.self.now c.args.number c.args.new) = body_set_made (view_of c.self.inside.slots) (view_of c.set_body.new.slots) c.self.inside.root c.self.inside.places.entries c.self.inside.next c.args.self.now m c.args.number c.in-Some.key c.args.new found c.requires.there c.requires.kind c.set_body.ensures in
    makes_kept c.set_body.new.slots c.self.inside.root c.self.inside.places.entries c.self.inside.next (with_body c.args.self.now c.args.number c.args.new) made c.requires.layer (most_same c.self.view_is) (node_contracts.the_row).coded c.self-1.given.0

pub returns : goal.returns
returns c =
    let m = opens c.self.inside.slots c.self.inside.root c.self.inside.places.entries c.self.inside.next c.args.self.now c.self.inside.tree c.self.invariant c.self.view_is in
    let found : place c.self.inside.places.entries c.args.number ≡ Some c.in-Some.key = sym c.place_of.ensures ∙ c.in-Some.is in
    let made : Makes (view_of c.set_body.new.slots) c.self.inside.root c.self.inside.places.entries c.self.inside.next (with_body c.args.self.now c.args.number c.args.new) = body_set_made (view_of c.self.inside.slots) (view_of c.set_body.new.slots) c.self.inside.root c.self.inside.places.entries c.self.inside.next c.args.self.now m c.args.number c.in-Some.key c.args.new found c.requires.there c.requires.kind c.set_body.ensures in
    makes_view c.set_body.new.slots c.self.inside.root c.self.inside.places.entries c.self.inside.next (with_body c.args.self.now c.args.number c.args.new) made c.requires.layer (most_same c.self.view_is) (node_contracts.the_row).coded c.self-1.given.0

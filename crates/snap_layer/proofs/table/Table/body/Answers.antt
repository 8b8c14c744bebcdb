use Rattle.std.proofs.Common.{◌≡◌, Some, None, sym, ap, ◌∙◌}
use Rattle.snap_layer.specs.Walk.{view_of, body_at}
use Rattle.snap_layer.specs.Holds.{place}
use Rattle.snap_layer.proofs.Makes.{opens}
use Rattle.snap_layer.proofs.Changing.{body_found}
use Rattle.std.specs.Prelude.{option_and_then}
use Rattle.snap_layer.proofs.table.Table.body.Goals as goal

pub returns-in-Some : goal.returns-in-Some
returns-in-Some c =
    let m = opens c.self.inside.slots c.self.inside.root c.self.inside.places.entries c.self.inside.next c.args.self.now c.self.inside.tree c.self.invariant c.self.view_is in
    let found : place c.self.inside.places.entries c.args.number ≡ Some c.in-Some.key = sym c.place_of.ensures ∙ c.in-Some.is in
    c.body_at.ensures ∙ body_found (view_of c.self.inside.slots) c.self.inside.root c.self.inside.places.entries c.self.inside.next c.args.self.now m c.args.number c.in-Some.key found

pub returns-in-None : goal.returns-in-None
returns-in-None c =
    let m = opens c.self.inside.slots c.self.inside.root c.self.inside.places.entries c.self.inside.next c.args.self.now c.self.inside.tree c.self.invariant c.self.view_is in
    let none : place c.self.inside.places.entries c.args.number ≡ None = sym c.place_of.ensures ∙ c.in-None.is in
    sym (ap (option_and_then (body_at c.self.inside.slots)) none) ∙ m.bodies c.args.number

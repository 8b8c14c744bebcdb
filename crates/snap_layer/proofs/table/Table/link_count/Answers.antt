use Rattle.std.proofs.Common.{◌≡◌, None, sym, ◌∙◌, subst}
use Rattle.snap_layer.specs.Layers.{IsLayer}
use Rattle.snap_layer.specs.Walk.{view_of}
use Rattle.snap_layer.specs.Holds.{place}
use Rattle.snap_layer.proofs.Makes.{opens}
use Rattle.snap_layer.proofs.Changing.{nameless}
use Rattle.snap_layer.proofs.table.Table.link_count.Goals as goal

pub returns-in-None : goal.returns-in-None
returns-in-None c =
    let m = opens c.self.inside.slots c.self.inside.root c.self.inside.places.entries c.self.inside.next c.args.self.now c.self.inside.tree c.self.invariant c.self.view_is in
    let layer : IsLayer c.args.self.now = subst IsLayer c.self.view_is c.self.invariant.layer in
    let none : place c.self.inside.places.entries c.args.number ≡ None = sym c.place_of.ensures ∙ c.in-None.is in
    sym (nameless (view_of c.self.inside.slots) c.self.inside.root c.self.inside.places.entries c.self.inside.next c.args.self.now m layer c.args.number none)

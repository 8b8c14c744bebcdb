use Rattle.std.proofs.Common.{◌≡◌, IfOk, Some, None, sym, ap, subst, ◌∙◌}
use Rattle.snap_layer.specs.Layers.{IsLayer}
use Rattle.snap_layer.specs.Walk.{walk, entry_at}
use Rattle.snap_layer.proofs.Inside.{no_names}
use Rattle.snap_layer.proofs.Makes.{opens}
use Rattle.snap_layer.proofs.Listed.{names_are}
use Rattle.snap_layer.proofs.table.Table.children.Goals as goal

pub returns-in-Some : goal.returns-in-Some
returns-in-Some c =
    let m = opens c.self.inside.slots c.self.inside.root c.self.inside.places.entries c.self.inside.next c.args.self.now c.self.inside.tree c.self.invariant c.self.view_is in
    let layer : IsLayer c.args.self.now = subst IsLayer c.self.view_is c.self.invariant.layer in
    let is : walk (entry_at c.self.inside.slots) c.self.inside.root c.args.path.now ≡ Some c.in-Some.target = ap (walk (entry_at c.self.inside.slots) c.self.inside.root) (sym c.names.ensures.names) ∙ sym c.walk.ensures ∙ c.in-Some.is in
    subst (λ ns. IfOk c.names_in.result (λ names. names.items ≡ ns))
    (names_are c.self.inside.slots c.self.inside.root m.table.there c.args.self.now m.shows c.args.path.now (Some c.in-Some.target) is layer.sorted_paths c.names_in.ensures.order)
    c.names_in.ensures.names

pub returns-in-None : goal.returns-in-None
returns-in-None c =
    let m = opens c.self.inside.slots c.self.inside.root c.self.inside.places.entries c.self.inside.next c.args.self.now c.self.inside.tree c.self.invariant c.self.view_is in
    let layer : IsLayer c.args.self.now = subst IsLayer c.self.view_is c.self.invariant.layer in
    let is : walk (entry_at c.self.inside.slots) c.self.inside.root c.args.path.now ≡ None = ap (walk (entry_at c.self.inside.slots) c.self.inside.root) (sym c.names.ensures.names) ∙ sym c.walk.ensures ∙ c.in-None.is in
    c.new.ensures.items ∙ names_are c.self.inside.slots c.self.inside.root m.table.there c.args.self.now m.shows c.args.path.now None is layer.sorted_paths no_names

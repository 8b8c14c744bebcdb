use Rattle.std.proofs.Common.{◌≡◌, Some, None, refl, sym, ap, ◌∙◌}
use Rattle.snap_layer.specs.Walk.{walk, entry_at}
use Rattle.snap_layer.proofs.Makes.{opens}
use Rattle.snap_layer.proofs.Listed.{clear_from, all_clear}
use Rattle.snap_layer.proofs.table.Table.has_clear.Goals as goal

pub returns-in-Some : goal.returns-in-Some
returns-in-Some c =
    let m = opens c.self.inside.slots c.self.inside.root c.self.inside.places.entries c.self.inside.next c.args.self.now c.self.inside.tree c.self.invariant c.self.view_is in
    let is : walk (entry_at c.self.inside.slots) c.self.inside.root c.args.path.now ≡ Some c.in-Some.target = ap (walk (entry_at c.self.inside.slots) c.self.inside.root) (sym c.names.ensures.names) ∙ sym c.walk.ensures ∙ c.in-Some.is in (
      (λ yes n. clear_from c.self.inside.slots c.self.inside.root m.table.there c.args.self.now m.shows c.args.path.now (Some c.in-Some.target) is (sym c.are_whiteouts.ensures.all ∙ yes) n),
      λ clear. c.are_whiteouts.ensures.all ∙ all_clear c.self.inside.slots c.self.inside.root m.table.there c.args.self.now m.shows c.args.path.now (Some c.in-Some.target) is c.are_whiteouts.ensures.order clear,
    )

pub returns-in-None : goal.returns-in-None
returns-in-None c =
    let m = opens c.self.inside.slots c.self.inside.root c.self.inside.places.entries c.self.inside.next c.args.self.now c.self.inside.tree c.self.invariant c.self.view_is in
    let is : walk (entry_at c.self.inside.slots) c.self.inside.root c.args.path.now ≡ None = ap (walk (entry_at c.self.inside.slots) c.self.inside.root) (sym c.names.ensures.names) ∙ sym c.walk.ensures ∙ c.in-None.is in (
      (λ yes n. clear_from c.self.inside.slots c.self.inside.root m.table.there c.args.self.now m.shows c.args.path.now None is refl n),
      λ clear. refl,
    )

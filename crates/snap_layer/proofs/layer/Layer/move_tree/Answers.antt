use Rattle.std.proofs.Common.{◌≡◌, sym, ap, subst, ◌∙◌, refl, arith}
use Rattle.snap_layer.specs.Tree.{Tree}
use Rattle.snap_layer.specs.Layers.{IsLayer}
use Rattle.snap_layer.specs.Totals.{IsCounted}
use Rattle.snap_layer.proofs.Slots.{on_err_by}
use mir.Val.{bool_byte}
use Rattle.std.proofs.Common.{Bool, true, false}
use Rattle.snap_layer.specs.Edits.{with_moved}
use Rattle.snap_layer.proofs.Filling.{one_if}
use Rattle.snap_layer.proofs.Rooms.{costs_full, costs_layer, costs_counted, costs_memory, costs_done, path_moved, moved_costs}
use Rattle.snap_layer.proofs.layer.Layer.move_tree.Goals as goal

as_number : (b : Bool) → bool_byte b ≡ one_if b
as_number true = refl
as_number false = refl

pub returns-in_err-room-clause-full : goal.returns-in_err-room-clause-full
returns-in_err-room-clause-full c =
    let ok : IsLayer c.args.self.now = c.room_for.ensures.layer in
    let costs = moved_costs c.args.self.now ok c.args.from.now c.args.to.now c.args.leaves c.from.result c.requires (c.from.ensures ∙ as_number c.args.leaves) in
    costs_full (c.args.self.now) (with_moved c.args.self.now c.args.from.now c.args.to.now c.args.leaves) c.args.to.now 0 c.from.result 0 costs c.from_residual.result c.in_err-room.field-0.0 c.from_residual.ensures.1 c.in_err-room.ensures.full

pub relocate-requires-clause-layer : goal.relocate-requires-clause-layer
relocate-requires-clause-layer c =
    let ok : IsLayer c.args.self.now = c.room_for.ensures.layer in
    let costs = moved_costs c.args.self.now ok c.args.from.now c.args.to.now c.args.leaves c.from.result c.requires (c.from.ensures ∙ as_number c.args.leaves) in
    subst (λ (u : Tree). IsLayer (with_moved u c.args.from.now c.args.to.now c.args.leaves)) (sym c.self.view_is) (costs_layer (c.args.self.now) (with_moved c.args.self.now c.args.from.now c.args.to.now c.args.leaves) c.args.to.now 0 c.from.result 0 costs c.in_ok-room.ensures.fits)

pub returns-in_err-relocate-clause-full : goal.returns-in_err-relocate-clause-full
returns-in_err-relocate-clause-full c =
    let ok : IsLayer c.args.self.now = c.room_for.ensures.layer in
    let costs = moved_costs c.args.self.now ok c.args.from.now c.args.to.now c.args.leaves c.from.result c.requires (c.from.ensures ∙ as_number c.args.leaves) in
    costs_memory (c.args.self.now) (with_moved c.args.self.now c.args.from.now c.args.to.now c.args.leaves) c.args.to.now 0 c.from.result 0 costs c.in_ok-room.ensures.fits c.from_residual-in_err-relocate.result c.from_residual-in_err-relocate.ensures.1

pub returns-in_err-relocate-clause-err : goal.returns-in_err-relocate-clause-err
returns-in_err-relocate-clause-err c = on_err_by c.from_residual-in_err-relocate.result (c.in_err-relocate.ensures.err ∙ c.self.view_is)

pub invariant_of-self-2 : goal.invariant_of-self-2
invariant_of-self-2 c =
    let ok : IsLayer c.args.self.now = c.room_for.ensures.layer in
    let costs = moved_costs c.args.self.now ok c.args.from.now c.args.to.now c.args.leaves c.from.result c.requires (c.from.ensures ∙ as_number c.args.leaves) in
    let is : c.relocate.new.self ≡ with_moved c.args.self.now c.args.from.now c.args.to.now c.args.leaves = c.in_ok-relocate.ensures.ok ∙ ap (λ (u : Tree). with_moved u c.args.from.now c.args.to.now c.args.leaves) c.self.view_is in
    subst (IsCounted _) (sym is) (costs_counted (c.args.self.now) (with_moved c.args.self.now c.args.from.now c.args.to.now c.args.leaves) c.args.to.now 0 c.from.result 0 costs c.in_ok-room.ensures.fits _ _ c.in_ok-room.ensures.room refl refl (omega (arith, path_moved c.args.self.now ok c.args.from.now c.args.to.now c.args.leaves c.from.result c.requires (c.from.ensures ∙ as_number c.args.leaves), c.in_ok-room.ensures.room.paths)))

pub returns-clause-ok : goal.returns-clause-ok
returns-clause-ok c = c.in_ok-relocate.ensures.ok ∙ ap (λ (u : Tree). with_moved u c.args.from.now c.args.to.now c.args.leaves) c.self.view_is

pub returns-clause-full : goal.returns-clause-full
returns-clause-full c =
    let ok : IsLayer c.args.self.now = c.room_for.ensures.layer in
    let costs = moved_costs c.args.self.now ok c.args.from.now c.args.to.now c.args.leaves c.from.result c.requires (c.from.ensures ∙ as_number c.args.leaves) in
    costs_done (c.args.self.now) (with_moved c.args.self.now c.args.from.now c.args.to.now c.args.leaves) c.args.to.now 0 c.from.result 0 costs c.in_ok-room.ensures.fits _

pub returns-clause-layer : goal.returns-clause-layer
returns-clause-layer c =
    let ok : IsLayer c.args.self.now = c.room_for.ensures.layer in
    let costs = moved_costs c.args.self.now ok c.args.from.now c.args.to.now c.args.leaves c.from.result c.requires (c.from.ensures ∙ as_number c.args.leaves) in
    let is : c.relocate.new.self ≡ with_moved c.args.self.now c.args.from.now c.args.to.now c.args.leaves = c.in_ok-relocate.ensures.ok ∙ ap (λ (u : Tree). with_moved u c.args.from.now c.args.to.now c.args.leaves) c.self.view_is in
    subst IsLayer (sym is) (costs_layer (c.args.self.now) (with_moved c.args.self.now c.args.from.now c.args.to.now c.args.leaves) c.args.to.now 0 c.from.result 0 costs c.in_ok-room.ensures.fits)

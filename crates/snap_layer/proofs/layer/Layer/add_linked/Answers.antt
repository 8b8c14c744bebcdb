use Rattle.std.proofs.Common.{◌≡◌, sym, ap, subst, ◌∙◌, refl, arith}
use Rattle.snap_layer.specs.Tree.{Tree}
use Rattle.snap_layer.specs.Layers.{IsLayer}
use Rattle.snap_layer.specs.Totals.{IsCounted}
use Rattle.snap_layer.proofs.Slots.{on_err_by}
use Rattle.snap_layer.specs.Edits.{with_linked}
use Rattle.snap_layer.proofs.Bounds.{body_small}
use Rattle.snap_layer.proofs.Replacing.{HasPlace-from_room}
use Rattle.std.specs.Prelude.{◌<◌}
use Rattle.snap_path.specs.Limits.{most_number}
use Rattle.snap_layer.proofs.Rooms.{costs_full, costs_layer, costs_counted, costs_memory, costs_done, fits_next, path_linked, linked_costs}
use Rattle.snap_layer.proofs.layer.Layer.add_linked.Goals as goal

pub returns-in_err-room-clause-full : goal.returns-in_err-room-clause-full
returns-in_err-room-clause-full c =
    let ok : IsLayer c.args.self.now = c.room_for.ensures.layer in
    let costs = linked_costs c.args.self.now ok c.args.path.now c.args.link.now c.requires.rooms c.args.body c.blocks-2.result c.requires.fits c.names.ensures.valid c.room_for.ensures.path c.blocks-2.ensures in
    costs_full (c.args.self.now) (with_linked c.args.self.now c.args.path.now c.args.link.now c.args.body) c.args.link.now 1 1 c.blocks-2.result costs c.from_residual.result c.in_err-room.field-0.0 c.from_residual.ensures.1 c.in_err-room.ensures.full

pub put_linked-requires-clause-layer : goal.put_linked-requires-clause-layer
put_linked-requires-clause-layer c =
    let ok : IsLayer c.args.self.now = c.room_for.ensures.layer in
    let costs = linked_costs c.args.self.now ok c.args.path.now c.args.link.now c.requires.rooms c.args.body c.blocks-2.result c.requires.fits c.names.ensures.valid c.room_for.ensures.path c.blocks-2.ensures in
    subst (λ (u : Tree). IsLayer (with_linked u c.args.path.now c.args.link.now c.args.body)) (sym c.self.view_is) (costs_layer (c.args.self.now) (with_linked c.args.self.now c.args.path.now c.args.link.now c.args.body) c.args.link.now 1 1 c.blocks-2.result costs c.in_ok-room.ensures.fits)

pub returns-in_err-put_linked-clause-full : goal.returns-in_err-put_linked-clause-full
returns-in_err-put_linked-clause-full c =
    let ok : IsLayer c.args.self.now = c.room_for.ensures.layer in
    let costs = linked_costs c.args.self.now ok c.args.path.now c.args.link.now c.requires.rooms c.args.body c.blocks-2.result c.requires.fits c.names.ensures.valid c.room_for.ensures.path c.blocks-2.ensures in
    costs_memory (c.args.self.now) (with_linked c.args.self.now c.args.path.now c.args.link.now c.args.body) c.args.link.now 1 1 c.blocks-2.result costs c.in_ok-room.ensures.fits c.from_residual-in_err-put_linked.result c.from_residual-in_err-put_linked.ensures.1

pub returns-in_err-put_linked-clause-err : goal.returns-in_err-put_linked-clause-err
returns-in_err-put_linked-clause-err c = on_err_by c.from_residual-in_err-put_linked.result (c.in_err-put_linked.ensures.err ∙ c.self.view_is)

pub invariant_of-self-2 : goal.invariant_of-self-2
invariant_of-self-2 c =
    let ok : IsLayer c.args.self.now = c.room_for.ensures.layer in
    let costs = linked_costs c.args.self.now ok c.args.path.now c.args.link.now c.requires.rooms c.args.body c.blocks-2.result c.requires.fits c.names.ensures.valid c.room_for.ensures.path c.blocks-2.ensures in
    let is : c.put_linked.new.self ≡ with_linked c.args.self.now c.args.path.now c.args.link.now c.args.body = c.in_ok-put_linked.ensures.ok ∙ ap (λ (u : Tree). with_linked u c.args.path.now c.args.link.now c.args.body) c.self.view_is in
    subst (IsCounted _) (sym is) (costs_counted (c.args.self.now) (with_linked c.args.self.now c.args.path.now c.args.link.now c.args.body) c.args.link.now 1 1 c.blocks-2.result costs c.in_ok-room.ensures.fits _ _ c.in_ok-room.ensures.room refl refl (omega (arith, path_linked c.args.self.now ok c.args.path.now c.args.link.now c.requires.rooms c.args.body, c.in_ok-paths.ensures.ok, c.in_ok-room.ensures.room.paths)))

pub returns-clause-ok : goal.returns-clause-ok
returns-clause-ok c = c.in_ok-put_linked.ensures.ok ∙ ap (λ (u : Tree). with_linked u c.args.path.now c.args.link.now c.args.body) c.self.view_is

pub returns-clause-full : goal.returns-clause-full
returns-clause-full c =
    let ok : IsLayer c.args.self.now = c.room_for.ensures.layer in
    let costs = linked_costs c.args.self.now ok c.args.path.now c.args.link.now c.requires.rooms c.args.body c.blocks-2.result c.requires.fits c.names.ensures.valid c.room_for.ensures.path c.blocks-2.ensures in
    costs_done (c.args.self.now) (with_linked c.args.self.now c.args.path.now c.args.link.now c.args.body) c.args.link.now 1 1 c.blocks-2.result costs c.in_ok-room.ensures.fits _

pub returns-in_err-paths-clause-full : goal.returns-in_err-paths-clause-full
returns-in_err-paths-clause-full c =
    let ok : IsLayer c.args.self.now = c.room_for.ensures.layer in
    let costs = linked_costs c.args.self.now ok c.args.path.now c.args.link.now c.requires.rooms c.args.body c.blocks-2.result c.requires.fits c.names.ensures.valid c.room_for.ensures.path c.blocks-2.ensures in
    costs_memory (c.args.self.now) (with_linked c.args.self.now c.args.path.now c.args.link.now c.args.body) c.args.link.now 1 1 c.blocks-2.result costs c.in_ok-room.ensures.fits c.from_residual-in_err-paths.result c.from_residual-in_err-paths.ensures.1

pub room_for-requires-clause-blocks : goal.room_for-requires-clause-blocks
room_for-requires-clause-blocks c = omega (arith, c.blocks-2.ensures, body_small c.args.body c.requires.fits)

pub put_linked-requires-clause-last : goal.put_linked-requires-clause-last
put_linked-requires-clause-last c = subst (λ (u : Tree). u.next < most_number) (sym c.self.view_is) (omega (arith, fits_next c.args.self.now c.args.link.now 1 1 c.in_ok-room.ensures.fits))

pub room_for-requires-clause-clear : goal.room_for-requires-clause-clear
room_for-requires-clause-clear c = (HasPlace-from_room c.args.self.now c.args.link.now (subst IsLayer c.self.view_is c.self.invariant.1) c.requires.rooms.room).clear

pub returns-clause-layer : goal.returns-clause-layer
returns-clause-layer c =
    let ok : IsLayer c.args.self.now = c.room_for.ensures.layer in
    let costs = linked_costs c.args.self.now ok c.args.path.now c.args.link.now c.requires.rooms c.args.body c.blocks-2.result c.requires.fits c.names.ensures.valid c.room_for.ensures.path c.blocks-2.ensures in
    let is : c.put_linked.new.self ≡ with_linked c.args.self.now c.args.path.now c.args.link.now c.args.body = c.in_ok-put_linked.ensures.ok ∙ ap (λ (u : Tree). with_linked u c.args.path.now c.args.link.now c.args.body) c.self.view_is in
    subst IsLayer (sym is) (costs_layer (c.args.self.now) (with_linked c.args.self.now c.args.path.now c.args.link.now c.args.body) c.args.link.now 1 1 c.blocks-2.result costs c.in_ok-room.ensures.fits)

use Rattle.std.proofs.Common.{◌≡◌, sym, ap, subst, ◌∙◌, refl, arith}
use Rattle.snap_layer.specs.Tree.{Tree}
use Rattle.snap_layer.specs.Layers.{IsLayer}
use Rattle.snap_layer.specs.Totals.{IsCounted}
use Rattle.snap_layer.proofs.Slots.{on_err_by}
use Rattle.snap_layer.specs.declared.node.Node.TheVariants.{Dir}
use Rattle.snap_layer.specs.Edits.{with_entry}
use Rattle.snap_layer.proofs.Replacing.{with_node-free, HasPlace-from_room}
use Rattle.snap_layer.specs.Totals.{path_count}
use Rattle.snap_layer.proofs.Rooms.{costs_full, costs_layer, costs_counted, costs_memory, costs_done, dir_costs}
use Rattle.snap_layer.proofs.Totaling.{path_count-with_node}
use Rattle.snap_layer.proofs.layer.Layer.add_dir.Goals as goal

pub returns-in_err-room-clause-full : goal.returns-in_err-room-clause-full
returns-in_err-room-clause-full c =
    let ok : IsLayer c.args.self.now = c.room_for.ensures.layer in
    let costs = dir_costs c.args.self.now ok c.args.path.now c.room_for.ensures.path c.args.meta c.args.opaque c.requires.room c.requires.meta in
    costs_full (c.args.self.now) (with_entry c.args.self.now c.args.path.now (Dir c.args.meta c.args.opaque)) c.args.path.now 0 1 1 costs c.from_residual.result c.in_err-room.field-0.0 c.from_residual.ensures.1 c.in_err-room.ensures.full

pub put_dir-requires-clause-layer : goal.put_dir-requires-clause-layer
put_dir-requires-clause-layer c =
    let ok : IsLayer c.args.self.now = c.room_for.ensures.layer in
    let costs = dir_costs c.args.self.now ok c.args.path.now c.room_for.ensures.path c.args.meta c.args.opaque c.requires.room c.requires.meta in
    subst (λ (u : Tree). IsLayer (with_entry u c.args.path.now (Dir c.args.meta c.args.opaque))) (sym c.self.view_is) (costs_layer (c.args.self.now) (with_entry c.args.self.now c.args.path.now (Dir c.args.meta c.args.opaque)) c.args.path.now 0 1 1 costs c.in_ok-room.ensures.fits)

pub returns-in_err-put_dir-clause-full : goal.returns-in_err-put_dir-clause-full
returns-in_err-put_dir-clause-full c =
    let ok : IsLayer c.args.self.now = c.room_for.ensures.layer in
    let costs = dir_costs c.args.self.now ok c.args.path.now c.room_for.ensures.path c.args.meta c.args.opaque c.requires.room c.requires.meta in
    costs_memory (c.args.self.now) (with_entry c.args.self.now c.args.path.now (Dir c.args.meta c.args.opaque)) c.args.path.now 0 1 1 costs c.in_ok-room.ensures.fits c.from_residual-in_err-put_dir.result c.from_residual-in_err-put_dir.ensures.1

pub returns-in_err-put_dir-clause-err : goal.returns-in_err-put_dir-clause-err
returns-in_err-put_dir-clause-err c = on_err_by c.from_residual-in_err-put_dir.result (c.in_err-put_dir.ensures.err ∙ c.self.view_is)

pub invariant_of-self-2 : goal.invariant_of-self-2
invariant_of-self-2 c =
    let ok : IsLayer c.args.self.now = c.room_for.ensures.layer in
    let costs = dir_costs c.args.self.now ok c.args.path.now c.room_for.ensures.path c.args.meta c.args.opaque c.requires.room c.requires.meta in
    let is : c.put_dir.new.self ≡ with_entry c.args.self.now c.args.path.now (Dir c.args.meta c.args.opaque) = c.in_ok-put_dir.ensures.ok ∙ ap (λ (u : Tree). with_entry u c.args.path.now (Dir c.args.meta c.args.opaque)) c.self.view_is in
    subst (IsCounted _) (sym is) (costs_counted (c.args.self.now) (with_entry c.args.self.now c.args.path.now (Dir c.args.meta c.args.opaque)) c.args.path.now 0 1 1 costs c.in_ok-room.ensures.fits _ _ c.in_ok-room.ensures.room refl refl (omega (arith, path_count-with_node c.args.self.now c.args.path.now (Dir c.args.meta c.args.opaque) ok.sorted_paths, ap path_count (with_node-free c.args.self.now ok c.args.path.now (Dir c.args.meta c.args.opaque) c.requires.room.free), c.in_ok-room.ensures.room.paths)))

pub returns-clause-ok : goal.returns-clause-ok
returns-clause-ok c = c.in_ok-put_dir.ensures.ok ∙ ap (λ (u : Tree). with_entry u c.args.path.now (Dir c.args.meta c.args.opaque)) c.self.view_is

pub returns-clause-full : goal.returns-clause-full
returns-clause-full c =
    let ok : IsLayer c.args.self.now = c.room_for.ensures.layer in
    let costs = dir_costs c.args.self.now ok c.args.path.now c.room_for.ensures.path c.args.meta c.args.opaque c.requires.room c.requires.meta in
    costs_done (c.args.self.now) (with_entry c.args.self.now c.args.path.now (Dir c.args.meta c.args.opaque)) c.args.path.now 0 1 1 costs c.in_ok-room.ensures.fits _

pub room_for-requires-clause-clear : goal.room_for-requires-clause-clear
room_for-requires-clause-clear c = (HasPlace-from_room c.args.self.now c.args.path.now (subst IsLayer c.self.view_is c.self.invariant.1) c.requires.room).clear

pub returns-clause-layer : goal.returns-clause-layer
returns-clause-layer c =
    let ok : IsLayer c.args.self.now = c.room_for.ensures.layer in
    let costs = dir_costs c.args.self.now ok c.args.path.now c.room_for.ensures.path c.args.meta c.args.opaque c.requires.room c.requires.meta in
    let is : c.put_dir.new.self ≡ with_entry c.args.self.now c.args.path.now (Dir c.args.meta c.args.opaque) = c.in_ok-put_dir.ensures.ok ∙ ap (λ (u : Tree). with_entry u c.args.path.now (Dir c.args.meta c.args.opaque)) c.self.view_is in
    subst IsLayer (sym is) (costs_layer (c.args.self.now) (with_entry c.args.self.now c.args.path.now (Dir c.args.meta c.args.opaque)) c.args.path.now 0 1 1 costs c.in_ok-room.ensures.fits)

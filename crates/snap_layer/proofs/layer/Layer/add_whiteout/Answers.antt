use Rattle.std.proofs.Common.{◌≡◌, sym, ap, subst, ◌∙◌, refl, arith}
use Rattle.snap_layer.specs.Tree.{Tree}
use Rattle.snap_layer.specs.Layers.{IsLayer}
use Rattle.snap_layer.specs.Totals.{path_count, Counts, IsCounted}
use Rattle.snap_layer.proofs.Slots.{on_err_by}
use Rattle.snap_layer.specs.declared.node.Node.TheVariants.{Whiteout}
use Rattle.snap_layer.specs.Edits.{with_node, without}
use Rattle.snap_layer.proofs.Rooms.{costs_full, costs_layer, costs_counted, costs_memory, costs_done, last_by, whiteout_costs}
use Rattle.snap_layer.proofs.Totaling.{path_count-with_node, path_gone}
use Rattle.snap_layer.proofs.layer.Layer.add_whiteout.Goals as goal

pub returns-in_err-room-clause-full : goal.returns-in_err-room-clause-full
returns-in_err-room-clause-full c =
    let ok : IsLayer c.args.self.now = c.room_for.ensures.layer in
    let costs = whiteout_costs c.args.self.now ok c.args.path.now c.room_for.ensures.path c.requires in
    costs_full (c.args.self.now) (with_node c.args.self.now c.args.path.now Whiteout) c.args.path.now 0 1 0 costs c.from_residual.result c.in_err-room.field-0.0 c.from_residual.ensures.1 c.in_err-room.ensures.full

pub whiteout-requires-clause-layer : goal.whiteout-requires-clause-layer
whiteout-requires-clause-layer c =
    let ok : IsLayer c.args.self.now = c.room_for.ensures.layer in
    let costs = whiteout_costs c.args.self.now ok c.args.path.now c.room_for.ensures.path c.requires in
    subst (λ (u : Tree). IsLayer (with_node u c.args.path.now Whiteout)) (sym c.self.view_is) (costs_layer (c.args.self.now) (with_node c.args.self.now c.args.path.now Whiteout) c.args.path.now 0 1 0 costs c.in_ok-room.ensures.fits)

pub returns-in_err-whiteout-clause-full : goal.returns-in_err-whiteout-clause-full
returns-in_err-whiteout-clause-full c =
    let ok : IsLayer c.args.self.now = c.room_for.ensures.layer in
    let costs = whiteout_costs c.args.self.now ok c.args.path.now c.room_for.ensures.path c.requires in
    costs_memory (c.args.self.now) (with_node c.args.self.now c.args.path.now Whiteout) c.args.path.now 0 1 0 costs c.in_ok-room.ensures.fits c.from_residual-in_err-whiteout.result c.from_residual-in_err-whiteout.ensures.1

pub returns-in_err-whiteout-clause-err : goal.returns-in_err-whiteout-clause-err
returns-in_err-whiteout-clause-err c = on_err_by c.from_residual-in_err-whiteout.result (c.in_err-whiteout.ensures.err ∙ c.self.view_is)

pub invariant_of-self-2 : goal.invariant_of-self-2
invariant_of-self-2 c =
    let ok : IsLayer c.args.self.now = c.room_for.ensures.layer in
    let costs = whiteout_costs c.args.self.now ok c.args.path.now c.room_for.ensures.path c.requires in
    let is : c.whiteout.new.self ≡ with_node c.args.self.now c.args.path.now Whiteout = c.in_ok-whiteout.ensures.ok ∙ ap (λ (u : Tree). with_node u c.args.path.now Whiteout) c.self.view_is in
    subst (IsCounted _) (sym is) (costs_counted (c.args.self.now) (with_node c.args.self.now c.args.path.now Whiteout) c.args.path.now 0 1 0 costs c.in_ok-room.ensures.fits _ _ c.in_ok-room.ensures.room refl refl (omega (arith, path_count-with_node c.args.self.now c.args.path.now Whiteout ok.sorted_paths, c.in_ok-room.ensures.room.paths)))

pub returns-clause-ok : goal.returns-clause-ok
returns-clause-ok c = c.in_ok-whiteout.ensures.ok ∙ ap (λ (u : Tree). with_node u c.args.path.now Whiteout) c.self.view_is

pub returns-clause-full : goal.returns-clause-full
returns-clause-full c =
    let ok : IsLayer c.args.self.now = c.room_for.ensures.layer in
    let costs = whiteout_costs c.args.self.now ok c.args.path.now c.room_for.ensures.path c.requires in
    costs_done (c.args.self.now) (with_node c.args.self.now c.args.path.now Whiteout) c.args.path.now 0 1 0 costs c.in_ok-room.ensures.fits _

pub returns-in_err-room-clause-sure : goal.returns-in_err-room-clause-sure
returns-in_err-room-clause-sure c = λ e.
    let had : Counts c.self.inside.totals c.args.self.now = subst (Counts c.self.inside.totals) c.self.view_is c.self.invariant.0 in
    path_gone c.args.self.now c.room_for.ensures.layer c.args.path.now (path_count (without c.args.self.now c.args.path.now)) refl (omega (arith, had.paths, c.self.ranges)) (last_by c.from_residual.result c.in_err-room.field-0.0 (path_count (without c.args.self.now c.args.path.now)) c.from_residual.ensures.1 c.in_err-room.ensures.last e)

pub returns-clause-layer : goal.returns-clause-layer
returns-clause-layer c =
    let ok : IsLayer c.args.self.now = c.room_for.ensures.layer in
    let costs = whiteout_costs c.args.self.now ok c.args.path.now c.room_for.ensures.path c.requires in
    let is : c.whiteout.new.self ≡ with_node c.args.self.now c.args.path.now Whiteout = c.in_ok-whiteout.ensures.ok ∙ ap (λ (u : Tree). with_node u c.args.path.now Whiteout) c.self.view_is in
    subst IsLayer (sym is) (costs_layer (c.args.self.now) (with_node c.args.self.now c.args.path.now Whiteout) c.args.path.now 0 1 0 costs c.in_ok-room.ensures.fits)

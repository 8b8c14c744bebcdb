use Rattle.std.proofs.Common.{◌≡◌, sym, ap, subst, ◌∙◌, refl, arith}
use Rattle.snap_layer.specs.Tree.{Tree}
use Rattle.snap_layer.specs.Layers.{IsLayer}
use Rattle.snap_layer.specs.Totals.{IsCounted}
use Rattle.snap_layer.proofs.Slots.{on_err_by}
use Rattle.snap_layer.specs.Tree.{leaf_node}
use Rattle.snap_layer.specs.Edits.{with_new}
use Rattle.snap_layer.proofs.Bounds.{body_small}
use Rattle.std.specs.Prelude.{◌<◌}
use Rattle.snap_path.specs.Limits.{most_number}
use Rattle.snap_layer.proofs.Rooms.{costs_full, costs_layer, costs_counted, costs_memory, costs_done, fits_next, new_costs}
use Rattle.snap_layer.proofs.Totaling.{path_count-with_node}
use Rattle.snap_layer.proofs.layer.Layer.add_body.Goals as goal

pub returns-in_err-room-clause-full : goal.returns-in_err-room-clause-full
returns-in_err-room-clause-full c =
    let ok : IsLayer c.args.self.now = c.room_for.ensures.layer in
    let costs = new_costs c.args.self.now ok c.args.path.now c.room_for.ensures.path c.args.body c.blocks-2.result c.requires.place c.requires.fits c.blocks-2.ensures in
    costs_full (c.args.self.now) (with_new c.args.self.now c.args.path.now (leaf_node c.args.self.now.next c.args.body) c.args.body) c.args.path.now 1 1 c.blocks-2.result costs c.from_residual.result c.in_err-room.field-0.0 c.from_residual.ensures.1 c.in_err-room.ensures.full

pub put_leaf-requires-clause-layer : goal.put_leaf-requires-clause-layer
put_leaf-requires-clause-layer c =
    let ok : IsLayer c.args.self.now = c.room_for.ensures.layer in
    let costs = new_costs c.args.self.now ok c.args.path.now c.room_for.ensures.path c.args.body c.blocks-2.result c.requires.place c.requires.fits c.blocks-2.ensures in
    subst (λ (u : Tree). IsLayer (with_new u c.args.path.now (leaf_node u.next c.args.body) c.args.body)) (sym c.self.view_is) (costs_layer (c.args.self.now) (with_new c.args.self.now c.args.path.now (leaf_node c.args.self.now.next c.args.body) c.args.body) c.args.path.now 1 1 c.blocks-2.result costs c.in_ok-room.ensures.fits)

pub returns-in_err-put_leaf-clause-full : goal.returns-in_err-put_leaf-clause-full
returns-in_err-put_leaf-clause-full c =
    let ok : IsLayer c.args.self.now = c.room_for.ensures.layer in
    let costs = new_costs c.args.self.now ok c.args.path.now c.room_for.ensures.path c.args.body c.blocks-2.result c.requires.place c.requires.fits c.blocks-2.ensures in
    costs_memory (c.args.self.now) (with_new c.args.self.now c.args.path.now (leaf_node c.args.self.now.next c.args.body) c.args.body) c.args.path.now 1 1 c.blocks-2.result costs c.in_ok-room.ensures.fits c.from_residual-in_err-put_leaf.result c.from_residual-in_err-put_leaf.ensures.1

pub returns-in_err-put_leaf-clause-err : goal.returns-in_err-put_leaf-clause-err
returns-in_err-put_leaf-clause-err c = on_err_by c.from_residual-in_err-put_leaf.result (c.in_err-put_leaf.ensures.err ∙ c.self.view_is)

pub invariant_of-self-2 : goal.invariant_of-self-2
invariant_of-self-2 c =
    let ok : IsLayer c.args.self.now = c.room_for.ensures.layer in
    let costs = new_costs c.args.self.now ok c.args.path.now c.room_for.ensures.path c.args.body c.blocks-2.result c.requires.place c.requires.fits c.blocks-2.ensures in
    let is : c.put_leaf.new.self ≡ with_new c.args.self.now c.args.path.now (leaf_node c.args.self.now.next c.args.body) c.args.body = c.in_ok-put_leaf.ensures.ok ∙ ap (λ (u : Tree). with_new u c.args.path.now (leaf_node u.next c.args.body) c.args.body) c.self.view_is in
    subst (IsCounted _) (sym is) (costs_counted (c.args.self.now) (with_new c.args.self.now c.args.path.now (leaf_node c.args.self.now.next c.args.body) c.args.body) c.args.path.now 1 1 c.blocks-2.result costs c.in_ok-room.ensures.fits _ _ c.in_ok-room.ensures.room refl refl (omega (arith, path_count-with_node c.args.self.now c.args.path.now (leaf_node c.args.self.now.next c.args.body) ok.sorted_paths, c.in_ok-room.ensures.room.paths)))

pub returns-clause-ok : goal.returns-clause-ok
returns-clause-ok c = c.in_ok-put_leaf.ensures.ok ∙ ap (λ (u : Tree). with_new u c.args.path.now (leaf_node u.next c.args.body) c.args.body) c.self.view_is

pub returns-clause-full : goal.returns-clause-full
returns-clause-full c =
    let ok : IsLayer c.args.self.now = c.room_for.ensures.layer in
    let costs = new_costs c.args.self.now ok c.args.path.now c.room_for.ensures.path c.args.body c.blocks-2.result c.requires.place c.requires.fits c.blocks-2.ensures in
    costs_done (c.args.self.now) (with_new c.args.self.now c.args.path.now (leaf_node c.args.self.now.next c.args.body) c.args.body) c.args.path.now 1 1 c.blocks-2.result costs c.in_ok-room.ensures.fits _

pub room_for-requires-clause-blocks : goal.room_for-requires-clause-blocks
room_for-requires-clause-blocks c = omega (arith, c.blocks-2.ensures, body_small c.args.body c.requires.fits)

pub put_leaf-requires-clause-last : goal.put_leaf-requires-clause-last
put_leaf-requires-clause-last c = subst (λ (u : Tree). u.next < most_number) (sym c.self.view_is) (omega (arith, fits_next c.args.self.now c.args.path.now 1 1 c.in_ok-room.ensures.fits))

pub returns-clause-layer : goal.returns-clause-layer
returns-clause-layer c =
    let ok : IsLayer c.args.self.now = c.room_for.ensures.layer in
    let costs = new_costs c.args.self.now ok c.args.path.now c.room_for.ensures.path c.args.body c.blocks-2.result c.requires.place c.requires.fits c.blocks-2.ensures in
    let is : c.put_leaf.new.self ≡ with_new c.args.self.now c.args.path.now (leaf_node c.args.self.now.next c.args.body) c.args.body = c.in_ok-put_leaf.ensures.ok ∙ ap (λ (u : Tree). with_new u c.args.path.now (leaf_node u.next c.args.body) c.args.body) c.self.view_is in
    subst IsLayer (sym is) (costs_layer (c.args.self.now) (with_new c.args.self.now c.args.path.now (leaf_node c.args.self.now.next c.args.body) c.args.body) c.args.path.now 1 1 c.blocks-2.result costs c.in_ok-room.ensures.fits)

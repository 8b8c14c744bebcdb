use Rattle.std.proofs.Common.{◌≡◌, false, true, [], ◌+◌, ◌-◌, ◌∷◌, ◌++◌, length, take, sym, ap, subst, ◌∙◌, arith}
use Rattle.std.specs.FinMap as map
use Rattle.snap_layer.specs.contracts.node.Node as node_contracts
use Rattle.snap_path.specs.Text.{Names, text_below}
use Rattle.snap_layer.specs.Rows.{Frames, Progress, frame_of, last_path, ahead, spread, frames_text, IsWalk}
use Rattle.snap_layer.proofs.Walking.{step_few, step_room, step_skip, step_walk, step_row, step_text, step_path, step_above, walk_ended, same_entries}
use Rattle.snap_layer.proofs.rows.Rows.try_next.Goals as goal

pub invariant_of-self : goal.invariant_of-self
invariant_of-self g c = (
  subst (λ es. IsWalk c.self.inside.slots.now c.self.inside.root es c.self.inside.front.now c.advance.new.frames.items)
      (same_entries (node_contracts.the_row).coded c.self.inside.slots.now c.self.inside.root c.self.inside.tree c.self-1.given.0)
      (walk_ended c.self.inside.slots.now c.self.inside.root (map.entries c.self.inside.tree.0) c.self.inside.front.now c.self.inside.frames.items c.advance.new.frames.items c.self.invariant.0 c.in_default.ensures.gone),
  c.in_default.ensures.text,
  omega (arith, c.self.invariant.2, c.in_default.ensures.capacity),
  c.in_default.ensures.room,
)

pub invariant_of-self-in_err-reserve : goal.invariant_of-self-in_err-reserve
invariant_of-self-in_err-reserve g c =
    let same : c.reserve.new.self.items ≡ c.advance.new.frames.items = c.reserve.ensures.items in (
      subst (λ es. IsWalk c.self.inside.slots.now c.self.inside.root es c.self.inside.front.now c.reserve.new.self.items)
          (same_entries (node_contracts.the_row).coded c.self.inside.slots.now c.self.inside.root c.self.inside.tree c.in_err-reserve.self-in-Break-1-own.given.0)
          (subst (IsWalk c.self.inside.slots.now c.self.inside.root (map.entries c.self.inside.tree.0) c.self.inside.front.now) (sym same) (step_skip c.self.inside.slots.now c.self.inside.root (map.entries c.self.inside.tree.0) c.self.inside.front.now c.self.inside.frames.items c.advance.new.frames.items c.in-Some.name.now c.in-Some.target c.self.invariant.0 c.in-Some.ensures.passes (c.in-Some.ensures.ahead c.self.inside.front.now))),
      c.in-Some.ensures.text ∙ ap frames_text (sym same),
      omega (arith, c.self.invariant.2, c.in-Some.ensures.capacity, c.reserve.ensures.capacity),
      omega (arith, c.in-Some.ensures.room, ap (λ (fs : Frames). length fs) same, c.reserve.ensures.capacity),
    )

pub returns-in_err-reserve-clause-sure : goal.returns-in_err-reserve-clause-sure
returns-in_err-reserve-clause-sure g c = λ most. absurd (by (c.in_err-reserve.ensures.succeeds (omega (arith, most, c.self.invariant.2, c.in-Some.ensures.capacity, step_room c.self.inside.slots.now c.self.inside.root (map.entries c.self.inside.tree.0) c.self.inside.front.now c.self.inside.frames.items c.advance.new.frames.items c.in-Some.name.now c.in-Some.target c.self.invariant.0 c.in-Some.ensures.passes (c.in-Some.ensures.ahead c.self.inside.front.now)))))
  where
    by : false ≡ true → ⊥
    by e = cc

pub overflow_add-above : goal.overflow_add-above
overflow_add-above g c = omega (arith, step_few c.self.inside.slots.now c.self.inside.root (map.entries c.self.inside.tree.0) c.self.inside.front.now c.self.inside.frames.items c.advance.new.frames.items c.in-Some.name.now c.in-Some.target c.self.invariant.0 c.in-Some.ensures.passes (c.in-Some.ensures.ahead c.self.inside.front.now), c.len.ensures.value, ap (λ (fs : Frames). length fs) c.reserve.ensures.items)

pub invariant_of-self-2 : goal.invariant_of-self-2
invariant_of-self-2 g c = (
  subst (λ es. IsWalk c.self.inside.slots.now c.self.inside.root es c.self.inside.front.now c.enter.new.frames.items)
      (same_entries (node_contracts.the_row).coded c.self.inside.slots.now c.self.inside.root c.self.inside.tree c.self-2-1.given.0)
      (step_walk c.self.inside.slots.now c.self.inside.root (map.entries c.self.inside.tree.0) c.self.inside.front.now c.self.inside.frames.items c.advance.new.frames.items c.in-Some.name.now c.in-Some.target c.self.invariant.0 c.in-Some.ensures.passes (c.in-Some.ensures.ahead c.self.inside.front.now) c.enter.new.frames.items (c.enter.ensures.items ∙ ap (λ (fs : Frames). fs ++ frame_of c.in-Some.target) c.reserve.ensures.items) c.in-Some-node_of_target.node c.in-Some-node_of_target.ensures.node c.in-Some-node_of_target.ensures.order),
  (step_text c.self.inside.slots.now c.self.inside.root (map.entries c.self.inside.tree.0) c.self.inside.front.now c.self.inside.frames.items c.advance.new.frames.items c.in-Some.name.now c.in-Some.target c.self.invariant.0 c.in-Some.ensures.passes (c.in-Some.ensures.ahead c.self.inside.front.now) c.enter.new.frames.items (c.enter.ensures.items ∙ ap (λ (fs : Frames). fs ++ frame_of c.in-Some.target) c.reserve.ensures.items) c.in-Some-node_of_target.node c.in-Some-node_of_target.ensures.node c.in-Some-node_of_target.ensures.order c.advance.new.text c.in-Some.ensures.text).0,
  omega (arith, c.self.invariant.2, c.in-Some.ensures.capacity, c.reserve.ensures.capacity, c.enter.ensures.capacity),
  c.enter.ensures.room,
)

pub returns-clause-row : goal.returns-clause-row
returns-clause-row g c =
    sym (ap (λ (s : Progress). s.rest) c.self.view_is)
    ∙ step_row c.self.inside.slots.now c.self.inside.root (map.entries c.self.inside.tree.0) c.self.inside.front.now c.self.inside.frames.items c.advance.new.frames.items c.in-Some.name.now c.in-Some.target c.self.invariant.0 c.in-Some.ensures.passes (c.in-Some.ensures.ahead c.self.inside.front.now) c.enter.new.frames.items (c.enter.ensures.items ∙ ap (λ (fs : Frames). fs ++ frame_of c.in-Some.target) c.reserve.ensures.items) c.in-Some-node_of_target.node c.in-Some-node_of_target.ensures.node c.in-Some-node_of_target.ensures.order
    ∙ ap (λ es. (last_path c.self.inside.front.now c.enter.new.frames.items, c.in-Some-node_of_target.node) ∷ spread es (ahead c.self.inside.slots.now c.self.inside.front.now c.enter.new.frames.items)) (same_entries (node_contracts.the_row).coded c.self.inside.slots.now c.self.inside.root c.self.inside.tree c.self-2-1.given.0)

pub returns-clause-path : goal.returns-clause-path
returns-clause-path g c =
    step_path c.self.inside.slots.now c.self.inside.root (map.entries c.self.inside.tree.0) c.self.inside.front.now c.self.inside.frames.items c.advance.new.frames.items c.in-Some.name.now c.in-Some.target c.self.invariant.0 c.in-Some.ensures.passes (c.in-Some.ensures.ahead c.self.inside.front.now) c.enter.new.frames.items (c.enter.ensures.items ∙ ap (λ (fs : Frames). fs ++ frame_of c.in-Some.target) c.reserve.ensures.items) c.in-Some-node_of_target.node c.in-Some-node_of_target.ensures.node c.in-Some-node_of_target.ensures.order c.len.result (c.len.ensures.value ∙ ap (λ (fs : Frames). length fs) c.reserve.ensures.items)
    ∙ ap (λ (q : Names). take (length c.self.inside.front.now + (c.len.result - 1)) q ++ c.in-Some.name.now ∷ []) (ap (λ (s : Progress). s.path) c.self.view_is)

pub returns-clause-above : goal.returns-clause-above
returns-clause-above g c =
    step_above c.self.inside.slots.now c.self.inside.root (map.entries c.self.inside.tree.0) c.self.inside.front.now c.self.inside.frames.items c.advance.new.frames.items c.in-Some.name.now c.in-Some.target c.self.invariant.0 c.in-Some.ensures.passes (c.in-Some.ensures.ahead c.self.inside.front.now) c.enter.new.frames.items (c.enter.ensures.items ∙ ap (λ (fs : Frames). fs ++ frame_of c.in-Some.target) c.reserve.ensures.items) c.in-Some-node_of_target.node c.in-Some-node_of_target.ensures.node c.in-Some-node_of_target.ensures.order c.len.result (c.len.ensures.value ∙ ap (λ (fs : Frames). length fs) c.reserve.ensures.items)

pub returns-clause-text : goal.returns-clause-text
returns-clause-text g c =
    (step_text c.self.inside.slots.now c.self.inside.root (map.entries c.self.inside.tree.0) c.self.inside.front.now c.self.inside.frames.items c.advance.new.frames.items c.in-Some.name.now c.in-Some.target c.self.invariant.0 c.in-Some.ensures.passes (c.in-Some.ensures.ahead c.self.inside.front.now) c.enter.new.frames.items (c.enter.ensures.items ∙ ap (λ (fs : Frames). fs ++ frame_of c.in-Some.target) c.reserve.ensures.items) c.in-Some-node_of_target.node c.in-Some-node_of_target.ensures.node c.in-Some-node_of_target.ensures.order c.advance.new.text c.in-Some.ensures.text).1
    ∙ ap (λ (s : Progress). length (text_below s.front) + c.advance.new.text) c.self.view_is

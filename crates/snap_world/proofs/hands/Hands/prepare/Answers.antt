use Rattle.std.proofs.Common.{ℕ, ◌<◌, length, Some, sym, ap, ◌∙◌, subst}
use Rattle.snap_book.specs.Active.{fresh}
use Rattle.snap_world.specs.World.{HandValue, hand_at, with_hand, world_of}
use Rattle.snap_world.proofs.Does.{answered_granted, full_granted, prepare_left}
use Rattle.snap_world.proofs.Hold.{prepared_free, prepared_low}
use Rattle.snap_world.proofs.hands.Hands.prepare.Goals as goal

pub put-requires-clause-free : goal.put-requires-clause-free
put-requires-clause-free g c =
    ap (λ (k : ℕ). hand_at k c.args.self.now) c.slot-slot.ensures.slot
    ∙ prepared_free (world_of c.args.book.now c.args.self.now) c.args.namespace.now c.args.key.now c.args.parent.now c.args.labels.now _ _ _ c.requires c.in-Ok.ensures.granted.answer

pub put-requires-clause-low : goal.put-requires-clause-low
put-requires-clause-low g c =
    subst (λ (k : ℕ). k < length c.args.self.now) (sym c.slot-slot.ensures.slot)
    (prepared_low (world_of c.args.book.now c.args.self.now) c.args.namespace.now c.args.key.now c.args.parent.now c.args.labels.now _ _ _ c.requires c.in-Ok.ensures.granted.answer)

pub returns-in-Ok-clause-answered : goal.returns-in-Ok-clause-answered
returns-in-Ok-clause-answered g c = answered_granted c.args.book.now _ _ _ _ _ _ _ c.in-Ok.reply c.in-Ok.ensures.granted c.in-Ok.ensures.reply

pub returns-in-Ok-clause-hands : goal.returns-in-Ok-clause-hands
returns-in-Ok-clause-hands g c =
    let given = c.in-Ok.ensures in
    let layer = given.layer ∙ ap (λ n. fresh n c.in-Ok.active.lowers) c.layer_inodes-layer_inodes.ensures.same in
    prepare_left c.args.book.now.state.layer_inodes c.args.namespace.now c.args.key.now c.args.parent.now c.args.book.now.state.namespaces c.args.book.now.state.records c.args.self.now _ c.in-Ok.active c.slot-slot.result c.in-Ok.reply
    given.reply given.namespace given.key given.lowers layer given.usage c.slot-slot.ensures.slot
    (c.put.ensures ∙ ap (λ (h : HandValue). with_hand c.slot-slot.result (Some h) c.args.self.now) c.of.ensures)

pub returns-in-Ok-clause-full : goal.returns-in-Ok-clause-full
returns-in-Ok-clause-full g c =
    full_granted (c.in-Ok.active, c.in-Ok.reply) _ _ _ c.in-Ok.reply _ c.in-Ok.ensures.reply c.in-Ok.ensures.full

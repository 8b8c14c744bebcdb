use Rattle.std.proofs.Common.{◌≡◌, ◌∷◌, refl, sym, subst, ◌∙◌}
use Rattle.snap_layer.specs.Walk.{body_at}
use Rattle.snap_layer.specs.Rows.{AreHoused}
use Rattle.snap_layer.proofs.Housed.{same_next}
use Rattle.snap_layer.proofs.table.same.has_same_bodies.Goals as goal

pub loop-number-preserved : goal.loop-number-preserved
loop-number-preserved c =
    let first : c.loop-number.number-iterator ≡ (c.in-Some.number.now, c.in-Some.key.now) ∷ c.next.new.self = c.in-Some.ensures.steps in
    let second : c.loop-number.others ≡ (c.in-Some-next.other_number.now, c.in-Some-next.other_key.now) ∷ c.next-in-loop-number.new.self = c.in-Some-next.ensures.steps in
    let had : AreHoused c.args.slots.now ((c.in-Some.number.now, c.in-Some.key.now) ∷ c.next.new.self) = subst (AreHoused c.args.slots.now) first c.loop-number.invariant.bodies in
    let has : AreHoused c.args.other_slots.now ((c.in-Some-next.other_number.now, c.in-Some-next.other_key.now) ∷ c.next-in-loop-number.new.self) = subst (AreHoused c.args.other_slots.now) second c.loop-number.invariant.others in
    record {
      ready = tt;
      finite = tt;
      left = same_next (body_at c.args.slots.now) (body_at c.args.other_slots.now) c.loop-number.number-iterator c.loop-number.others c.next.new.self c.next-in-loop-number.new.self c.in-Some.number.now c.in-Some-next.other_number.now c.in-Some.key.now c.in-Some-next.other_key.now _ first second c.if-number-other_number.false (sym c.body_at.ensures ∙ c.if-not-is_same_body.ensures.0 refl ∙ c.body_at-in-loop-number.ensures) had.0 c.loop-number.invariant.left;
      bodies = had.1;
      others = has.1;
    }

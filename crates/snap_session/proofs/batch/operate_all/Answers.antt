use Rattle.std.proofs.Common.{length, sym, ◌∙◌, arith}
use Rattle.snap_session.specs.Commands.{all_operated}
use Rattle.snap_session.proofs.Batching.{goes_on, stops, ends}
use Rattle.snap_session.proofs.batch.operate_all.Goals as goal

pub returns-in-Some-clause-done : goal.returns-in-Some-clause-done
returns-in-Some-clause-done g c =
    stops c.args.n c.args.namespace.now c.args.key.now c.args.slot c.args.id c.loop-place.place c.args.ops.now c.index-ops-place.result c.loop-place.world c.tried.new.world c.in_ok-answer.answer c.came_to.result c.in-Some.why c.about_operation-of.result
    (all_operated c.args.n c.args.namespace.now c.args.key.now c.args.slot c.args.id 0 c.args.ops.now c.args.world.now) (omega (arith, c.loop-place-test.true)) c.index-ops-place.is c.loop-place.invariant.done
    c.in_ok-answer.ensures.done (sym c.refusal.ensures ∙ c.in-Some.is) c.about_operation-of.ensures c.came_to.ensures

pub loop-place-preserved : goal.loop-place-preserved
loop-place-preserved g c = record {
  done = goes_on c.args.n c.args.namespace.now c.args.key.now c.args.slot c.args.id c.loop-place.place c.args.ops.now c.index-ops-place.result c.loop-place.world c.tried.new.world c.in_ok-answer.answer
      (all_operated c.args.n c.args.namespace.now c.args.key.now c.args.slot c.args.id 0 c.args.ops.now c.args.world.now) (omega (arith, c.loop-place-test.true)) c.index-ops-place.is c.loop-place.invariant.done
      c.in_ok-answer.ensures.done (sym c.refusal.ensures ∙ c.in_default.is);
  opening = c.tried.ensures.opening ∙ c.loop-place.invariant.opening;
}

pub returns-clause-done : goal.returns-clause-done
returns-clause-done g c =
    ends c.args.n c.args.namespace.now c.args.key.now c.args.slot c.args.id c.loop-place.place (length c.args.ops.now) c.args.ops.now c.loop-place.world c.came_to-2.result
    (all_operated c.args.n c.args.namespace.now c.args.key.now c.args.slot c.args.id 0 c.args.ops.now c.args.world.now) (omega (arith, c.loop-place-test.false)) (omega (arith, c.loop-place-test.false, c.loop-place.auto.place-end))
    c.loop-place.invariant.done c.came_to-2.ensures

use Rattle.std.specs.Prelude.{get_or}
use Rattle.std.proofs.Common.{◌+◌, ◌<◌, List, [], length, ◌∙◌, ap, arith}
use Rattle.snap_upper.specs.declared.op.Op.{Op}
use Rattle.snap_writers.proofs.Calling.{all_after-more, operated_on, operated_up_to, same_snapshot}
use Rattle.snap_writers.proofs.worker.Worker.operate_all.Goals as goal

pub returns-in-Err-clause-stopped : goal.returns-in-Err-clause-stopped
returns-in-Err-clause-stopped g c =
    let was = c.loop-op.invariant in
    let items = c.as_slice-op-items.ensures in
    operated_up_to c.args.job.now c.args.active.now c.loop-op.active c.args.self.now.session c.loop-op.self.session c.passes.new.self.session c.operate.new.self.session c.loop-op.op-index (c.loop-op.place + 1) c.op-item.result c.in-Err.error (omega (arith, c.loop-op-test.true, ap (λ (l : List Op). length l) items)) (omega (arith, was.place)) (c.op-item.is ∙ ap (λ (l : List Op). get_or l c.loop-op.op-index c.op-item.result) items) was.same was.done was.all c.passes.ensures.same c.in-Err.ensures.tried

pub loop-op-preserved : goal.loop-op-preserved
loop-op-preserved g c =
    let was = c.loop-op.invariant in
    let items = c.as_slice-op-items.ensures in
    let low : c.loop-op.op-index < length c.args.job.now.ops = omega (arith, c.loop-op-test.true, ap (λ (l : List Op). length l) items) in
    let is = c.op-item.is ∙ ap (λ (l : List Op). get_or l c.loop-op.op-index c.op-item.result) items in
    record {
      done = all_after-more c.args.job.now.ops c.loop-op.op-index c.op-item.result c.op-item.result c.args.active.now.layer c.loop-op.active.layer c.operate.new.active.layer c.args.active.now.lowers c.loop-op.active.lowers low is was.same.lowers was.done c.in-Ok.ensures.done;
      same = same_snapshot c.args.active.now c.loop-op.active c.operate.new.active was.same c.in-Ok.ensures.same;
      place = omega (arith, was.place);
      all = operated_on c.args.job.now c.args.active.now c.loop-op.active c.args.self.now.session c.loop-op.self.session c.passes.new.self.session c.operate.new.self.session c.loop-op.op-index c.op-item.result c.op-item.result low is was.same was.done was.all c.passes.ensures.same c.in-Ok.ensures.tried;
      room = c.in-Ok.ensures.room;
      fixed = c.in-Ok.ensures.fixed ∙ (c.passes.ensures.fixed ∙ was.fixed);
    }

pub returns-then-not-passes-clause-fixed : goal.returns-then-not-passes-clause-fixed
returns-then-not-passes-clause-fixed g c = c.passes.ensures.fixed ∙ c.loop-op.invariant.fixed

pub returns-in-Err-clause-fixed : goal.returns-in-Err-clause-fixed
returns-in-Err-clause-fixed g c = c.in-Err.ensures.fixed ∙ (c.passes.ensures.fixed ∙ c.loop-op.invariant.fixed)

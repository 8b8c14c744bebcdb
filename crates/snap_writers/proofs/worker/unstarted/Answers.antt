use Rattle.std.specs.Prelude.{take}
use Rattle.std.proofs.Common.{◌+◌, length, length-set, ap, arith, ◌∙◌}
use Rattle.snap_writers.specs.declared.job.Ended.TheVariants as ended
use Rattle.snap_writers.proofs.Walking.{unprepared-more}
use Rattle.snap_writers.proofs.worker.unstarted.Goals as goal

pub loop-place-preserved : goal.loop-place-preserved
loop-place-preserved c =
    let was = c.loop-place.invariant in
    record {
      size = ap length c.set.ensures ∙ (length-set _ _ _ ∙ was.size);
      behind = ap (take (c.loop-place.place + 1)) c.set.ensures ∙ unprepared-more (ended.NotPrepared c.args.why) c.loop-place.ends c.args.ends c.loop-place.place (omega (arith, c.loop-place-test.true, c.len-place-end.ensures)) was.size was.behind;
    }

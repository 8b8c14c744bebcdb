use Rattle.std.proofs.Common.{◌≡◌, length}
use Rattle.std.specs.Prelude.{take}
use Rattle.snap_writers.specs.declared.job.Ended.TheVariants as ended
use Rattle.snap_writers.specs.Jobs.{unprepared}
use Rattle.snap_writers.proofs.worker.unstarted.Given as goal

abbrev pub invariant-loop-place : goal.invariant-loop-place
invariant-loop-place l = record {
  size : length l.ends ≡ length l.fn.ends;
  behind : take l.place l.ends ≡ unprepared (ended.NotPrepared l.fn.why) (take l.place l.fn.ends);
}

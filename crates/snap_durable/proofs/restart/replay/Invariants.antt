use Rattle.std.proofs.Common.{◌≡◌, ◌-◌, ◌≤◌, ℕ, List}
use Rattle.snap_log.specs.Log.{disk_of, text_in, IsHonest}
use Rattle.snap_durable.specs.Served.{Carried}
use Rattle.snap_durable.proofs.restart.replay.Given as goal

abbrev pub invariant-chunks : goal.invariant-chunks
invariant-chunks g l = record {
  carried : Carried g.T.TakeLine.effect l.fn.taker l.taker l.batch l.at l.log;
  within : l.at ≤ l.len;
  text : text_in l.log ≡ text_in l.fn.log;
  crash : (c : List ℕ) → g.D.Disk.may_leave (disk_of l.log) c → g.D.Disk.may_leave (disk_of l.fn.log) c;
  clean : IsHonest l.log → IsHonest l.fn.log;
}

abbrev pub decreases-chunks : goal.decreases-chunks
decreases-chunks g l = l.len - l.at

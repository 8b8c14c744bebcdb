use Rattle.std.proofs.Common.{◌≡◌, ◌-◌, ◌≤◌, ℕ, List, take, IsTrue}
use Rattle.snap_log.specs.Scans.{at_start, scanned}
use Rattle.snap_log.proofs.settle.text_len.Given as goal

abbrev pub invariant-chunks : goal.invariant-chunks
invariant-chunks g l = record {
  scan : IsTrue (g.D.Disk.is_clean l.disk) → l.scan ≡ scanned at_start (take l.scan.at (g.D.Disk.seen l.disk));
  within : l.scan.at ≤ l.len;
  seen : g.D.Disk.seen l.disk ≡ g.D.Disk.seen l.fn.disk;
  faults : g.D.Disk.faults l.disk ≡ g.D.Disk.faults l.fn.disk;
  clean : IsTrue (g.D.Disk.is_clean l.disk) → IsTrue (g.D.Disk.is_clean l.fn.disk);
  usable : IsTrue (g.D.Disk.is_usable l.disk);
  crash : (c : List ℕ) → g.D.Disk.may_leave l.disk c → g.D.Disk.may_leave l.fn.disk c;
}

abbrev pub decreases-chunks : goal.decreases-chunks
decreases-chunks g l = l.len - l.scan.at

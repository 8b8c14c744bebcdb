use Rattle.std.proofs.Common.{◌≡◌, ◌+◌, drop}
use Rattle.snap_log.specs.Scans.{scanned}
use Rattle.snap_log.proofs.scan.Scan.feed.Given as goal

abbrev pub invariant-loop-b : goal.invariant-loop-b
invariant-loop-b l = record {
  more : scanned l.self (drop l.b-index l.bytes) ≡ scanned l.initial.self l.bytes;
  at : l.self.at ≡ l.initial.self.at + l.b-index;
}

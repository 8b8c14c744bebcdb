use Rattle.std.proofs.Common.{◌≤◌, ◌≡◌, length}
use Rattle.snap_replay.proofs.check.read_head.Given as goal

abbrev pub invariant-reads : goal.invariant-reads
invariant-reads g l = (l.filled ≤ length l.head.items) × (length l.head.items ≡ 65536)

use Rattle.std.proofs.Common.{◌≡◌, ◌≤◌, ◌-◌, length, drop}
use Rattle.snap_log.specs.Batches.{batched}
use Rattle.snap_log.proofs.batch.Batch.take.Given as goal

abbrev pub invariant-lines : goal.invariant-lines
invariant-lines l = (l.from ≤ length l.bytes) × (batched l.self (drop l.from l.bytes) ≡ batched l.initial.self l.bytes)

abbrev pub decreases-lines : goal.decreases-lines
decreases-lines l = length l.bytes - l.from

use Rattle.std.proofs.Common.{◌≡◌, drop}
use Rattle.snap_log.specs.Batches.{batched}
use Rattle.snap_log.proofs.batch.Batch.take_bytes.Given as goal

abbrev pub invariant-loop-b : goal.invariant-loop-b
invariant-loop-b l = batched l.self (drop l.b-index l.bytes) ≡ batched l.initial.self l.bytes

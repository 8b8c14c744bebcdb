use Rattle.std.proofs.Common.{◌≡◌}
use Rattle.snap_durable.specs.Moved.{moving}
use Rattle.snap_durable.proofs.moved.moved_snapshots.Given as goal

abbrev pub invariant-loop-snapshot : goal.invariant-loop-snapshot
invariant-loop-snapshot l = l.kept.items ≡ moving l.wanted (λ s. s.saved.namespace) l.yielded

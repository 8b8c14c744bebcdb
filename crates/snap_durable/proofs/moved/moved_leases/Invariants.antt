use Rattle.std.proofs.Common.{◌≡◌}
use Rattle.snap_durable.specs.Moved.{moving}
use Rattle.snap_durable.proofs.moved.moved_leases.Given as goal

abbrev pub invariant-loop-lease : goal.invariant-loop-lease
invariant-loop-lease l = l.kept.items ≡ moving l.wanted (λ it. it.namespace) l.yielded

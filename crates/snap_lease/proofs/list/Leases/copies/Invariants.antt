use Rattle.std.proofs.Common.{◌≡◌, ◌++◌}
use Rattle.snap_lease.proofs.list.Leases.copies.Given as goal

-- the copies so far, and the leases ahead
abbrev pub invariant-loop-lease : goal.invariant-loop-lease
invariant-loop-lease l = l.copies.items ++ l.lease-iterator ≡ l.self

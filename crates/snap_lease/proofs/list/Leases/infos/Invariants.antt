use Rattle.std.proofs.Common.{◌≡◌, ◌++◌}
use Rattle.snap_lease.specs.Told.{told_leases}
use Rattle.snap_lease.proofs.list.Leases.infos.Given as goal

-- what is told so far, and of the leases ahead
abbrev pub invariant-loop-lease : goal.invariant-loop-lease
invariant-loop-lease l = l.infos.items ++ told_leases l.lease-iterator l.namespace ≡ told_leases l.self l.namespace

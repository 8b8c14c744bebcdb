use Rattle.std.proofs.Common.{◌≡◌, map}
use Rattle.snap_world.specs.Restored.{saved_lease}
use Rattle.snap_world.proofs.save.saved_leases.Given as goal

-- the first leases
abbrev pub invariant-loop-lease : goal.invariant-loop-lease
invariant-loop-lease l = l.saved.items ≡ map saved_lease l.yielded

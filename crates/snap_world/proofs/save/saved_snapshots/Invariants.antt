use Rattle.std.proofs.Common.{◌≡◌, map}
use Rattle.snap_world.specs.Held.{held_snapshot}
use Rattle.snap_world.proofs.save.saved_snapshots.Given as goal

-- what is saved of those so far
abbrev pub invariant-loop-snapshot : goal.invariant-loop-snapshot
invariant-loop-snapshot l = l.snapshots.items ≡ map (held_snapshot l.namespaces) l.yielded

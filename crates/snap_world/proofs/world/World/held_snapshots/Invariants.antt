use Rattle.std.proofs.Common.{◌≡◌, map}
use Rattle.std.specs.List.{AllByRecursion}
use Rattle.snap_world.specs.Held.{held_of, held_snapshot}
use Rattle.snap_world.specs.Saved.{IsSoundSnapshot}
use Rattle.snap_world.proofs.world.World.held_snapshots.Given as goal

-- the snapshots of the records so far
abbrev pub invariant-loop-record : goal.invariant-loop-record
invariant-loop-record g l = record {
  same : l.snapshots.items ≡ map (held_of l.self.hands) l.yielded;
  sound : AllByRecursion (λ s. IsSoundSnapshot (held_snapshot l.self.state.namespaces s)) l.snapshots.items;
}

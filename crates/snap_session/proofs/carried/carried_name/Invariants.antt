use Rattle.std.proofs.Common.{◌≡◌, drop}
use Rattle.snap_session.specs.Carried.{carried_name}
use Rattle.snap_session.proofs.carried.carried_name.Given as goal

abbrev pub invariant-loop-snapshot : goal.invariant-loop-snapshot
invariant-loop-snapshot l = carried_name l.id l.snapshots ≡ carried_name l.id (drop l.snapshot-index l.snapshots)

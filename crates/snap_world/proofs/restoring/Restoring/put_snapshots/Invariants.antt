use Rattle.std.proofs.Common.{◌≡◌, ◌+◌, length}
use Rattle.std.specs.Vec.Iter.{into_iter_items, into_iter_len}
use Rattle.snap_world.specs.Restored.{put_snapshots_from}
use Rattle.snap_world.proofs.restoring.Restoring.put_snapshots.Given as goal

-- the first are there, and with the others all are
abbrev pub invariant-loop-snapshot : goal.invariant-loop-snapshot
invariant-loop-snapshot g l = record {
  left : put_snapshots_from l.place l.self (into_iter_items l.snapshot-iterator) ≡ put_snapshots_from 0 l.fn.self l.fn.snapshots.items;
  count : into_iter_len l.snapshot-iterator ≡ length (into_iter_items l.snapshot-iterator);
  place : l.place + length (into_iter_items l.snapshot-iterator) ≡ length l.fn.snapshots.items;
}

use Rattle.std.proofs.Common.{◌≡◌, length, take}
use Rattle.snap_tape.specs.Following.{AreIndexes}
use Rattle.snap_tape.proofs.indexes.indexes_of.Given as goal

abbrev pub invariant-loop-place : goal.invariant-loop-place
invariant-loop-place l = record {
  size : length l.indexes.items ≡ length l.sessions;
  indexed : AreIndexes (take l.place l.sessions) l.indexes.items;
}

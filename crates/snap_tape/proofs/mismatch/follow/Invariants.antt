use Rattle.std.proofs.Common.{◌≡◌, length, take}
use Rattle.snap_tape.specs.Following.{AreFollowed}
use Rattle.snap_tape.proofs.mismatch.follow.Given as goal

abbrev pub invariant-loop-entry : goal.invariant-loop-entry
invariant-loop-entry l = record {
  size : length l.progress.items ≡ length l.sessions;
  followed : AreFollowed (take l.entry-index l.journal) l.sessions l.progress.items;
}

use Rattle.std.proofs.Common.{List, take}
use Rattle.snap_call.specs.declared.entry.Entry.{Entry}
use Rattle.snap_tape.specs.Sessions.{IsFirstMismatch}
use Rattle.snap_tape.specs.Following.{AreFollowed}
use Rattle.snap_tape.proofs.mismatch.first_followed.Given as goal

abbrev pub invariant-loop-place : goal.invariant-loop-place
invariant-loop-place l = (journal : List Entry) → AreFollowed journal l.sessions l.progress → IsFirstMismatch journal (take l.place l.sessions) l.first

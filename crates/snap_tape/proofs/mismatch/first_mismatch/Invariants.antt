use Rattle.std.proofs.Common.{take}
use Rattle.snap_tape.specs.Sessions.{IsFirstMismatch}
use Rattle.snap_tape.proofs.mismatch.first_mismatch.Given as goal

abbrev pub invariant-loop-session : goal.invariant-loop-session
invariant-loop-session l = IsFirstMismatch l.journal (take l.session-index l.sessions) l.first

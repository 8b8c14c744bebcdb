use Rattle.std.proofs.Common.{take}
use Rattle.snap_call.specs.Journal.{session_entries}
use Rattle.snap_tape.specs.Following.{IsProgress}
use Rattle.snap_tape.proofs.mismatch.difference_of.Given as goal

abbrev pub invariant-loop-entry : goal.invariant-loop-entry
invariant-loop-entry l = IsProgress l.tape (session_entries (take l.entry-index l.journal) l.number) l.progress

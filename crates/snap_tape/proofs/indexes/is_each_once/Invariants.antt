use Rattle.std.specs.Prelude.{count_by}
use Rattle.std.proofs.Common.{◌≡◌, ◌<◌, ℕ}
use Rattle.snap_tape.specs.Sessions.{has_session_number}
use Rattle.snap_tape.proofs.indexes.is_each_once.Given as goal

abbrev pub invariant-loop-number : goal.invariant-loop-number
invariant-loop-number l = (n : ℕ) → n < l.number → count_by (has_session_number n) l.sessions ≡ 1

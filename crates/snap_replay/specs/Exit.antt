-- The status of the program; cited by private clauses alone, since a program has no other.
use Rattle.std.specs.Prelude.{ℕ, Result, Ok, Err}
use Rattle.snap_jobs.specs.Words.{jobs_status_of}
use Rattle.snap_replay.specs.declared.Ended.{Ended}
use Rattle.snap_replay.specs.declared.Ended.TheVariants.{Stopped, WantOfMemory}

-- that of lines or jobs that stopped, or 4
abbrev pub status_of_end : Ended → ℕ
status_of_end (Stopped stop) = jobs_status_of stop
status_of_end WantOfMemory = 4

-- 0 where a run ended well, else the status of its end
abbrev pub exit_of : Result (Unit {0}) Ended → ℕ
exit_of (Ok done) = 0
exit_of (Err ended) = status_of_end ended

-- What an end is called, and the status of the program; cited by the public clauses of `JobsStop`.
use Rattle.std.specs.Prelude.{ℕ, List, ◌++◌, codes, decimal}
use Rattle.snap_lines.specs.Words as lines
use Rattle.snap_jobs.specs.declared.stop.JobsStop.{JobsStop}
use Rattle.snap_jobs.specs.declared.stop.JobsStop.TheVariants.{Lines, NotClosed, WantOfMemory}

-- the words for an end
abbrev pub jobs_stop_words : JobsStop → List ℕ
jobs_stop_words (Lines stop) = lines.stop_words stop
jobs_stop_words NotClosed = codes "not closed"
jobs_stop_words (WantOfMemory jobs all) = codes "want of memory: " ++ (decimal jobs ++ (codes " of " ++ (decimal all ++ codes " jobs")))

-- the status of a program that ends so
abbrev pub jobs_status_of : JobsStop → ℕ
jobs_status_of (Lines stop) = lines.status_of stop
jobs_status_of NotClosed = 5
jobs_status_of (WantOfMemory jobs all) = 4

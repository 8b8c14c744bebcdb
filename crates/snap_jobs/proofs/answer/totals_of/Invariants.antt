use Rattle.std.proofs.Common.{◌≡◌, take}
use Rattle.snap_jobs.specs.Answer.{book_totals_of}
use Rattle.snap_jobs.proofs.answer.totals_of.Given as goal

abbrev pub invariant-loop-name : goal.invariant-loop-name
invariant-loop-name g l = l.totals ≡ book_totals_of l.closed (take l.name-index l.names)

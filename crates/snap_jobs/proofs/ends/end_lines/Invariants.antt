use Rattle.std.proofs.Common.{◌≡◌, take, string_bytes}
use Rattle.snap_jobs.specs.Ends.{end_lines, end_told}
use Rattle.snap_jobs.proofs.ends.end_lines.Given as goal

abbrev pub invariant-loop-place : goal.invariant-loop-place
invariant-loop-place l = string_bytes l.text ≡ end_lines (end_told l.rule l.jobs) 1 (take l.place l.ends)

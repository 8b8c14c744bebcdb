use Rattle.std.proofs.Common.{◌≡◌, ◌+◌, length}
use Rattle.snap_writers.specs.Jobs.{Each}
use Rattle.snap_writers.specs.Starting.{IsAssigned}
use Rattle.snap_writers.proofs.assignment.assignments.Given as goal

abbrev pub invariant-loop-place : goal.invariant-loop-place
invariant-loop-place l = record {
  count : length l.all.items ≡ l.place;
  each : Each (λ k a. IsAssigned l.jobs (k + 1) l.workers a) 0 l.all.items;
}

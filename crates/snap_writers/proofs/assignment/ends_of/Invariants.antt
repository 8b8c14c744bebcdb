use Rattle.std.proofs.Common.{◌≡◌, ◌<◌, ◌++◌, map}
use Rattle.std.specs.Prelude.{drop}
use Rattle.snap_writers.specs.Jobs.{every, jobs_of}
use Rattle.snap_writers.proofs.assignment.ends_of.Given as goal

abbrev pub invariant-loop : goal.invariant-loop
invariant-loop l = record {
  skip : l.skip < l.workers;
  ends : map (λ _. l.end) (jobs_of l.jobs l.worker l.workers) ≡ l.ends ++ map (λ _. l.end) (every l.workers l.skip (drop l.index l.jobs));
}

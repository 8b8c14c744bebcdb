use Rattle.std.proofs.Common.{◌≡◌, ◌<◌}
use Rattle.std.specs.Prelude.{drop}
use Rattle.snap_writers.specs.Jobs.{every, jobs_of}
use Rattle.snap_writers.specs.Going.{IsGoing}
use Rattle.snap_writers.proofs.worker.Worker.run_all.Given as goal

abbrev pub invariant-loop-job : goal.invariant-loop-job
invariant-loop-job g l = record {
  skip : l.skip < l.workers;
  fixed : l.this.fixed ≡ l.fn.self.fixed;
  going : IsGoing l.fn.self.fixed.store.now.opening.layer_inodes (jobs_of l.jobs l.fn.self.fixed.number l.workers) (every l.workers l.skip (drop l.job-index l.jobs)) l.this.session l.ends l.place;
}

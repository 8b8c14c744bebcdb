use Rattle.std.proofs.Common.{◌≡◌, ◌<◌, [], Ok}
use Rattle.std.specs.Prelude.{take}
use Rattle.snap_writers.specs.Run.{IsSameSnapshot}
use Rattle.snap_writers.specs.Jobs.{all_after}
use Rattle.snap_writers.specs.Going.{HasOperated}
use Rattle.snap_writers.proofs.worker.Worker.operate_all.Given as goal

abbrev pub invariant-loop-op : goal.invariant-loop-op
invariant-loop-op g l = record {
  done : all_after (take l.op-index l.job.ops) l.initial.active.layer l.initial.active.lowers ≡ Ok l.active.layer;
  same : IsSameSnapshot l.initial.active l.active;
  place : l.place ≡ l.op-index;
  all : HasOperated l.job l.initial.active l.initial.self.session l.self.session [];
  room : 0 < l.self.session.spare;
  fixed : l.self.fixed ≡ l.initial.self.fixed;
}

use Rattle.std.proofs.Common.{◌≡◌, ◌≤◌, ◌+◌, length}
use Rattle.std.specs.Prelude.{vec_capacity}
use Rattle.std.specs.Vec.Iter.{into_iter_items}
use Rattle.snap_writers.specs.Jobs.{Each, HasStoppedWorker, IsWorked}
use Rattle.snap_writers.specs.Starting.{IsStarted}
use Rattle.snap_writers.proofs.threads.joined.Given as goal

abbrev pub invariant-loop-one : goal.invariant-loop-one
invariant-loop-one g l = record {
  count : length l.all.items + length (into_iter_items l.one-iterator) ≡ l.workers;
  started : Each (λ k s. IsStarted l.gate (HasStoppedWorker (g.G.Gate.answers l.gate)) l.layer_inodes l.jobs (k + 1) l.workers s) (length l.all.items) (into_iter_items l.one-iterator);
  each : Each (λ k w. IsWorked (HasStoppedWorker (g.G.Gate.answers l.gate) (k + 1)) l.layer_inodes l.jobs (k + 1) l.workers w) 0 l.all.items;
  room : l.workers ≤ vec_capacity l.all;
}

use Rattle.std.proofs.Common.{◌≡◌, ◌≤◌, ◌+◌, length}
use Rattle.std.specs.Prelude.{vec_capacity}
use Rattle.std.specs.Vec.Iter.{into_iter_items}
use Rattle.snap_writers.specs.Jobs.{Each, HasStoppedWorker}
use Rattle.snap_writers.specs.Starting.{IsAssigned, IsStarted}
use Rattle.snap_writers.proofs.threads.fn.all_worked.scope.Given as goal

abbrev pub invariant-loop-assignment : goal.invariant-loop-assignment
invariant-loop-assignment g l = record {
  count : length l.started.items + length (into_iter_items l.assignment-iterator) ≡ l.workers;
  assigned : Each (λ k a. IsAssigned l.jobs.now (k + 1) l.workers a) (length l.started.items) (into_iter_items l.assignment-iterator);
  started : Each (λ k s. IsStarted l.gate.now (HasStoppedWorker (g.G.Gate.answers l.gate.now)) l.layer_inodes l.jobs.now (k + 1) l.workers s) 0 l.started.items;
  room : l.workers ≤ vec_capacity l.started;
}

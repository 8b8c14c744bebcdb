use Rattle.std.proofs.Common.{◌≡◌, ◌≤◌, ◌+◌, ◌++◌, length}
use Rattle.std.specs.Prelude.{vec_capacity}
use Rattle.std.specs.Vec.Iter.{into_iter_items}
use Rattle.snap_writers.specs.Jobs.{sessions_of}
use Rattle.snap_writers.proofs.order.sessions_of.Given as goal

abbrev pub invariant-loop-worked : goal.invariant-loop-worked
invariant-loop-worked l = record {
  room : length l.sessions.items + length (into_iter_items l.worked-iterator) ≤ vec_capacity l.sessions;
  sessions : l.sessions.items ++ sessions_of (into_iter_items l.worked-iterator) ≡ sessions_of l.fn.all.items;
}

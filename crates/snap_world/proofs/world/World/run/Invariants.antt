use Rattle.std.proofs.Common.{◌≡◌, ◌≤◌, ◌+◌, ◌++◌, length, vec_len}
use Rattle.std.specs.Vec.{vec_capacity}
use Rattle.std.specs.Vec.Iter.{into_iter_items}
use Rattle.snap_world.specs.Runs.{Runs}
use Rattle.snap_world.proofs.world.World.run.Given as goal

abbrev pub invariant-loop-step : goal.invariant-loop-step
invariant-loop-step g l = record {
  runs : Runs l.fn.self l.yielded l.answers.items l.self;
  steps : l.yielded ++ into_iter_items l.step-iterator ≡ l.fn.steps.items;
  room : vec_len l.answers + length (into_iter_items l.step-iterator) ≤ vec_capacity l.answers;
}

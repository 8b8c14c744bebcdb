use Rattle.std.proofs.Common.{◌≡◌, ◌≤◌, replicate, None, vec_len}
use Rattle.std.specs.Vec.{vec_capacity}
use Rattle.snap_world.proofs.hands.Hands.open.Given as goal

abbrev pub invariant-loop : goal.invariant-loop
invariant-loop g l = record {
  items : l.list.items ≡ replicate l.counter None;
  len : vec_len l.list ≡ l.counter;
  room : l.slots ≤ vec_capacity l.list;
}

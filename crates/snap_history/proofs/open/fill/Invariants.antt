use Rattle.std.proofs.Common.{◌≡◌, vec_len}
use Rattle.std.specs.Vec.{vec_capacity}
use Rattle.snap_history.specs.Open.{open_below}
use Rattle.snap_history.proofs.open.fill.Given as goal

-- the list has the shares of the slots before this one
abbrev pub invariant-loop-slot : goal.invariant-loop-slot
invariant-loop-slot l = record {
  items : l.list.items ≡ open_below l.slot l.records;
  len : vec_len l.list ≡ l.slot;
  room : vec_capacity l.list ≡ vec_capacity l.fn.list;
}

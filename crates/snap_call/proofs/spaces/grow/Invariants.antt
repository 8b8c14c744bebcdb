use Rattle.std.proofs.Common.{◌≡◌, ◌+◌, ◌-◌, vec_len}
use Rattle.snap_call.specs.Spaces.{AreFrom, joined_records}
use Rattle.snap_call.proofs.spaces.grow.Given as goal

abbrev pub invariant-loop-alloc : goal.invariant-loop-alloc
invariant-loop-alloc l = record { from : AreFrom 0 l.spaces.items; same : joined_records l.spaces.items ≡ joined_records l.fn.spaces.items }

abbrev pub decreases-loop-alloc : goal.decreases-loop-alloc
decreases-loop-alloc l = l.place + 1 - vec_len l.spaces

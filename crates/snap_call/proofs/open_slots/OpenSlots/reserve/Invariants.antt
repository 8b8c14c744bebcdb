use Rattle.std.proofs.Common.{◌≡◌, ◌-◌, ℕ, length}
use Rattle.snap_call.specs.Indexes.{AreMarked, name_in}
use Rattle.snap_call.proofs.open_slots.OpenSlots.reserve.Given as goal

abbrev pub invariant-loop-self : goal.invariant-loop-self
invariant-loop-self l = record {
  same : (k : ℕ) → name_in k l.self-inside.names.items ≡ name_in k l.fn.self;
  marked : AreMarked l.self-inside.marks.items l.self-inside.names.items;
}

abbrev pub decreases-loop-self : goal.decreases-loop-self
decreases-loop-self l = l.count - length l.self-inside.names.items

use Rattle.std.proofs.Common.{◌≡◌, ◌-◌, length}
use Rattle.snap_call.specs.Indexes.{AreMarked}
use Rattle.snap_call.proofs.open_slots.OpenSlots.reserve_mark.Given as goal

abbrev pub invariant-loop-self : goal.invariant-loop-self
invariant-loop-self l = record {
  names : l.self-inside.names.items ≡ l.fn.self;
  marked : AreMarked l.self-inside.marks.items l.self-inside.names.items;
}

abbrev pub decreases-loop-self : goal.decreases-loop-self
decreases-loop-self l = l.count - length l.self-inside.marks.items

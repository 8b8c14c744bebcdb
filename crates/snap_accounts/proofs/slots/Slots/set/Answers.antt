use Rattle.snap_accounts.proofs.Rows.{slot-found}
use Rattle.snap_accounts.proofs.slots.Slots.set.Goals as goal

pub set-requires-clause-slot : goal.set-requires-clause-slot
set-requires-clause-slot g c = slot-found _ _ _ _ c.slot.ensures c.self.invariant c.requires.slot c.index_mut-charge.ensures.value

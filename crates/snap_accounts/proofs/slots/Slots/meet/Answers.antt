use Rattle.snap_accounts.proofs.Rows.{slot-found}
use Rattle.snap_accounts.proofs.slots.Slots.meet.Goals as goal

pub meet-requires : goal.meet-requires
meet-requires g c = slot-found _ _ _ _ c.slot.ensures c.self.invariant c.requires c.index_mut-charge.ensures.value

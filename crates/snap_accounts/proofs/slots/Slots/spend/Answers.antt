use Rattle.std.proofs.Common.{ℕ, set, sym, ap, ◌∙◌}
use Rattle.snap_ledger.specs.States.{free_charge}
use Rattle.snap_accounts.proofs.Rows.{slot-found}
use Rattle.snap_accounts.proofs.slots.Slots.spend.Goals as goal

pub spend-requires : goal.spend-requires
spend-requires g c = slot-found _ _ _ _ c.slot.ensures c.self.invariant c.requires c.index_mut-charge.ensures.value

pub returns-clause-charges : goal.returns-clause-charges
returns-clause-charges g c =
    let e = slot-found _ _ _ _ c.slot.ensures c.self.invariant c.requires c.index_mut-charge.ensures.value in
    let free = c.spend.ensures.free ∙ ap (λ (k : ℕ). free_charge k) (sym e) in
    λ i. set (c.self.view_is i) (c.slot.ensures i) (free i)

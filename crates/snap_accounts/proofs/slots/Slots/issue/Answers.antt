use Rattle.std.proofs.Common.{ℕ, List, set, true, sym, refl, ap, ◌∙◌}
use Rattle.snap_usage.specs.declared.usage.Usage.{Usage}
use Rattle.snap_ledger.specs.States.{ChargeState, ShareState}
use Rattle.snap_accounts.specs.Slots.{charge_in}
use Rattle.snap_accounts.proofs.Rows.{slot-found, found-in}
use Rattle.snap_accounts.proofs.slots.Slots.issue.Goals as goal

abbrev as_charge : ℕ → ℕ → Usage → ChargeState
as_charge slot id u = record { slot = slot; id = id; usage = u; issued = true }

abbrev as_share : ℕ → ℕ → Usage → ShareState
as_share slot id u = record { slot = slot; id = id; usage = u }

pub issue-requires-clause-free : goal.issue-requires-clause-free
issue-requires-clause-free g c =
    ap (λ (x : ChargeState). x.usage) (found-in _ _ c.args.slot _ refl c.self.invariant c.requires.slot c.index_mut-charge.ensures.value)
    ∙ (ap (λ (l : List ChargeState). (charge_in l c.args.slot).usage) c.self.view_is ∙ c.requires.free)

pub returns-clause-charges : goal.returns-clause-charges
returns-clause-charges g c =
    let e = slot-found _ _ c.args.slot _ refl c.self.invariant c.requires.slot c.index_mut-charge.ensures.value in
    let made = c.issue.ensures.charge ∙ ap (λ (k : ℕ). as_charge k c.args.id c.args.first) (sym e) in
    λ i. set (c.self.view_is i) c.args.slot (made i)

pub returns-clause-share : goal.returns-clause-share
returns-clause-share g c =
    let e = slot-found _ _ c.args.slot _ refl c.self.invariant c.requires.slot c.index_mut-charge.ensures.value in
    c.issue.ensures.share ∙ ap (λ (k : ℕ). as_share k c.args.id c.args.first) (sym e)

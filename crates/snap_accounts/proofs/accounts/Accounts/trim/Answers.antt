use Rattle.std.proofs.Common.{ℕ, ap, ◌∙◌, subst}
use Rattle.snap_usage.specs.declared.usage.Usage.{Usage}
use Rattle.snap_usage.specs.Counted.{Covers}
use Rattle.snap_call.specs.declared.state.State.{State}
use Rattle.snap_call.specs.Records.{charge_of, charge_at, open_count}
use Rattle.snap_call.proofs.Counts.{open_count-recharged}
use Rattle.snap_accounts.proofs.Accounting.{fits_less}
use Rattle.snap_accounts.proofs.accounts.Accounts.trim.Goals as goal

pub recharge-requires-clause-fits : goal.recharge-requires-clause-fits
recharge-requires-clause-fits g c =
    let s : State = c.args.self.now in
    let place = c.place-place.result in
    let held : Covers (charge_of place s.records) c.args.share.now.usage =
    subst (λ (u : Usage). Covers (charge_of place s.records) u) (ap (λ (k : ℕ). (charge_at k s.records).usage) c.slot.ensures ∙ c.requires.met.2) c.place-place.ensures.held in
    fits_less s place c.args.share.now.usage c.args.count c.place-place.ensures.within held c.requires.count

pub returns-clause-open : goal.returns-clause-open
returns-clause-open g c = ap (λ (s : State). open_count s.records) c.recharge.ensures.state ∙ open_count-recharged c.args.share.now.slot c.args.count c.args.self.now.records

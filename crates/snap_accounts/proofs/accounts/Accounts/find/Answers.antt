use Rattle.std.proofs.Common.{◌≡◌, Some, sym, ap, ◌∙◌}
use Rattle.std.specs.Option.{option_copied}
use Rattle.snap_call.specs.declared.state.State.{State}
use Rattle.snap_call.specs.Records.{record_at}
use Rattle.snap_accounts.proofs.Found.{found-deep}
use Rattle.snap_accounts.proofs.accounts.Accounts.find.Goals as goal

pub returns-in-Some-record_at-clause-deep : goal.returns-in-Some-record_at-clause-deep
returns-in-Some-record_at-clause-deep g c =
    let s = c.args.self.now in
    let r = c.in-Some-record_at.record.now in
    let place = c.in-Some.place in
    let key = c.args.key.now in
    let e : record_at place key s.records ≡ Some r =
    ap (λ (u : State). record_at place key u.records) (sym c.state-state.ensures.same) ∙ (sym c.record_at.ensures ∙ ap option_copied c.in-Some-record_at.is) in
    found-deep s place key r c.state-state.ensures.good e

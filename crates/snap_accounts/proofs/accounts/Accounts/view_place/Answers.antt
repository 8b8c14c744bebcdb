use Rattle.std.proofs.Common.{◌≡◌, ap, arith}
use Rattle.snap_call.specs.declared.state.State.{State}
use Rattle.snap_accounts.proofs.Prepared.{site}
use Rattle.snap_accounts.proofs.accounts.Accounts.view_place.Goals as goal

pub returns-clause-site : goal.returns-clause-site
returns-clause-site g c =
    let s = c.args.self.now in
    let place = c.in_ok-place.place in
    let same : c.self.inside.state.next_id ≡ s.next_id = ap (λ (u : State). u.next_id) c.self.view_is in
    site s c.args.namespace.now c.args.key.now c.args.parent.now c.args.labels.now place c.in_ok-place.ensures.ok
    (omega (arith, same, c.if-self-gt-MAX_ID.false))

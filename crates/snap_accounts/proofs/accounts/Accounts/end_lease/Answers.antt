use Rattle.std.proofs.Common.{◌≡◌, ◌+◌, List, true, sym, ap, ◌∙◌, subst}
use Rattle.snap_lease.specs.Lease.{Lease}
use Rattle.snap_lease.specs.Leases.{has_lease, without_lease}
use Rattle.snap_call.specs.declared.state.State.{State}
use Rattle.snap_accounts.specs.Accounts.{AreAccounts}
use Rattle.snap_accounts.proofs.Changes.{accounts_released, released-ok}
use Rattle.snap_accounts.proofs.accounts.Accounts.end_lease.Goals as goal

pub invariant_of-self : goal.invariant_of-self
invariant_of-self g c =
    let s = c.self.inside.state in
    let there : has_lease s.leases c.args.namespace.now c.args.lease.now ≡ true = ap (λ (u : State). has_lease u.leases c.args.namespace.now c.args.lease.now) c.self.view_is ∙ c.requires.there in
    let gone : c.release.new.self ≡ without_lease s.leases c.args.namespace.now c.args.lease.now = released-ok c.release.result _ _ there c.release.ensures.no_lease c.release.ensures.only c.release.ensures.ok in
    subst (λ (l : List Lease). AreAccounts (record s { leases = l; entries = s.entries + 1 }) c.self.inside.totals c.self.inside.slots c.self.inside.opened) (sym gone)
    (accounts_released s c.self.inside.totals c.self.inside.slots c.self.inside.opened c.args.namespace.now c.args.lease.now c.self.invariant)

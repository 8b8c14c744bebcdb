use Rattle.std.proofs.Common.{◌+◌, List, sym, subst}
use Rattle.snap_lease.specs.Lease.{Lease}
use Rattle.snap_call.specs.declared.state.State.{State}
use Rattle.snap_accounts.specs.Accounts.{AreAccounts}
use Rattle.snap_accounts.specs.Changes.{IsLeaseName}
use Rattle.snap_accounts.proofs.Changes.{accounts_named}
use Rattle.snap_accounts.proofs.accounts.Accounts.add_lease_name.Goals as goal

pub invariant_of-self : goal.invariant_of-self
invariant_of-self g c =
    let s = c.self.inside.state in
    let is : IsLeaseName s c.args.namespace.now c.args.lease.now c.args.name.now = subst (λ (u : State). IsLeaseName u c.args.namespace.now c.args.lease.now c.args.name.now) (sym c.self.view_is) c.requires.name in
    subst (λ (l : List Lease). AreAccounts (record s { leases = l; entries = s.entries + 1 }) c.self.inside.totals c.self.inside.slots c.self.inside.opened) (sym c.in-Ok.ensures.ok)
    (accounts_named s c.self.inside.totals c.self.inside.slots c.self.inside.opened c.args.namespace.now c.args.lease.now c.args.name.now c.self.invariant is)

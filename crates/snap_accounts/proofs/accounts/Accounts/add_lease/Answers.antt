use Rattle.std.proofs.Common.{◌+◌, List, sym, ap, ◌∙◌, subst}
use Rattle.snap_lease.specs.Lease.{Lease}
use Rattle.snap_lease.specs.Leases.{has_lease}
use Rattle.snap_call.specs.declared.state.State.{State}
use Rattle.snap_accounts.specs.Accounts.{AreAccounts}
use Rattle.snap_accounts.specs.Changes.{IsSpace}
use Rattle.snap_accounts.proofs.Changes.{accounts_created}
use Rattle.snap_accounts.proofs.accounts.Accounts.add_lease.Goals as goal

pub invariant_of-self : goal.invariant_of-self
invariant_of-self g c =
    let s = c.self.inside.state in
    let space : IsSpace s c.args.namespace.now = subst (λ (u : State). IsSpace u c.args.namespace.now) (sym c.self.view_is) c.requires.space in
    subst (λ (l : List Lease). AreAccounts (record s { leases = l; entries = s.entries + 1 }) c.self.inside.totals c.self.inside.slots c.self.inside.opened) (sym c.in-Ok.ensures.ok)
    (accounts_created s c.self.inside.totals c.self.inside.slots c.self.inside.opened c.args.namespace.now c.args.lease.now c.args.until c.self.invariant space c.requires.formed
    (ap (λ (u : State). has_lease u.leases c.args.namespace.now c.args.lease.now) c.self.view_is ∙ c.requires.new))

use Rattle.std.proofs.Common.{◌≡◌, ◌+◌, List, true, sym, ap, ◌∙◌, subst}
use Rattle.snap_lease.specs.Lease.{Lease}
use Rattle.snap_lease.specs.Leases.{lease_names, with_name_dropped}
use Rattle.snap_call.specs.declared.state.State.{State}
use Rattle.snap_accounts.specs.Accounts.{AreAccounts}
use Rattle.snap_accounts.proofs.Changes.{accounts_dropped, dropped-ok}
use Rattle.snap_accounts.proofs.accounts.Accounts.end_lease_name.Goals as goal

pub invariant_of-self : goal.invariant_of-self
invariant_of-self g c =
    let s = c.self.inside.state in
    let named : lease_names s.leases c.args.namespace.now c.args.lease.now c.args.name.now ≡ true = ap (λ (u : State). lease_names u.leases c.args.namespace.now c.args.lease.now c.args.name.now) c.self.view_is ∙ c.requires.named in
    let gone : c.drop_name.new.self ≡ with_name_dropped s.leases c.args.namespace.now c.args.lease.now c.args.name.now = dropped-ok c.drop_name.result _ _ named c.drop_name.ensures.named c.drop_name.ensures.ok in
    subst (λ (l : List Lease). AreAccounts (record s { leases = l; entries = s.entries + 1 }) c.self.inside.totals c.self.inside.slots c.self.inside.opened) (sym gone)
    (accounts_dropped s c.self.inside.totals c.self.inside.slots c.self.inside.opened c.args.namespace.now c.args.lease.now c.args.name.now c.self.invariant)

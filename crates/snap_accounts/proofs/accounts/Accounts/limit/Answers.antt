use Rattle.std.proofs.Common.{◌+◌, sym, subst}
use Rattle.snap_call.specs.declared.state.State.{State}
use Rattle.snap_accounts.specs.Accounts.{AreAccounts}
use Rattle.snap_accounts.specs.Changes.{IsLimitFor}
use Rattle.snap_accounts.proofs.Changes.{accounts_limited}
use Rattle.snap_accounts.proofs.accounts.Accounts.limit.Goals as goal

pub invariant_of-self : goal.invariant_of-self
invariant_of-self g c =
    let s = c.self.inside.state in
    let possible : IsLimitFor s c.args.place c.args.namespace = subst (λ (u : State). IsLimitFor u c.args.place c.args.namespace) (sym c.self.view_is) c.requires.possible in
    subst (λ (u : State). AreAccounts (record u { entries = u.entries + 1 }) c.self.inside.totals c.self.inside.slots c.self.inside.opened) (sym c.set_limit.ensures)
    (accounts_limited s c.self.inside.totals c.self.inside.slots c.self.inside.opened c.args.place c.args.namespace c.self.invariant possible)

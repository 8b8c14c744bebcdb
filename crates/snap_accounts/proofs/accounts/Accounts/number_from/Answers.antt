use Rattle.std.proofs.Common.{◌≤◌, refl, sym, subst}
use Rattle.snap_call.specs.declared.state.State.{State}
use Rattle.snap_call.proofs.Saving.{good_numbered}
use Rattle.snap_accounts.proofs.Accounting.{accounts_same}
use Rattle.snap_accounts.proofs.accounts.Accounts.number_from.Goals as goal

pub invariant_of-self : goal.invariant_of-self
invariant_of-self g c =
    let s = c.self.inside.state in
    let next = subst (λ (u : State). u.next_id ≤ c.args.next_id) (sym c.self.view_is) c.requires.next in
    let later = subst (λ (u : State). u.entries ≤ c.args.entries) (sym c.self.view_is) c.requires.entries in
    accounts_same s (record s { next_id = c.args.next_id; entries = c.args.entries }) c.self.inside.totals c.self.inside.slots c.self.inside.opened c.self.invariant (good_numbered s c.args.next_id c.args.entries next later c.self.invariant.good) refl refl

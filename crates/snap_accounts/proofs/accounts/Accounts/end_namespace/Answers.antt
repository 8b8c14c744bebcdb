use Rattle.std.proofs.Common.{◌≡◌, ℕ, ◌+◌, true, sym, subst}
use Rattle.snap_call.specs.declared.state.State.{State}
use Rattle.snap_call.specs.State.{is_taken_at}
use Rattle.snap_call.proofs.Leasing.{place_of-taken}
use Rattle.snap_accounts.specs.Accounts.{AreAccounts}
use Rattle.snap_accounts.specs.Changes.{IsEmptySpace}
use Rattle.snap_accounts.proofs.Changes.{accounts_unspaced}
use Rattle.snap_accounts.proofs.accounts.Accounts.end_namespace.Goals as goal

empty_in : (s t : State) (place : ℕ) → s ≡ t → IsEmptySpace t place → IsEmptySpace s place
empty_in s t place same is = subst (λ (u : State). IsEmptySpace u place) (sym same) is

taken_in : (s : State) (place : ℕ) → IsEmptySpace s place → is_taken_at place s.namespaces ≡ true
taken_in s place is = place_of-taken is.namespace s.namespaces place is.named

pub remove_namespace-requires-clause-taken : goal.remove_namespace-requires-clause-taken
remove_namespace-requires-clause-taken g c = taken_in c.self.inside.state c.args.place (empty_in c.self.inside.state _ c.args.place c.self.view_is c.requires.empty)

pub invariant_of-self : goal.invariant_of-self
invariant_of-self g c =
    let s = c.self.inside.state in
    subst (λ (u : State). AreAccounts (record u { entries = u.entries + 1 }) c.self.inside.totals c.self.inside.slots c.self.inside.opened) (sym c.remove_namespace.ensures)
    (accounts_unspaced s c.self.inside.totals c.self.inside.slots c.self.inside.opened c.args.place c.self.invariant (empty_in s _ c.args.place c.self.view_is c.requires.empty))

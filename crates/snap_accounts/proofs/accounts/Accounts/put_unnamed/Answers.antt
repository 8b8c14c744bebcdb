use Rattle.std.proofs.Common.{◌≡◌, ◌++◌, ◌∷◌, [], List, Some, sym, ap, ◌∙◌, subst}
use Rattle.snap_lease.specs.Lease.{Lease, empty_lease}
use Rattle.snap_lease.specs.Leases.{has_lease}
use Rattle.snap_call.specs.declared.state.State.{State}
use Rattle.snap_call.specs.SavedLeases.{lease_of, with_leases}
use Rattle.snap_call.specs.State.{place_of}
use Rattle.snap_accounts.specs.Accounts.{AreAccounts}
use Rattle.snap_accounts.specs.Saved.{HasLeaseAt}
use Rattle.snap_accounts.proofs.SavingLeases.{accounts_last, last_there, on_ok}
use Rattle.snap_accounts.proofs.accounts.Accounts.put_unnamed.Goals as goal
use Rattle.snap_accounts.proofs.accounts.Accounts.put_unnamed.Goals.{in-Ok, in-Err-OutOfMemory}

pub invariant_of-self : goal.invariant_of-self
invariant_of-self g c =
    let s : State = c.self.inside.state in
    let l : Lease = lease_of c.args.lease.now in
    let named : place_of l.namespace s.namespaces ≡ Some c.args.place = ap (λ (u : State). place_of l.namespace u.namespaces) c.self.view_is ∙ c.requires.named in
    let P : List Lease → Type 0 = λ ls. AreAccounts (with_leases s ls) c.self.inside.totals c.self.inside.slots c.self.inside.opened in
    elim c.match-create.branch [
      | in-Ok w ↦
          subst P (sym (w.in-Ok.ensures.ok ∙ (λ i. s.leases ++ empty_lease (c.as_str-namespace.ensures i) (c.as_str-name.ensures i) l.until ∷ [])))
          (accounts_last s c.self.inside.totals c.self.inside.slots c.self.inside.opened c.self.invariant c.args.place l named c.requires.formed (ap (λ (u : State). has_lease u.leases l.namespace l.name) c.self.view_is ∙ c.requires.new))
      | in-Err-OutOfMemory w ↦ subst P (sym w.in-Err-OutOfMemory.ensures.err) c.self.invariant
    ]

pub returns-clause-there : goal.returns-clause-there
returns-clause-there g c =
    let s : State = c.self.inside.state in
    let l : Lease = lease_of c.args.lease.now in
    let named : place_of l.namespace s.namespaces ≡ Some c.args.place = ap (λ (u : State). place_of l.namespace u.namespaces) c.self.view_is ∙ c.requires.named in
    let P : List Lease → Type 0 = λ ls. HasLeaseAt (with_leases s ls) c.args.place l in
    elim c.match-create.branch [
      | in-Ok w ↦
          on_ok _ _ (P c.create.new.self) w.result-is
          (subst P (sym (w.in-Ok.ensures.ok ∙ (λ i. s.leases ++ empty_lease (c.as_str-namespace.ensures i) (c.as_str-name.ensures i) l.until ∷ []))) (last_there s c.args.place l named))
      | in-Err-OutOfMemory w ↦ on_ok _ _ (P c.create.new.self) w.result-is tt
    ]

use Rattle.std.proofs.Common.{◌≡◌, List, sym, ap, ◌∙◌, subst}
use Rattle.std.specs.Prelude.{Ok}
use Rattle.snap_lease.specs.Lease.{Lease}
use Rattle.snap_lease.specs.Leases.{with_name_added}
use Rattle.snap_call.specs.declared.state.State.{State}
use Rattle.snap_call.specs.SavedLeases.{lease_of, name_answer, with_leases}
use Rattle.snap_accounts.specs.Accounts.{AreAccounts}
use Rattle.snap_accounts.specs.Saved.{HasLeaseAt}
use Rattle.snap_accounts.proofs.SavingLeases.{accounts_name, name_there, on_ok}
use Rattle.snap_accounts.proofs.accounts.Accounts.add_name.Goals as goal
use Rattle.snap_accounts.proofs.accounts.Accounts.add_name.Goals.{in-Ok, in-Err-OutOfMemory}

pub invariant_of-self : goal.invariant_of-self
invariant_of-self g c =
    let s : State = c.self.inside.state in
    let l : Lease = lease_of c.args.lease.now in
    let there : HasLeaseAt s c.args.place l = subst (λ (u : State). HasLeaseAt u c.args.place l) (sym c.self.view_is) c.requires.there in
    let passed : name_answer s c.args.place l c.args.name.now ≡ Ok tt = ap (λ (u : State). name_answer u c.args.place l c.args.name.now) c.self.view_is ∙ c.requires.possible in
    let P : List Lease → Type 0 = λ ls. AreAccounts (with_leases s ls) c.self.inside.totals c.self.inside.slots c.self.inside.opened in
    elim c.match-add.branch [
      | in-Ok w ↦
          subst P (sym (w.in-Ok.ensures.ok ∙ (λ i. with_name_added s.leases (c.as_str-namespace.ensures i) (c.as_str-lease.ensures i) c.args.name.now)))
          (accounts_name s c.self.inside.totals c.self.inside.slots c.self.inside.opened c.self.invariant c.args.place l c.args.name.now there passed)
      | in-Err-OutOfMemory w ↦ subst P (sym w.in-Err-OutOfMemory.ensures.err) c.self.invariant
    ]

pub returns-clause-there : goal.returns-clause-there
returns-clause-there g c =
    let s : State = c.self.inside.state in
    let l : Lease = lease_of c.args.lease.now in
    let there : HasLeaseAt s c.args.place l = subst (λ (u : State). HasLeaseAt u c.args.place l) (sym c.self.view_is) c.requires.there in
    let P : List Lease → Type 0 = λ ls. HasLeaseAt (with_leases s ls) c.args.place l in
    elim c.match-add.branch [
      | in-Ok w ↦
          on_ok _ _ (P c.add.new.self) w.result-is
          (subst P (sym (w.in-Ok.ensures.ok ∙ (λ i. with_name_added s.leases (c.as_str-namespace.ensures i) (c.as_str-lease.ensures i) c.args.name.now))) (name_there s c.args.place l c.args.name.now there))
      | in-Err-OutOfMemory w ↦ on_ok _ _ (P c.add.new.self) w.result-is tt
    ]

use Rattle.std.proofs.Common.{◌≡◌, ℕ, ◌≤◌, false, ap, ◌∙◌, subst}
use Rattle.std.specs.Prelude.{nat_lt, Err}
use Rattle.std.proofs.lemmas.Bool.{le-ltb}
use Rattle.snap_call.specs.declared.refusal.Refusal.{Refusal}
use Rattle.snap_call.specs.declared.state.State.{State}
use Rattle.snap_book.specs.Round.{roll_answer}
use Rattle.snap_world.specs.declared.fault.RestoreFault.{RestoreFault}
use Rattle.snap_world.specs.Saved.{RestoringValue}
use Rattle.snap_world.proofs.Ending.{ended_first}
use Rattle.snap_world.proofs.restoring.Restoring.finish.Goals as goal

pub returns-in-Err-clause-first : goal.returns-in-Err-clause-first
returns-in-Err-clause-first g c = λ fault e.
    let v : RestoringValue = c.args.self in
    let next_id = c.args.next_id in
    let journal = c.args.journal in
    let s : State = c.self.inside.accounts in
    let same : s ≡ v.state = ap (λ (x : RestoringValue). x.state) c.self.view_is in
    let low : v.state.next_id ≤ next_id = subst (λ (u : State). u.next_id ≤ next_id) (c.state.ensures.same ∙ same) c.if-next_id-state.false in
    let above : nat_lt next_id v.state.next_id ≡ false = le-ltb next_id v.state.next_id low in
    let begins : roll_answer c.number_from.new.self journal ≡ roll_answer v.state journal =
    ap (λ (u : State). roll_answer u journal) c.number_from.ensures
    ∙ ap (λ (n : ℕ). roll_answer (record s { next_id = next_id; entries = n }) journal) (ap (λ (u : State). u.entries) c.state-2.ensures.same)
    ∙ ap (λ (u : State). roll_answer u journal) same in
    let first : (w : Refusal) → roll_answer v.state journal ≡ Err w → c.in-Err.why ≡ w = λ w is. c.in-Err.ensures.first w (begins ∙ is) in
    ap (λ (x : RestoreFault). Err x) (ended_first v next_id journal c.in-Err.why fault c.fault_of.result above first c.fault_of.ensures.part e)

use Rattle.std.proofs.Common.{◌≡◌, ℕ, ◌+◌, List, set, Some, refl, sym, ap, ◌∙◌, subst, arith}
use Rattle.snap_ledger.specs.States.{ShareState, minus, free_charge}
use Rattle.snap_record.specs.Records.{usage_of}
use Rattle.snap_record.specs.declared.record.Record.{Record}
use Rattle.snap_call.specs.declared.state.State.{State}
use Rattle.snap_call.specs.Good.{Good}
use Rattle.snap_call.specs.Records.{charge_of, charge_at, active_at, without_slot, open_count}
use Rattle.snap_call.proofs.Slots.{charge_at-issued}
use Rattle.snap_call.proofs.Counts.{open_count-without_slot, open_count-some}
use Rattle.snap_call.proofs.Keeping.{good_discarded}
use Rattle.snap_accounts.specs.Totals.{place_if}
use Rattle.snap_accounts.proofs.Accounting.{accounts_freed}
use Rattle.snap_accounts.proofs.accounts.Accounts.discard.Goals as goal

pub overflow_sub-self : goal.overflow_sub-self
overflow_sub-self g c =
    let s = c.self.inside.state in
    let slot = c.args.share.slot in
    let same = c.self.view_is ∙ c.meet-held.ensures.same in
    let found = charge_at-issued slot s.records (ap (λ (u : State). (charge_at slot u.records).issued) same ∙ c.meet-held.ensures.met.0) in
    let least = open_count-some slot s.records found.0 found.1 in
    omega (arith, least, c.self.invariant.open_are)

pub returns-clause-open : goal.returns-clause-open
returns-clause-open g c =
    let s = c.self.inside.state in
    let slot = c.args.share.slot in
    let same = c.self.view_is ∙ c.meet-held.ensures.same in
    let found = charge_at-issued slot s.records (ap (λ (u : State). (charge_at slot u.records).issued) same ∙ c.meet-held.ensures.met.0) in
    let is : c.take_slot.new.self ≡ without_slot slot s.records = c.take_slot.ensures.taken ∙ ap (λ (k : ℕ). without_slot k s.records) c.slot-slot.ensures in
    ap (λ (l : List Record). open_count l + 1) is ∙ (open_count-without_slot slot s.records found.0 found.1 ∙ ap (λ (u : State). open_count u.records) same)

pub invariant_of-self : goal.invariant_of-self
invariant_of-self g c =
    let s = c.self.inside.state in
    let slot = c.args.share.slot in
    let same = c.self.view_is ∙ c.meet-held.ensures.same in
    let found = charge_at-issued slot s.records (ap (λ (u : State). (charge_at slot u.records).issued) same ∙ c.meet-held.ensures.met.0) in
    let r : Record = found.0 in
    let e : active_at slot s.records ≡ Some r = found.1 in
    let held : usage_of r.content ≡ c.meet-held.result = found.3 ∙ (ap (λ (u : State). (charge_at slot u.records).usage) same ∙ (c.meet-held.ensures.met.2 ∙ sym c.meet-held.ensures.held)) in
    let place : c.place-place.result ≡ r.namespace = c.place-place.ensures.place ∙ ((λ i. place_if (active_at (c.slot-slot.ensures i) (sym c.self.view_is i).records)) ∙ ap place_if e) in
    let total : c.total.result ≡ charge_of r.namespace s.records = c.total.ensures.total ∙ (λ i. charge_of (place i) (sym c.self.view_is i).records) in
    let rest : c.difference-rest.result ≡ minus (charge_of r.namespace s.records) (usage_of r.content) = c.difference-rest.ensures ∙ (λ i. minus (total i) (sym held i)) in
    let is : c.take_slot.new.self ≡ without_slot slot s.records = c.take_slot.ensures.taken ∙ ap (λ (k : ℕ). without_slot k s.records) c.slot-slot.ensures in
    let less = open_count-without_slot slot s.records r e in
    let left = ap open_count is in
    accounts_freed s _ c.self.inside.totals _ c.self.inside.slots _ c.self.inside.opened _ slot r c.self.invariant
    (subst (λ (l : List Record). Good (record s { records = l; entries = s.entries + 1 })) (sym is) (good_discarded s slot r c.self.invariant.good e))
    e c.requires.slot refl is
    (omega (arith, less, left, c.self.invariant.open_are))
    (c.set.ensures ∙ (λ i. set c.self.inside.totals (place i) (rest i)))
    (c.spend.ensures.charges ∙ ap (λ (x : ShareState). set c.self.inside.slots x.slot (free_charge x.slot)) c.meet-held.ensures.share)

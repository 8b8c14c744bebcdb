use Rattle.std.proofs.Common.{◌≡◌, ◌<◌, ◌+◌, ℕ, List, set, true, refl, sym, ap, ◌∙◌, subst, arith}
use Rattle.snap_usage.specs.declared.usage.Usage.{Usage}
use Rattle.snap_usage.specs.Counted.{covers}
use Rattle.snap_ledger.specs.States.{ChargeState, plus}
use Rattle.snap_record.specs.declared.record.Record.{Record}
use Rattle.snap_record.specs.declared.record.Content.TheVariants.{Active}
use Rattle.snap_call.specs.declared.state.State.{State}
use Rattle.snap_call.specs.Good.{Good}
use Rattle.snap_call.specs.Records.{charge_of, active_at, has_key, open_count, with_record}
use Rattle.snap_call.specs.State.{limit_at, is_base, is_taken_at, is_too_deep}
use Rattle.snap_call.specs.Step.{one, new_record}
use Rattle.snap_accounts.proofs.Accounting.{accounts_same, few-covered}
use Rattle.snap_accounts.proofs.Prepared.{accounts_prepared, charge_in-free, open-most, open_count-prepared}
use Rattle.snap_accounts.proofs.accounts.Accounts.insert.Goals as goal

abbrev as_charge : ℕ → ℕ → Usage → ChargeState
as_charge slot id u = record { slot = slot; id = id; usage = u; issued = true }

pub invariant_of-self : goal.invariant_of-self
invariant_of-self g c =
    let s = c.self.inside.state in
    let same : c.insert.new.self ≡ s.records = c.in-Err.ensures.err in
    accounts_same s (record s { records = c.insert.new.self }) c.self.inside.totals c.self.inside.slots c.self.inside.opened c.self.invariant
    (subst (λ (l : List Record). Good (record s { records = l })) (sym same) c.self.invariant.good)
    refl same

pub plus-after-requires-clause-blocks : goal.plus-after-requires-clause-blocks
plus-after-requires-clause-blocks g c =
    let place = c.args.vacancy.place in
    let s : State = c.args.self.now in
    let room = few-covered (limit_at place s.namespaces) (plus (charge_of place s.records) one) c.total.ensures.limit c.requires.vacant.fits in
    omega (arith, room.0, ap (λ (u : Usage). u.blocks) c.total.ensures.total, ap (λ (u : Usage). u.blocks) c.one.ensures)

pub plus-after-requires-clause-inodes : goal.plus-after-requires-clause-inodes
plus-after-requires-clause-inodes g c =
    let place = c.args.vacancy.place in
    let s : State = c.args.self.now in
    let room = few-covered (limit_at place s.namespaces) (plus (charge_of place s.records) one) c.total.ensures.limit c.requires.vacant.fits in
    omega (arith, room.1, ap (λ (u : Usage). u.inodes) c.total.ensures.total, ap (λ (u : Usage). u.inodes) c.one.ensures)

pub overflow_add-self-3 : goal.overflow_add-self-3
overflow_add-self-3 g c =
    let most = open-most c.self.inside.state c.self.inside.totals c.self.inside.slots c.self.inside.opened c.self.invariant in
    omega (arith, most)

pub issue-requires-clause-free : goal.issue-requires-clause-free
issue-requires-clause-free g c =
    let s = c.self.inside.state in
    charge_in-free s c.self.inside.totals c.self.inside.slots c.self.inside.opened c.args.vacancy.slot c.self.invariant c.requires.vacant.few
    (ap (λ (u : State). active_at c.args.vacancy.slot u.records) c.self.view_is ∙ c.requires.vacant.free)

pub invariant_of-self-2 : goal.invariant_of-self-2
invariant_of-self-2 g c =
    let s = c.self.inside.state in
    let place = c.args.vacancy.place in
    let slot = c.args.vacancy.slot in
    let key = c.args.added.key in
    let parent = c.args.added.parent in
    let labels = c.args.added.labels in
    let view : s ≡ c.args.self.now = c.self.view_is in
    let made : c.args.added ≡ new_record s place key parent labels (Active slot one) = c.requires.added ∙ ap (λ (u : State). new_record u place key parent labels (Active slot one)) (sym view) in
    let is : c.insert.new.self ≡ with_record (new_record s place key parent labels (Active slot one)) s.records = c.in_default.ensures.ok ∙ ap (λ (r : Record). with_record r s.records) (c.in_ok-held.ensures ∙ made) in
    let total : c.total.result ≡ charge_of place s.records = c.total.ensures.total ∙ ap (λ (u : State). charge_of place u.records) (sym view) in
    let after : c.plus-after.result ≡ plus (charge_of place s.records) one = c.plus-after.ensures ∙ (λ i. plus (total i) (c.one.ensures i)) in
    accounts_prepared s c.self.inside.totals c.set.new.self c.self.inside.slots c.issue.new.self c.self.inside.opened place slot key parent labels c.insert.new.self c.self.invariant
    (ap (λ (u : State). is_taken_at place u.namespaces) view ∙ c.requires.vacant.site.taken)
    (ap (λ (u : State). has_key place key u.records) view ∙ c.requires.vacant.site.new)
    (ap (λ (u : State). is_base place parent u.records) view ∙ c.requires.vacant.site.base)
    (ap (λ (u : State). is_too_deep u.ancestors place parent u.records) view ∙ c.requires.vacant.site.deep)
    c.requires.vacant.site.texts
    (subst (λ (u : State). slot < u.slots) (sym view) c.requires.vacant.low)
    c.requires.vacant.few
    (ap (λ (u : State). active_at slot u.records) view ∙ c.requires.vacant.free)
    (ap (λ (u : State). covers (limit_at place u.namespaces) (plus (charge_of place u.records) one)) view ∙ c.requires.vacant.fits)
    is
    (c.set.ensures ∙ ap (set c.self.inside.totals place) after)
    (c.issue.ensures.charges ∙ (λ i. set c.self.inside.slots slot (as_charge slot (made i).id (c.one-2.ensures i))))

pub returns-clause-open : goal.returns-clause-open
returns-clause-open g c =
    let s = c.self.inside.state in
    let place = c.args.vacancy.place in
    let slot = c.args.vacancy.slot in
    let key = c.args.added.key in
    let parent = c.args.added.parent in
    let labels = c.args.added.labels in
    let view : s ≡ c.args.self.now = c.self.view_is in
    let made : c.args.added ≡ new_record s place key parent labels (Active slot one) = c.requires.added ∙ ap (λ (u : State). new_record u place key parent labels (Active slot one)) (sym view) in
    let is : c.insert.new.self ≡ with_record (new_record s place key parent labels (Active slot one)) s.records = c.in_default.ensures.ok ∙ ap (λ (r : Record). with_record r s.records) (c.in_ok-held.ensures ∙ made) in
    open_count-prepared s place key parent labels slot c.insert.new.self is ∙ ap (λ (u : State). open_count u.records + 1) view

pub insert-requires-clause-few : goal.insert-requires-clause-few
insert-requires-clause-few g c =
    omega (arith, c.self.invariant.good.fewer, ap (λ (u : State). u.next_id) c.self.view_is, c.requires.vacant.site.numbers)

use Rattle.std.proofs.Common.{rules, ◌≡◌, ◌+◌, ◌-◌, set, Some, IsSome, is_some, false, refl, sym, ap, ◌∙◌, subst, arith}
use Rattle.snap_usage.specs.declared.usage.Usage.{Usage}
use Rattle.snap_usage.specs.Counted.{Covers, count_of}
use Rattle.snap_layer.specs.Tree.{Tree}
use Rattle.snap_ledger.specs.States.{minus, plus}
use Rattle.snap_record.specs.Labels.{Bytes, Label}
use Rattle.snap_record.specs.Records.{usage_of}
use Rattle.snap_record.specs.declared.record.Record.{Record}
use Rattle.std.specs.Prelude.{List, Option}
use Rattle.snap_call.specs.declared.state.State.{State}
use Rattle.snap_call.specs.Records.{charge_of, charge_at, active_at, has_key, with_record, without_slot, committed_as, open_count}
use Rattle.snap_call.specs.Step.{leases_after}
use Rattle.snap_call.proofs.Sums.{charge_with}
use Rattle.snap_call.proofs.Slots.{charge_at-issued}
use Rattle.snap_call.proofs.Counts.{open_count-committed, open_count-some}
use Rattle.snap_call.proofs.Keeping.{good_committed}
use Rattle.snap_accounts.specs.Accounts.{AreAccounts}
use Rattle.snap_accounts.specs.Totals.{place_if}
use Rattle.snap_accounts.proofs.Accounting.{accounts_committed}
use Rattle.snap_accounts.proofs.Commits.{committed_from, place-free, place-named}
use Rattle.snap_accounts.proofs.accounts.Accounts.commit.Goals as goal

pub commit-requires-clause-good : goal.commit-requires-clause-good
commit-requires-clause-good g c = c.self.invariant.good

pub commit-requires-clause-new : goal.commit-requires-clause-new
commit-requires-clause-new g c =
    let same = c.self.view_is in
    place-free c.slot-slot.result c.args.share.slot c.args.name.now c.self.inside.state _ c.slot-slot.ensures same c.requires.possible.free

pub commit-requires-clause-named : goal.commit-requires-clause-named
commit-requires-clause-named g c =
    let same = c.self.view_is in
    place-named c.slot-slot.result c.args.share.slot c.args.lease.now c.self.inside.state _ c.slot-slot.ensures same c.requires.possible.named

pub overflow_sub-self : goal.overflow_sub-self
overflow_sub-self g c =
    let s = c.self.inside.state in
    let slot = c.args.share.slot in
    let same = c.self.view_is in
    let found = charge_at-issued slot s.records (ap (λ (u : State). (charge_at slot u.records).issued) same ∙ c.requires.met.0) in
    let least = open_count-some slot s.records found.0 found.1 in
    omega (arith, least, c.self.invariant.open_are)

pub returns-clause-open : goal.returns-clause-open
returns-clause-open g c =
    let s = c.self.inside.state in
    let slot = c.args.share.slot in
    let same = c.self.view_is in
    let found = charge_at-issued slot s.records (ap (λ (u : State). (charge_at slot u.records).issued) same ∙ c.requires.met.0) in
    let done = committed_from c.slot-slot.result slot c.args.name.now c.args.lease.now c.args.labels.now c.args.layer.now s c.commit.new.self found.0 c.slot-slot.ensures found.1 c.in_default.ensures.ok in
    ap (λ (u : State). open_count u.records + 1) done ∙ (open_count-committed slot c.args.name.now c.args.labels.now c.args.layer.now (s.entries + 1) s.records found.0 found.1 ∙ ap (λ (u : State). open_count u.records) same)

pub invariant_of-self-2 : goal.invariant_of-self-2
invariant_of-self-2 g c =
    let s = c.self.inside.state in
    let slot = c.args.share.slot in
    let name : Bytes = c.args.name.now in
    let lease : Option Bytes = c.args.lease.now in
    let labels : Option (List Label) = c.args.labels.now in
    let layer : Tree = c.args.layer.now in
    let same = c.self.view_is in
    let found = charge_at-issued slot s.records (ap (λ (u : State). (charge_at slot u.records).issued) same ∙ c.requires.met.0) in
    let r : Record = found.0 in
    let e : active_at slot s.records ≡ Some r = found.1 in
    let own : usage_of r.content ≡ c.args.share.usage = found.3 ∙ (ap (λ (u : State). (charge_at slot u.records).usage) same ∙ c.requires.met.2) in
    let held : usage_of r.content ≡ c.held-held.result = own ∙ sym c.held-held.ensures.held in
    let place : c.place-place.result ≡ r.namespace = c.place-place.ensures.place ∙ ((λ i. place_if (active_at (c.slot-slot.ensures i) (sym c.self.view_is i).records)) ∙ ap place_if e) in
    let count : c.count-usage.result ≡ count_of layer = c.count-usage.ensures.count ∙ ap count_of c.layer.ensures.value in
    let after : c.total_with-after.result ≡ charge_with r (count_of layer) s.records = c.total_with-after.ensures ∙ (λ i. plus (minus (charge_of (place i) (sym c.self.view_is i).records) (sym held i)) (count i)) in
    let free : has_key r.namespace name s.records ≡ false =
    ap (λ (o : Option Record). has_key (place_if o) name s.records) (sym e) ∙ (ap (λ (u : State). has_key (place_if (active_at slot u.records)) name u.records) same ∙ c.requires.possible.free) in
    let done = committed_from c.slot-slot.result slot name lease labels layer s c.commit.new.self r c.slot-slot.ensures e c.in_default.ensures.ok in
    let less = open_count-committed slot name labels layer (s.entries + 1) s.records r e in
    let good = good_committed s slot name lease labels layer r c.self.invariant.good e c.requires.possible.formed free (subst (λ (u : Usage). Covers u (count_of layer)) (sym own) c.requires.covers) in
    subst (λ (u : State). AreAccounts (record u { entries = s.entries + 1 }) c.set.new.self c.spend.new.self (c.self.inside.opened - 1)) (sym done)
    (accounts_committed s (record s { records = with_record (committed_as name labels layer (s.entries + 1) r) (without_slot slot s.records); leases = leases_after s r.namespace name lease; entries = s.entries + 1 }) c.self.inside.totals _ c.self.inside.slots _ c.self.inside.opened (c.self.inside.opened - 1) slot (s.entries + 1) name labels layer r c.self.invariant
    good
    e c.requires.slot refl refl
    (omega (arith, less, c.self.invariant.open_are))
    (c.set.ensures ∙ (λ i. set c.self.inside.totals (place i) (after i)))
    c.spend.ensures.charges)

pub commit-requires-clause-open : goal.commit-requires-clause-open
commit-requires-clause-open g c =
    let s = c.self.inside.state in
    let slot = c.args.share.slot in
    let same = c.self.view_is in
    let found = charge_at-issued slot s.records (ap (λ (u : State). (charge_at slot u.records).issued) same ∙ c.requires.met.0) in
    subst (λ k. IsSome (active_at k s.records)) (sym c.slot-slot.ensures) (ap is_some found.1)

pub prove-unreachable-requires : goal.prove-unreachable-requires
prove-unreachable-requires g c = omega (arith, c.self.invariant.good.fewer, c.next_id-next.ensures, c.len.ensures, ap (λ (u : State). u.next_id) c.self.view_is)

pub commit-requires-clause-few : goal.commit-requires-clause-few
commit-requires-clause-few g c = omega (arith, c.self.invariant.good.fewer, c.next_id-next.ensures, ap (λ (u : State). u.next_id) c.self.view_is)

pub returns-clause-step : goal.returns-clause-step
returns-clause-step g c =
    let s = c.self.inside.state in
    let slot = c.args.share.slot in
    let same = c.self.view_is in
    let found = charge_at-issued slot s.records (ap (λ (u : State). (charge_at slot u.records).issued) same ∙ c.requires.met.0) in
    let done = committed_from c.slot-slot.result slot c.args.name.now c.args.lease.now c.args.labels.now c.args.layer.now s c.commit.new.self found.0 c.slot-slot.ensures found.1 c.in_default.ensures.ok in
    search rules

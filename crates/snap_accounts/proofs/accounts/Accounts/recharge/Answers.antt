use Rattle.std.proofs.Common.{◌≡◌, ℕ, ◌<◌, List, set, Some, true, refl, sym, ap, ◌∙◌, subst, ◌+◌}
use Rattle.std.specs.Prelude.{◌^◌}
use Rattle.snap_usage.specs.declared.usage.Usage.{Usage}
use Rattle.snap_usage.specs.Counted.{Covers}
use Rattle.snap_ledger.specs.States.{minus, plus}
use Rattle.snap_record.specs.Records.{usage_of}
use Rattle.snap_record.specs.declared.record.Record.{Record}
use Rattle.snap_call.specs.declared.state.State.{State}
use Rattle.snap_call.specs.Good.{Good}
use Rattle.snap_call.specs.Records.{charge_of, charge_at, active_at, recharged, open_count}
use Rattle.snap_call.specs.State.{limit_at}
use Rattle.snap_call.specs.Step.{fits_limit as fits_in}
use Rattle.snap_call.proofs.Sums.{charge_with}
use Rattle.snap_call.proofs.Slots.{charge_at-issued}
use Rattle.snap_call.proofs.Counts.{open_count-recharged}
use Rattle.snap_call.proofs.Keeping.{covers-Covers, good_recharged}
use Rattle.snap_accounts.specs.Totals.{place_if}
use Rattle.snap_accounts.proofs.Accounting.{accounts_recharged, few-covered}
use Rattle.snap_accounts.proofs.accounts.Accounts.recharge.Goals as goal

pub plus-after-requires-clause-blocks : goal.plus-after-requires-clause-blocks
plus-after-requires-clause-blocks g c =
    let place = c.args.place in
    let s : State = c.args.self.now in
    let held : Usage = c.args.share.now.usage in
    let rest : c.difference-rest.result ≡ minus (charge_of place s.records) held = c.difference-rest.ensures ∙ (λ i. minus (c.total.ensures.total i) (c.held.ensures.held i)) in
    subst (λ (u : Usage). u.blocks + c.args.to.blocks < 2 ^ 64) (sym rest) (few-covered (limit_at place s.namespaces) (plus (minus (charge_of place s.records) held) c.args.to) c.total.ensures.limit c.requires.fits).0

pub plus-after-requires-clause-inodes : goal.plus-after-requires-clause-inodes
plus-after-requires-clause-inodes g c =
    let place = c.args.place in
    let s : State = c.args.self.now in
    let held : Usage = c.args.share.now.usage in
    let rest : c.difference-rest.result ≡ minus (charge_of place s.records) held = c.difference-rest.ensures ∙ (λ i. minus (c.total.ensures.total i) (c.held.ensures.held i)) in
    subst (λ (u : Usage). u.inodes + c.args.to.inodes < 2 ^ 64) (sym rest) (few-covered (limit_at place s.namespaces) (plus (minus (charge_of place s.records) held) c.args.to) c.total.ensures.limit c.requires.fits).1

pub invariant_of-self : goal.invariant_of-self
invariant_of-self g c =
    let s = c.self.inside.state in
    let slot = c.args.share.now.slot in
    let to : Usage = c.args.to in
    let found = charge_at-issued slot s.records (ap (λ (u : State). (charge_at slot u.records).issued) c.self.view_is ∙ c.requires.charged.met.0) in
    let r : Record = found.0 in
    let e : active_at slot s.records ≡ Some r = found.1 in
    let held : usage_of r.content ≡ c.args.share.now.usage = found.3 ∙ (ap (λ (u : State). (charge_at slot u.records).usage) c.self.view_is ∙ c.requires.charged.met.2) in
    let place : c.args.place ≡ r.namespace = c.requires.charged.namespace ∙ (ap (λ (u : State). place_if (active_at slot u.records)) (sym c.self.view_is) ∙ ap place_if e) in
    let total : c.total.result ≡ charge_of r.namespace s.records = c.total.ensures.total ∙ (λ i. charge_of (place i) (sym c.self.view_is i).records) in
    let rest : c.difference-rest.result ≡ minus (charge_of r.namespace s.records) (usage_of r.content) = c.difference-rest.ensures ∙ (λ i. minus (total i) ((c.held.ensures.held ∙ sym held) i)) in
    let after : c.plus-after.result ≡ charge_with r to s.records = c.plus-after.ensures ∙ ap (λ (u : Usage). plus u to) rest in
    let is : c.recharge.new.self ≡ recharged slot to s.records = c.recharge.ensures ∙ ap (λ (k : ℕ). recharged k to s.records) c.slot-slot.ensures in
    let fits : fits_in s r.namespace (usage_of r.content) to ≡ true = (λ i. fits_in (c.self.view_is i) (sym place i) (held i) to) ∙ c.requires.fits in
    let room : Covers (limit_at r.namespace s.namespaces) (charge_with r to s.records) = covers-Covers (limit_at r.namespace s.namespaces) (charge_with r to s.records) fits in
    let good = good_recharged slot to s r c.self.invariant.good e room in
    accounts_recharged s _ c.self.inside.totals _ c.self.inside.slots _ c.self.inside.opened slot to r c.self.invariant
    (subst (λ (l : List Record). Good (record s { records = l; entries = s.entries + 1 })) (sym is) good)
    e c.requires.charged.low refl is
    (ap open_count is ∙ open_count-recharged slot to s.records)
    (c.set-2.ensures ∙ (λ i. set c.self.inside.totals (place i) (after i)))
    c.set.ensures.charges

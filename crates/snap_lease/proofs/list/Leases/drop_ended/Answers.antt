use Rattle.std.proofs.Common.{◌∙◌, ◌≡◌, filter, not, rules, ap, sym, subst}
use Rattle.std.proofs.lemmas.Map.Made.{filter_same_pairs}
use Rattle.std.specs.List.{AllByRecursion}
use Rattle.std.specs.Map.{values_of}
use Rattle.snap_lease.specs.Lease.{NamesOnce}
use Rattle.snap_lease.specs.Leases.{AreDistinct, has_ended, without_ended, CountsLive}
use Rattle.snap_lease.specs.Index.{AreNameCounts}
use Rattle.snap_lease.specs.Numbers.{AreNumbers}
use Rattle.snap_lease.proofs.CountLemmas.{CountsLive-without_ended}
use Rattle.snap_lease.proofs.IndexLemmas.{counts-ended}
use Rattle.snap_lease.proofs.ListLemmas.{IsDistinct-filter, all-filter}
use Rattle.snap_lease.proofs.NumberLemmas.{numbers-ended, values-filter}
use Rattle.snap_lease.proofs.list.Leases.drop_ended.Goals as goal

-- what the call leaves
kept : (c : goal.After-retain) → c.retain.new.self.entries ≡ filter (λ e. not (has_ended c.args.namespace.now c.args.now e.1)) c.self.inside.list.entries
kept c = filter_same_pairs _ (λ e. not (has_ended c.args.namespace.now c.args.now e.1)) _ (λ k v b w f' t. search rules) _ _ c.retain.ensures.filtered

values : (c : goal.After-retain) → values_of c.retain.new.self.entries ≡ without_ended (values_of c.self.inside.list.entries) c.args.namespace.now c.args.now
values c = ap values_of (kept c) ∙ values-filter (λ l. not (has_ended c.args.namespace.now c.args.now l)) c.self.inside.list.entries

pub invariant_of-self : goal.invariant_of-self
invariant_of-self c =
    let es = c.self.inside.list.entries in
    let index = c.take_ended.new.numbers in (
      subst AreDistinct (sym (values c)) (IsDistinct-filter _ _ _ c.self.invariant.0),
      subst (AllByRecursion NamesOnce) (sym (values c)) (all-filter NamesOnce _ _ c.self.invariant.1),
      subst (λ ls. AreNameCounts ls c.take_ended.new.counts) (sym (values c))
          (counts-ended c.args.namespace.now c.args.now (values_of es) c.self.inside.counts c.take_ended.new.counts c.self.invariant.2 c.take_ended.ensures.counted),
      subst (λ xs. AreNumbers xs index) (sym (kept c))
          (numbers-ended es c.self.inside.numbers index (has_ended c.args.namespace.now c.args.now) c.self.invariant.0 c.self.invariant.3 c.take_ended.ensures.numbered),
      c.retain.ensures.ordered,
    )

pub returns-clause-leases : goal.returns-clause-leases
returns-clause-leases c = values c ∙ ap (λ ls. without_ended ls c.args.namespace.now c.args.now) c.self.view_is

pub returns-clause-counts : goal.returns-clause-counts
returns-clause-counts c =
    subst (λ new. CountsLive c.args.self.now new c.args.namespace.now c.args.now) (sym (returns-clause-leases c))
    (CountsLive-without_ended c.args.self.now c.args.namespace.now c.args.now)

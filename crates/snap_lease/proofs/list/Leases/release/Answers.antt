use Rattle.std.proofs.Common.{◌∙◌, ◌≡◌, Some, true, false, rules, ap, is_some, sym, subst}
use Rattle.std.specs.List.{AllByRecursion}
use Rattle.std.specs.Map.{values_of}
use Rattle.snap_lease.specs.Index.{AreNameCounts}
use Rattle.snap_lease.specs.Lease.{NamesOnce}
use Rattle.snap_lease.specs.Leases.{AreDistinct, has_lease, without_lease, CountsReleased}
use Rattle.snap_lease.specs.Numbers.{AreNumbers}
use Rattle.snap_lease.proofs.CountLemmas.{CountsReleased-without_lease}
use Rattle.snap_lease.proofs.IndexLemmas.{all-at, counts-released}
use Rattle.snap_lease.proofs.ListLemmas.{IsDistinct-filter, all-filter}
use Rattle.snap_lease.proofs.NumberLemmas.{found_at_number, has_lease_at_number, numbers-released, removed_at_number, stands_at_number, values-released}
use Rattle.snap_lease.proofs.list.Leases.release.Goals as goal

pub returns-in_default-clause-no_lease : goal.returns-in_default-clause-no_lease
returns-in_default-clause-no_lease c =
    let absent : has_lease c.args.self.now c.args.namespace.now c.args.lease.now ≡ false =
    has_lease_at_number c.self.inside.list.entries c.args.self.now c.self.inside.numbers c.args.namespace.now c.args.lease.now c.get.result c.get.ensures c.self.invariant.3 c.self.view_is ∙ ap is_some c.in_default.is in
    search rules

pub index-requires : goal.index-requires
index-requires c =
    found_at_number c.self.inside.list.entries c.self.inside.numbers c.args.namespace.now c.args.lease.now c.in-Some.number c.self.invariant.4 c.self.invariant.0 c.self.invariant.3 c.in-Some.ensures

pub take_counts-requires : goal.take_counts-requires
take_counts-requires c =
    let at = stands_at_number c.self.inside.list.entries c.self.inside.numbers c.args.namespace.now c.args.lease.now c.in-Some.number c.self.invariant.4 c.self.invariant.0 c.self.invariant.3 c.in-Some.ensures c.index.result.now c.index.ensures in
    subst NamesOnce (sym at.at) (all-at NamesOnce (values_of c.self.inside.list.entries) at.place c.index.result.now c.self.invariant.1 at.within)

pub invariant_of-self : goal.invariant_of-self
invariant_of-self c =
    let es = c.self.inside.list.entries in
    let namespace = c.args.namespace.now in
    let lease = c.args.lease.now in
    let n = c.in-Some.number in
    let at = stands_at_number es c.self.inside.numbers namespace lease n c.self.invariant.4 c.self.invariant.0 c.self.invariant.3 c.in-Some.ensures c.index.result.now c.index.ensures in
    let values : values_of c.remove.new.self.entries ≡ without_lease (values_of es) namespace lease =
    ap values_of c.remove.ensures.entries ∙ values-released es c.self.inside.numbers namespace lease n c.self.invariant.4 c.self.invariant.0 c.self.invariant.3 c.in-Some.ensures in
    let kept = c.remove.ensures.entries ∙ removed_at_number es c.self.inside.numbers namespace lease n c.self.invariant.4 c.self.invariant.0 c.self.invariant.3 c.in-Some.ensures in
    let counts = counts-released namespace lease (values_of es) at.place c.index.result.now c.index.result.now c.self.inside.counts c.take_counts.new.counts
    c.self.invariant.2 c.self.invariant.0 at.within at.passes at.at c.take_counts.ensures in (
      subst AreDistinct (sym values) (IsDistinct-filter _ _ _ c.self.invariant.0),
      subst (AllByRecursion NamesOnce) (sym values) (all-filter NamesOnce _ _ c.self.invariant.1),
      subst (λ ls. AreNameCounts ls c.take_counts.new.counts) (sym values) counts,
      subst (λ xs. AreNumbers xs c.take.new.self) (sym kept) (numbers-released es c.self.inside.numbers c.take.new.self namespace lease c.self.invariant.3 c.take.ensures),
      c.remove.ensures.ordered,
    )

pub returns-clause-ok : goal.returns-clause-ok
returns-clause-ok c =
    ap values_of c.remove.ensures.entries
    ∙ values-released c.self.inside.list.entries c.self.inside.numbers c.args.namespace.now c.args.lease.now c.in-Some.number c.self.invariant.4 c.self.invariant.0 c.self.invariant.3 c.in-Some.ensures
    ∙ ap (λ ls. without_lease ls c.args.namespace.now c.args.lease.now) c.self.view_is

pub returns-clause-counts : goal.returns-clause-counts
returns-clause-counts c =
    subst (λ new. CountsReleased c.args.self.now new c.args.namespace.now c.args.lease.now) (sym (returns-clause-ok c))
    (CountsReleased-without_lease c.args.namespace.now c.args.lease.now c.args.self.now (subst AreDistinct c.self.view_is c.self.invariant.0))

pub returns-clause-no_lease : goal.returns-clause-no_lease
returns-clause-no_lease c =
    let there : has_lease c.args.self.now c.args.namespace.now c.args.lease.now ≡ true =
    has_lease_at_number c.self.inside.list.entries c.args.self.now c.self.inside.numbers c.args.namespace.now c.args.lease.now (Some c.in-Some.number) c.in-Some.ensures c.self.invariant.3 c.self.view_is in
    search rules

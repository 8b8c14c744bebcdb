use Rattle.std.proofs.Common.{◌∙◌, ◌≡◌, Bool, Some, true, false, rules, ap, is_some, refl, subst, sym, true≢false}
use Rattle.std.proofs.lemmas.Map.Steps.{set_value_same}
use Rattle.std.specs.BTreeMap.{is_at}
use Rattle.std.specs.List.{AllByRecursion}
use Rattle.std.specs.Map.{set_value, values_of}
use Rattle.std.specs.Option.{option_copied_mut}
use Rattle.std.specs.Ordering.{nat_cmp}
use Rattle.snap_lease.specs.Index.{AreNameCounts}
use Rattle.snap_lease.specs.Lease.{NamesOnce, does_name, is_lease}
use Rattle.snap_lease.specs.Leases.{AreDistinct, CountsAdded, has_lease, lease_names, with_name_added}
use Rattle.snap_lease.specs.Numbers.{AreNumbers}
use Rattle.snap_lease.proofs.CountLemmas.{CountsAdded-with_name_added, lease_names-at}
use Rattle.snap_lease.proofs.IndexLemmas.{counts-changed}
use Rattle.snap_lease.proofs.ListLemmas.{AreDistinct-with_name_added, NamesOnce-with_name_added}
use Rattle.snap_lease.proofs.NumberLemmas.{Stands, found_at_number, has_lease_at_number, numbers-added, on_err, stands_at_number, values-added, values-written}
use Rattle.snap_lease.proofs.list.Leases.add.Goals as goal

pub returns-in_default-clause-no_lease : goal.returns-in_default-clause-no_lease
returns-in_default-clause-no_lease c =
    let absent : has_lease c.args.self.now c.args.namespace.now c.args.lease.now ≡ false =
    has_lease_at_number c.self.inside.list.entries c.args.self.now c.self.inside.numbers c.args.namespace.now c.args.lease.now c.get.result c.get.ensures c.self.invariant.3 c.self.view_is ∙ ap is_some c.in_default.is in
    search rules

pub unreachable-requires : goal.unreachable-requires
unreachable-requires c =
    let found = found_at_number c.self.inside.list.entries c.self.inside.numbers c.args.namespace.now c.args.lease.now c.in-Some.number c.self.invariant.4 c.self.invariant.0 c.self.invariant.3 c.in-Some.ensures in
    absurd (true≢false (sym found ∙ ap is_some (sym c.get_mut.ensures.value ∙ ap option_copied_mut c.in_default-get_mut.is)))

-- what is refused where it is new is not there
refused_only_new : (b : Bool) → (b ≡ true → false ≡ true) → b ≡ false
refused_only_new true refused = sym (refused refl)
refused_only_new false refused = refl

-- the lease is written as it was
same : (c : goal.After-from_residual) → (c.get_mut.follows.lender c.add.new.self).entries ≡ c.self.inside.list.entries
same c =
    let test = is_at (nat_cmp c.in-Some.number) in
    (c.get_mut.follows.holds c.add.new.self).0 ∙ ap (set_value test c.self.inside.list.entries) c.in_err-add.ensures.err
    ∙ set_value_same test c.self.inside.list.entries c.in-Some-get_mut.entry.now (sym c.in-Some-get_mut.ensures.value)

pub invariant_of-self : goal.invariant_of-self
invariant_of-self c =
    let e = sym (same c) in (
      subst (λ xs. AreDistinct (values_of xs)) e c.self.invariant.0,
      subst (λ xs. AllByRecursion NamesOnce (values_of xs)) e c.self.invariant.1,
      subst (λ xs. AreNameCounts (values_of xs) c.add.new.counts) e (λ space name. c.in_err-add.ensures.err_counts space name ∙ c.self.invariant.2 space name),
      subst (λ xs. AreNumbers xs c.self.inside.numbers) e c.self.invariant.3,
      (c.get_mut.follows.holds c.add.new.self).4,
    )

pub returns-in_err-add-clause-no_lease : goal.returns-in_err-add-clause-no_lease
returns-in_err-add-clause-no_lease c =
    let there : has_lease c.args.self.now c.args.namespace.now c.args.lease.now ≡ true =
    has_lease_at_number c.self.inside.list.entries c.args.self.now c.self.inside.numbers c.args.namespace.now c.args.lease.now (Some c.in-Some.number) c.in-Some.ensures c.self.invariant.3 c.self.view_is in
    search rules

pub returns-in_err-add-clause-memory : goal.returns-in_err-add-clause-memory
returns-in_err-add-clause-memory c =
    let ls = values_of c.self.inside.list.entries in
    let entry = c.in-Some-get_mut.entry.now in
    let s =
    stands_at_number c.self.inside.list.entries c.self.inside.numbers c.args.namespace.now c.args.lease.now c.in-Some.number c.self.invariant.4 c.self.invariant.0 c.self.invariant.3 c.in-Some.ensures
    entry (sym c.in-Some-get_mut.ensures.value) in
    let named : lease_names c.args.self.now c.args.namespace.now c.args.lease.now c.args.name.now ≡ does_name c.args.name.now entry =
    ap (λ ks. lease_names ks c.args.namespace.now c.args.lease.now c.args.name.now) (sym c.self.view_is)
    ∙ lease_names-at c.args.namespace.now c.args.lease.now c.args.name.now ls s.place entry c.self.invariant.0 s.within s.passes ∙ ap (does_name c.args.name.now) (sym s.at) in
    let absent : does_name c.args.name.now entry ≡ false = refused_only_new _ c.in_err-add.ensures.there in
    λ _. named ∙ absent

pub returns-in_err-add-clause-err : goal.returns-in_err-add-clause-err
returns-in_err-add-clause-err c = on_err c.from_residual.result (ap values_of (same c) ∙ c.self.view_is)

-- where the lease is
at : (c : goal.In_ok-add) → Stands (is_at (nat_cmp c.in-Some.number)) (is_lease c.args.namespace.now c.args.lease.now) c.self.inside.list.entries c.in-Some-get_mut.entry.now
at c =
    stands_at_number c.self.inside.list.entries c.self.inside.numbers c.args.namespace.now c.args.lease.now c.in-Some.number c.self.invariant.4 c.self.invariant.0 c.self.invariant.3 c.in-Some.ensures
    c.in-Some-get_mut.entry.now (sym c.in-Some-get_mut.ensures.value)

-- what the call leaves
new_values : (c : goal.In_ok-add) → values_of (c.get_mut.follows.lender c.add.new.self).entries ≡ with_name_added (values_of c.self.inside.list.entries) c.args.namespace.now c.args.lease.now c.args.name.now
new_values c =
    values-added c.args.namespace.now c.args.lease.now c.args.name.now c.in-Some.number c.self.inside.list.entries (c.get_mut.follows.lender c.add.new.self).entries c.in-Some-get_mut.entry.now c.add.new.self
    (at c) (c.get_mut.follows.holds c.add.new.self).0 c.in_ok-add.ensures.ok c.self.invariant.0

pub invariant_of-self-2 : goal.invariant_of-self-2
invariant_of-self-2 c =
    let namespace = c.args.namespace.now in
    let lease = c.args.lease.now in
    let name = c.args.name.now in
    let es = c.self.inside.list.entries in
    let new = (c.get_mut.follows.lender c.add.new.self).entries in
    let entry = c.in-Some-get_mut.entry.now in
    let w = c.add.new.self in
    let s = at c in
    let writes = (c.get_mut.follows.holds w).0 in
    let written = values-written namespace lease name c.in-Some.number es new entry w s writes c.in_ok-add.ensures.ok in (
      subst AreDistinct (sym (new_values c)) (AreDistinct-with_name_added namespace lease name (values_of es) c.self.invariant.0),
      subst (AllByRecursion NamesOnce) (sym (new_values c)) (NamesOnce-with_name_added namespace lease name (values_of es) c.self.invariant.1),
      subst (λ ls. AreNameCounts ls c.add.new.counts) (sym written)
          (counts-changed (values_of es) s.place entry w entry c.self.inside.counts c.add.new.counts c.self.invariant.2 s.within s.at c.in_ok-add.ensures.counted),
      numbers-added namespace lease name c.in-Some.number es new entry w s writes c.in_ok-add.ensures.ok c.self.inside.numbers (sym c.in-Some-get_mut.ensures.value) c.self.invariant.3,
      (c.get_mut.follows.holds w).4,
    )

pub returns-clause-ok : goal.returns-clause-ok
returns-clause-ok c = new_values c ∙ ap (λ ls. with_name_added ls c.args.namespace.now c.args.lease.now c.args.name.now) c.self.view_is

pub returns-clause-counts : goal.returns-clause-counts
returns-clause-counts c =
    let namespace = c.args.namespace.now in
    let lease = c.args.lease.now in
    let name = c.args.name.now in
    let ls = values_of c.self.inside.list.entries in
    let s = at c in
    let counts : CountsAdded ls (with_name_added ls namespace lease name) namespace lease name =
    CountsAdded-with_name_added namespace lease name ls s.place c.in-Some-get_mut.entry.now c.self.invariant.0 s.within s.passes in
    subst (λ old. CountsAdded old (values_of (c.get_mut.follows.lender c.add.new.self).entries) namespace lease name) c.self.view_is
    (subst (λ new. CountsAdded ls new namespace lease name) (sym (new_values c)) counts)

pub returns-clause-no_lease : goal.returns-clause-no_lease
returns-clause-no_lease c =
    let there : has_lease c.args.self.now c.args.namespace.now c.args.lease.now ≡ true =
    has_lease_at_number c.self.inside.list.entries c.args.self.now c.self.inside.numbers c.args.namespace.now c.args.lease.now (Some c.in-Some.number) c.in-Some.ensures c.self.invariant.3 c.self.view_is in
    search rules

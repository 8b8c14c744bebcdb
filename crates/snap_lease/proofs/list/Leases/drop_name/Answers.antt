use Rattle.std.proofs.Common.{◌∙◌, ◌≡◌, ◌↔◌, ◌<◌, Bool, Err, IsErrOf, IsOk, IsTrue, Ok, OnErr, OnOk, Result, Some, true, false, ap, get_or, is_some, refl, subst, sym, true≢false}
use Rattle.std.proofs.lemmas.Map.Steps.{set_value_same}
use Rattle.std.specs.BTreeMap.{is_at}
use Rattle.std.specs.List.{AllByRecursion}
use Rattle.std.specs.Map.{set_value, values_of}
use Rattle.std.specs.Option.{option_copied_mut}
use Rattle.std.specs.Ordering.{nat_cmp}
use Rattle.snap_counts.specs.Counts.{count_within}
use Rattle.snap_lease.specs.Index.{AreNameCounts}
use Rattle.snap_lease.specs.Lease.{Lease, NamesOnce, does_name, is_lease}
use Rattle.snap_lease.specs.Leases.{AreDistinct, CountsDropped, has_lease, with_name_dropped}
use Rattle.snap_lease.specs.declared.error.LeaseNameError.{LeaseNameError}
use Rattle.snap_lease.specs.declared.error.LeaseNameError.TheVariants.{NoLease, NoName}
use Rattle.snap_lease.proofs.CountLemmas.{lease_names-none}
use Rattle.snap_lease.proofs.DropLemmas.{AreDistinct-with_name_dropped, CountsDropped-with_name_dropped, NamesOnce-with_name_dropped, counted_at, lease_names_at_number, numbers-dropped, values-dropped, without_name-absent}
use Rattle.snap_lease.proofs.IndexLemmas.{counts-changed}
use Rattle.snap_lease.proofs.ListLemmas.{is_lease-parts}
use Rattle.snap_lease.proofs.NumberLemmas.{Stands, found_at_number, has_lease_at_number, stands_at_number}
use Rattle.snap_lease.proofs.list.Leases.drop_name.Goals as goal
use Rattle.snap_lease.proofs.list.Leases.drop_name.Goals.{then-drop_name, else-drop_name}

-- without the lease no name is in it
absent : (c : goal.In_default) → has_lease c.args.self.now c.args.namespace.now c.args.lease.now ≡ false
absent c =
    has_lease_at_number c.self.inside.list.entries c.args.self.now c.self.inside.numbers c.args.namespace.now c.args.lease.now c.get.result c.get.ensures c.self.invariant.3 c.self.view_is ∙ ap is_some c.in_default.is

pub returns-in_default-clause-named : goal.returns-in_default-clause-named
returns-in_default-clause-named c =
    let none = lease_names-none c.args.self.now c.args.namespace.now c.args.lease.now c.args.name.now (absent c) in
    (λ ok. absurd (true≢false (sym ok)), λ named. absurd (true≢false (sym named ∙ none)))

pub returns-in_default-clause-no_lease : goal.returns-in_default-clause-no_lease
returns-in_default-clause-no_lease c = (λ _. absent c, λ _. refl)

pub unreachable-requires : goal.unreachable-requires
unreachable-requires c =
    let found = found_at_number c.self.inside.list.entries c.self.inside.numbers c.args.namespace.now c.args.lease.now c.in-Some.number c.self.invariant.4 c.self.invariant.0 c.self.invariant.3 c.in-Some.ensures in
    absurd (true≢false (sym found ∙ ap is_some (sym c.get_mut.ensures.value ∙ ap option_copied_mut c.in_default-get_mut.is)))

pub drop_name-requires-clause-counted : goal.drop_name-requires-clause-counted
drop_name-requires-clause-counted c = λ named.
    let namespace = c.args.namespace.now in
    let lease = c.args.lease.now in
    let entry = c.in-Some-get_mut.entry.now in
    let ls = values_of c.self.inside.list.entries in
    let s =
    stands_at_number c.self.inside.list.entries c.self.inside.numbers namespace lease c.in-Some.number c.self.invariant.4 c.self.invariant.0 c.self.invariant.3 c.in-Some.ensures
    entry (sym c.in-Some-get_mut.ensures.value) in
    subst (λ n. 0 < count_within n c.args.name.now c.self.inside.counts) ((is_lease-parts namespace lease (get_or ls s.place entry) s.passes).0 ∙ sym (ap (λ (l : Lease). l.namespace) s.at))
    (counted_at namespace lease c.args.name.now ls s.place entry c.self.inside.counts c.self.invariant.2 s.within s.passes (sym (ap (does_name c.args.name.now) s.at) ∙ named))

-- where the lease is
at : (c : goal.Joined-drop_name) → Stands (is_at (nat_cmp c.in-Some.number)) (is_lease c.args.namespace.now c.args.lease.now) c.self.inside.list.entries c.in-Some-get_mut.entry.now
at c =
    stands_at_number c.self.inside.list.entries c.self.inside.numbers c.args.namespace.now c.args.lease.now c.in-Some.number c.self.invariant.4 c.self.invariant.0 c.self.invariant.3 c.in-Some.ensures
    c.in-Some-get_mut.entry.now (sym c.in-Some-get_mut.ensures.value)

-- what the call leaves
new_values : (c : goal.Joined-drop_name) → values_of (c.get_mut.follows.lender c.drop_name.new.self).entries ≡ with_name_dropped (values_of c.self.inside.list.entries) c.args.namespace.now c.args.lease.now c.args.name.now
new_values c =
    values-dropped c.args.namespace.now c.args.lease.now c.args.name.now c.in-Some.number c.self.inside.list.entries (c.get_mut.follows.lender c.drop_name.new.self).entries c.in-Some-get_mut.entry.now c.drop_name.new.self
    (at c) (c.get_mut.follows.holds c.drop_name.new.self).0 c.drop_name.ensures.left c.self.invariant.0

pub invariant_of-self : goal.invariant_of-self
invariant_of-self c =
    let namespace = c.args.namespace.now in
    let lease = c.args.lease.now in
    let name = c.args.name.now in
    let es = c.self.inside.list.entries in
    let entry = c.in-Some-get_mut.entry.now in
    let w = c.drop_name.new.self in
    let new = (c.get_mut.follows.lender w).entries in
    let s = at c in
    let writes = (c.get_mut.follows.holds w).0 in (
      subst AreDistinct (sym (new_values c)) (AreDistinct-with_name_dropped namespace lease name (values_of es) c.self.invariant.0),
      subst (AllByRecursion NamesOnce) (sym (new_values c)) (NamesOnce-with_name_dropped namespace lease name (values_of es) c.self.invariant.1),
      subst (λ ls. AreNameCounts ls c.drop_name.new.counts) (sym (ap values_of writes ∙ s.writes w))
          (counts-changed (values_of es) s.place entry w entry c.self.inside.counts c.drop_name.new.counts c.self.invariant.2 s.within s.at c.drop_name.ensures.counted),
      numbers-dropped namespace lease name c.in-Some.number es new entry w s writes c.drop_name.ensures.left c.self.inside.numbers (sym c.in-Some-get_mut.ensures.value) c.self.invariant.3,
      (c.get_mut.follows.holds w).4,
    )

-- the answer, where the lease has the name or lacks it
abbrev answer : Bool → Result (Unit {0}) LeaseNameError
answer true = Ok tt
answer false = Err NoName

answered : (c : goal.Joined-drop_name) → c.if-drop_name.result ≡ answer (does_name c.args.name.now c.in-Some-get_mut.entry.now)
answered c = elim c.if-drop_name.branch [
  | then-drop_name w ↦ w.result-is ∙ ap answer (sym (sym c.drop_name.ensures.there ∙ w.if-drop_name.true))
  | else-drop_name w ↦ w.result-is ∙ ap answer (sym (sym c.drop_name.ensures.there ∙ w.if-drop_name.false))
]

on_ok : (r : Result (Unit {0}) LeaseNameError) (b : Bool) (P : Type 0) → r ≡ answer b → (b ≡ true → P) → OnOk r P
on_ok r true P is done = subst (λ (x : Result (Unit {0}) LeaseNameError). OnOk x P) (sym is) (done refl)
on_ok r false P is done = subst (λ (x : Result (Unit {0}) LeaseNameError). OnOk x P) (sym is) tt

on_error : (r : Result (Unit {0}) LeaseNameError) (b : Bool) (P : Type 0) → r ≡ answer b → (b ≡ false → P) → OnErr r P
on_error r true P is done = subst (λ (x : Result (Unit {0}) LeaseNameError). OnErr x P) (sym is) tt
on_error r false P is done = subst (λ (x : Result (Unit {0}) LeaseNameError). OnErr x P) (sym is) (done refl)

named_by : (r : Result (Unit {0}) LeaseNameError) (b has : Bool) → r ≡ answer b → has ≡ b → IsOk r ↔ IsTrue has
named_by r true has is same = (λ _. same, λ _. subst IsOk (sym is) refl)
named_by r false has is same = (λ ok. absurd (true≢false (sym (subst IsOk is ok))), λ named. absurd (true≢false (sym named ∙ same)))

no_lease_by : (r : Result (Unit {0}) LeaseNameError) (b has : Bool) → r ≡ answer b → has ≡ true → IsErrOf r NoLease ↔ (has ≡ false)
no_lease_by r true has is there = (λ e. absurd (cc), λ none. absurd (true≢false (sym there ∙ none)))
no_lease_by r false has is there = (λ e. absurd (cc), λ none. absurd (true≢false (sym there ∙ none)))

pub returns-clause-ok : goal.returns-clause-ok
returns-clause-ok c =
    on_ok c.if-drop_name.result _ _ (answered c) (λ there. new_values c ∙ ap (λ ls. with_name_dropped ls c.args.namespace.now c.args.lease.now c.args.name.now) c.self.view_is)

pub returns-clause-counts : goal.returns-clause-counts
returns-clause-counts c =
    let namespace = c.args.namespace.now in
    let lease = c.args.lease.now in
    let name = c.args.name.now in
    let ls = values_of c.self.inside.list.entries in
    let s = at c in
    on_ok c.if-drop_name.result _ _ (answered c) (λ there.
    subst (λ old. CountsDropped old (values_of (c.get_mut.follows.lender c.drop_name.new.self).entries) namespace name) c.self.view_is
    (subst (λ new. CountsDropped ls new namespace name) (sym (new_values c))
    (CountsDropped-with_name_dropped namespace lease name ls s.place c.in-Some-get_mut.entry.now c.self.invariant.0 s.within s.passes (sym (ap (does_name name) s.at) ∙ there))))

pub returns-clause-named : goal.returns-clause-named
returns-clause-named c =
    named_by c.if-drop_name.result _ _ (answered c)
    (lease_names_at_number c.self.inside.list.entries c.args.self.now c.self.inside.numbers c.args.namespace.now c.args.lease.now c.args.name.now c.in-Some.number c.in-Some-get_mut.entry.now
    c.self.invariant.4 c.self.invariant.0 c.self.invariant.3 c.in-Some.ensures (sym c.in-Some-get_mut.ensures.value) c.self.view_is)

pub returns-clause-no_lease : goal.returns-clause-no_lease
returns-clause-no_lease c =
    no_lease_by c.if-drop_name.result _ _ (answered c)
    (has_lease_at_number c.self.inside.list.entries c.args.self.now c.self.inside.numbers c.args.namespace.now c.args.lease.now (Some c.in-Some.number) c.in-Some.ensures c.self.invariant.3 c.self.view_is)

pub returns-clause-err : goal.returns-clause-err
returns-clause-err c =
    let test = is_at (nat_cmp c.in-Some.number) in
    let es = c.self.inside.list.entries in
    let entry = c.in-Some-get_mut.entry.now in
    on_error c.if-drop_name.result _ _ (answered c) (λ absent.
    ap values_of ((c.get_mut.follows.holds c.drop_name.new.self).0 ∙ ap (set_value test es) (c.drop_name.ensures.left ∙ without_name-absent c.args.name.now entry absent)
    ∙ set_value_same test es entry (sym c.in-Some-get_mut.ensures.value)) ∙ c.self.view_is)

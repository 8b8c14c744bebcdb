-- A name that is taken out of a lease.
use Rattle.std.proofs.Common.{◌≡◌, ◌≢◌, ℕ, zero, suc, ◌+◌, ◌-◌, ◌<◌, Bool, true, false, not, cond, List, [], ◌∷◌, ◌&&◌, ◌||◌, map, filter, length, get_or, set, Some, String, string_bytes, refl, sym, ap, ◌∙◌, subst, arith, true≢false, if◌then◌else◌, bytes_eq}
use Rattle.std.proofs.lemmas.List.Folds.{list_any_at}
use Rattle.std.proofs.lemmas.List.Sums.{sum_by-set}
use Rattle.std.proofs.lemmas.Slice.Eq.{bytes_eq-Decides}
use Rattle.std.specs.BTreeMap.{is_at}
use Rattle.std.specs.List.{list_any, AllByRecursion, IsDistinct}
use Rattle.std.specs.List.Sorted.{IsStrictlySortedBy}
use Rattle.std.specs.Map.{keys_of, values_of, lookup, remove_entry, set_value}
use Rattle.std.specs.Ordering.{nat_cmp}
use Rattle.snap_counts.specs.Counts.{count_within}
use Rattle.snap_lease.specs.Index.{AreNameCounts, IsRecounted, NameCounts}
use Rattle.snap_lease.specs.Lease.{Lease, is_of, is_lease, does_name, without_lease_name, NamesOnce}
use Rattle.snap_lease.specs.Leases.{AreDistinct, CountsDropped, guards, has_lease, lease_names, naming_count, with_name_dropped}
use Rattle.snap_lease.specs.Numbers.{AreNumbers, LeaseIndex, number_in, lease_number}
use Rattle.snap_lease.proofs.CountLemmas.{bytes_eq-other, count_by-agree, count_by-list_any, count_by-map, is_of-is_lease, is_of-other, lease_names-at}
use Rattle.snap_lease.proofs.IndexLemmas.{one_if}
use Rattle.snap_lease.proofs.ListLemmas.{IsDistinct-filter, IsDistinct-map, filter-none, has_lease-after, list_any-each, map-none}
use Rattle.snap_lease.proofs.NumberLemmas.{Stands, number_of-set, stands_at_number}

-- ---- the names of one lease

-- the keys of a map whose entry of the name was removed
pub names-removed : {Z X : Type 0} (name : List ℕ) (es : List (String Z × X)) → IsDistinct bytes_eq (map string_bytes (keys_of es))
    → map string_bytes (keys_of (remove_entry (λ k. bytes_eq name (string_bytes k)) es)) ≡ filter (λ n. not (bytes_eq name n)) (map string_bytes (keys_of es))
unfolding IsDistinct
names-removed name [] once = refl
names-removed name (e ∷ es) once = by (bytes_eq name (string_bytes e.0)) refl (names-removed name es once.1)
  where
    others : List (List ℕ)
    others = map string_bytes (keys_of es)

    by : (b : Bool) → bytes_eq name (string_bytes e.0) ≡ b
        → map string_bytes (keys_of (remove_entry (λ k. bytes_eq name (string_bytes k)) es)) ≡ filter (λ n. not (bytes_eq name n)) others
        → map string_bytes (keys_of (cond b es (e ∷ remove_entry (λ k. bytes_eq name (string_bytes k)) es))) ≡ cond (not b) (string_bytes e.0 ∷ filter (λ n. not (bytes_eq name n)) others) (filter (λ n. not (bytes_eq name n)) others)
    by true is rest =
        let at : name ≡ string_bytes e.0 = (bytes_eq-Decides name (string_bytes e.0)).0 is in
        sym (filter-none (bytes_eq name) others (ap (λ n. list_any (bytes_eq n) others) at ∙ list_any-each (bytes_eq (string_bytes e.0)) others once.0))
    by false is rest = ap (λ ns. string_bytes e.0 ∷ ns) rest

-- a lease that lacks the name stays as it is
pub without_name-absent : (name : List ℕ) (l : Lease) → does_name name l ≡ false → without_lease_name name l ≡ l
without_name-absent name l absent = ap (λ ns. record l { names = ns }) (filter-none (bytes_eq name) l.names absent)

-- afterwards no lease has the name
pub without_name-gone : (name : List ℕ) (l : Lease) → does_name name (without_lease_name name l) ≡ false
without_name-gone name l = by l.names
  where
    by : (ns : List (List ℕ)) → list_any (bytes_eq name) (filter (λ n. not (bytes_eq name n)) ns) ≡ false
    by [] = refl
    by (n ∷ ns) = at (bytes_eq name n) refl (by ns)
      where
        at : (b : Bool) → bytes_eq name n ≡ b → list_any (bytes_eq name) (filter (λ m. not (bytes_eq name m)) ns) ≡ false
            → list_any (bytes_eq name) (cond (not b) (n ∷ filter (λ m. not (bytes_eq name m)) ns) (filter (λ m. not (bytes_eq name m)) ns)) ≡ false
        at true is rest = rest
        at false is rest = ap (λ b. b || list_any (bytes_eq name) (filter (λ m. not (bytes_eq name m)) ns)) is ∙ rest

-- and it has every other one that it had
pub without_name-other : (name other : List ℕ) (l : Lease) → other ≢ name → does_name other (without_lease_name name l) ≡ does_name other l
without_name-other name other l differ = by l.names
  where
    by : (ns : List (List ℕ)) → list_any (bytes_eq other) (filter (λ n. not (bytes_eq name n)) ns) ≡ list_any (bytes_eq other) ns
    by [] = refl
    by (n ∷ ns) = at (bytes_eq name n) refl (by ns)
      where
        at : (b : Bool) → bytes_eq name n ≡ b → list_any (bytes_eq other) (filter (λ m. not (bytes_eq name m)) ns) ≡ list_any (bytes_eq other) ns
            → list_any (bytes_eq other) (cond (not b) (n ∷ filter (λ m. not (bytes_eq name m)) ns) (filter (λ m. not (bytes_eq name m)) ns)) ≡ list_any (bytes_eq other) (n ∷ ns)
        at true is rest =
            let here : name ≡ n = (bytes_eq-Decides name n).0 is in
            rest ∙ sym (ap (λ b. b || list_any (bytes_eq other) ns) (ap (bytes_eq other) (sym here) ∙ bytes_eq-other other name differ))
        at false is rest = ap (λ b. bytes_eq other n || b) rest

-- the names stay distinct
pub NamesOnce-without_name : (name : List ℕ) (l : Lease) → NamesOnce l → NamesOnce (without_lease_name name l)
NamesOnce-without_name name l once = IsDistinct-filter bytes_eq (λ n. not (bytes_eq name n)) l.names once

-- ---- its counts

-- what the lease guards afterwards
guards-without_name : (space q name : List ℕ) (l : Lease) → guards space q (without_lease_name name l) ≡ (not (bytes_eq q name) && guards space q l)
guards-without_name space q name l = by (bytes_eq q name) refl
  where
    no : (b : Bool) → (b && false) ≡ false
    no true = refl
    no false = refl

    by : (b : Bool) → bytes_eq q name ≡ b → (is_of space l && does_name q (without_lease_name name l)) ≡ (not b && guards space q l)
    by true is =
        let at : q ≡ name = (bytes_eq-Decides q name).0 is in
        ap (λ b. is_of space l && b) (ap (λ n. does_name n (without_lease_name name l)) at ∙ without_name-gone name l) ∙ no (is_of space l)
    by false is = ap (λ b. is_of space l && b) (without_name-other name q l (λ same. true≢false (sym ((bytes_eq-Decides q name).1 same) ∙ is)))

-- the counts after the name was taken out, and its count taken back
pub recounted-without : (name : List ℕ) (l new : Lease) (before after : NameCounts) → new ≡ without_lease_name name l → does_name name l ≡ true → 0 < count_within l.namespace name before
    → ((space q : List ℕ) → count_within space q after ≡ count_within space q before - one_if (bytes_eq space l.namespace && bytes_eq q name)) → IsRecounted l new before after
recounted-without name l new before after is there some counted space q =
    let less = counted space q in
    let last : one_if (guards space q new) ≡ one_if (not (bytes_eq q name) && guards space q l) = ap one_if (ap (guards space q) is ∙ guards-without_name space q name l) in
    by (bytes_eq space l.namespace) (bytes_eq q name) refl refl less last
  where
    by : (o e : Bool) → bytes_eq space l.namespace ≡ o → bytes_eq q name ≡ e → count_within space q after ≡ count_within space q before - one_if (o && e)
        → one_if (guards space q new) ≡ one_if (not e && guards space q l)
        → count_within space q after + one_if (guards space q l) ≡ count_within space q before + one_if (guards space q new)
    by true true here same less last =
        let own : guards space q l ≡ true = ap (λ b. b && does_name q l) here ∙ ap (λ n. does_name n l) ((bytes_eq-Decides q name).0 same) ∙ there in
        let one : one_if (guards space q l) ≡ 1 = ap one_if own in
        let held : 0 < count_within space q before = subst (λ s. 0 < count_within s q before) (sym ((bytes_eq-Decides space l.namespace).0 here)) (subst (λ n. 0 < count_within l.namespace n before) (sym ((bytes_eq-Decides q name).0 same)) some) in
        omega (arith, less, last, one, held)
    by true false here same less last = omega (arith, less, last)
    by false true here same less last =
        let none : one_if (guards space q l) ≡ 0 = ap (λ b. one_if (b && does_name q l)) here in
        omega (arith, less, last, none)
    by false false here same less last = omega (arith, less, last)

-- nothing changes where the lease lacked the name
pub recounted-same : (l new : Lease) (counts : NameCounts) → new ≡ l → IsRecounted l new counts counts
recounted-same l new counts is space q = ap (λ k. count_within space q counts + one_if (guards space q k)) (sym is)

-- ---- the leases

module _ (namespace lease name : List ℕ) where
  -- what becomes of one lease
  abbrev changed : Lease → Lease
  changed l = if is_lease namespace lease l then without_lease_name name l else l

  pub AreDistinct-with_name_dropped : (ls : List Lease) → AreDistinct ls → AreDistinct (with_name_dropped ls namespace lease name)
  AreDistinct-with_name_dropped = IsDistinct-map (λ l. is_lease l.namespace l.name) changed (λ l k. kept l k (is_lease namespace lease l) (is_lease namespace lease k))
    where
      kept : (l k : Lease) (a b : Bool) → is_lease (if a then without_lease_name name l else l).namespace (if a then without_lease_name name l else l).name (if b then without_lease_name name k else k) ≡ is_lease l.namespace l.name k
      kept l k true true = refl
      kept l k true false = refl
      kept l k false true = refl
      kept l k false false = refl

  pub NamesOnce-with_name_dropped : (ls : List Lease) → AllByRecursion NamesOnce ls → AllByRecursion NamesOnce (with_name_dropped ls namespace lease name)
  NamesOnce-with_name_dropped [] all = tt
  NamesOnce-with_name_dropped (l ∷ ls) all = (by (is_lease namespace lease l), NamesOnce-with_name_dropped ls all.1)
    where
      by : (b : Bool) → NamesOnce (if b then without_lease_name name l else l)
      by true = NamesOnce-without_name name l all.0
      by false = all.0

  -- a write at the place of the lease changes it alone
  pub set-with_name_dropped : (ls : List Lease) (place : ℕ) (d : Lease) → AreDistinct ls → place < length ls → is_lease namespace lease (get_or ls place d) ≡ true
      → set ls place (without_lease_name name (get_or ls place d)) ≡ with_name_dropped ls namespace lease name
  unfolding IsDistinct
  set-with_name_dropped [] place d distinct within is = absurd (omega arith)
  set-with_name_dropped (l ∷ ls) zero d distinct within is =
      ap (λ k. k ∷ ls) (sym (ap (λ b. if b then without_lease_name name l else l) is))
      ∙ ap (λ ks. changed l ∷ ks) (sym (map-none (is_lease namespace lease) (without_lease_name name) ls (has_lease-after namespace lease l ls distinct is)))
  set-with_name_dropped (l ∷ ls) (suc place) d distinct within is =
      let there : has_lease ls namespace lease ≡ true = list_any_at (is_lease namespace lease) ls place d (omega arith) is in
      by (is_lease namespace lease l) refl there (set-with_name_dropped ls place d distinct.1 (omega arith) is)
    where
      by : (b : Bool) → is_lease namespace lease l ≡ b → has_lease ls namespace lease ≡ true
          → set ls place (without_lease_name name (get_or ls place d)) ≡ with_name_dropped ls namespace lease name
          → l ∷ set ls place (without_lease_name name (get_or ls place d)) ≡ with_name_dropped (l ∷ ls) namespace lease name
      by true e there rest = absurd (true≢false (sym there ∙ has_lease-after namespace lease l ls distinct e))
      by false e there rest = ap (λ ks. l ∷ ks) rest ∙ ap (λ k. k ∷ with_name_dropped ls namespace lease name) (sym (ap (λ b. if b then without_lease_name name l else l) e))

  -- a lease that names the snapshot is counted
  pub counted_at : (ls : List Lease) (place : ℕ) (d : Lease) (counts : NameCounts) → AreNameCounts ls counts → place < length ls → is_lease namespace lease (get_or ls place d) ≡ true
      → does_name name (get_or ls place d) ≡ true → 0 < count_within namespace name counts
  counted_at ls place d counts are within is named =
      let own : guards namespace name (get_or ls place d) ≡ true = ap (λ b. b && does_name name (get_or ls place d)) (is_of-is_lease namespace lease (get_or ls place d) is) ∙ named in
      let some : 0 < naming_count ls namespace name = count_by-list_any (guards namespace name) ls (list_any_at (guards namespace name) ls place d within own) in
      omega (arith, some, are namespace name)

  -- a lease counts for another name as it did
  guards-other_name : (space other : List ℕ) → other ≢ name → (l : Lease) → guards space other (changed l) ≡ guards space other l
  guards-other_name space other differ l = by (is_lease namespace lease l)
    where
      by : (b : Bool) → guards space other (if b then without_lease_name name l else l) ≡ guards space other l
      by true = ap (λ b. is_of space l && b) (without_name-other name other l differ)
      by false = refl

  -- and in another namespace
  guards-other_namespace : (space other : List ℕ) → space ≢ namespace → (l : Lease) → guards space other (changed l) ≡ guards space other l
  guards-other_namespace space other differ l = by (is_lease namespace lease l) refl
    where
      by : (b : Bool) → is_lease namespace lease l ≡ b → guards space other (if b then without_lease_name name l else l) ≡ guards space other l
      by true is =
          let elsewhere : is_of space l ≡ false = is_of-other space namespace differ l (is_of-is_lease namespace lease l is) in
          ap (λ b. b && does_name other (without_lease_name name l)) elsewhere ∙ sym (ap (λ b. b && does_name other l) elsewhere)
      by false is = refl

  pub CountsDropped-with_name_dropped : (ls : List Lease) (place : ℕ) (d : Lease) → AreDistinct ls → place < length ls → is_lease namespace lease (get_or ls place d) ≡ true → does_name name (get_or ls place d) ≡ true
      → CountsDropped ls (with_name_dropped ls namespace lease name) namespace name
  CountsDropped-with_name_dropped ls place d distinct within is there = record {
    named =
        let l = get_or ls place d in
        let own : one_if (guards namespace name l) ≡ 1 = ap one_if (ap (λ b. b && does_name name l) (is_of-is_lease namespace lease l is) ∙ there) in
        let gone : one_if (guards namespace name (without_lease_name name l)) ≡ 0 = ap one_if (ap (λ b. b && does_name name (without_lease_name name l)) (is_of-is_lease namespace lease l is) ∙ without_name-gone name l) in
        let written : naming_count (with_name_dropped ls namespace lease name) namespace name ≡ naming_count (set ls place (without_lease_name name l)) namespace name =
        ap (λ ks. naming_count ks namespace name) (sym (set-with_name_dropped ls place d distinct within is)) in
        omega (arith, own, gone, written, sum_by-set (λ k. one_if (guards namespace name k)) ls place (without_lease_name name l) d within);
    other_names = λ space other differ. count_by-map (guards space other) changed ls ∙ count_by-agree _ (guards space other) (guards-other_name space other differ) ls;
    other_namespaces = λ space other differ. count_by-map (guards space other) changed ls ∙ count_by-agree _ (guards space other) (guards-other_namespace space other differ) ls;
  }

-- the lease at a number loses a name
module _ (namespace lease name : List ℕ) (n : ℕ) (es new : List (ℕ × Lease)) (entry w : Lease)
    (at : Stands (is_at (nat_cmp n)) (is_lease namespace lease) es entry) (writes : new ≡ set_value (is_at (nat_cmp n)) es w) (is : w ≡ without_lease_name name entry) where
  pub values-dropped : AreDistinct (values_of es) → values_of new ≡ with_name_dropped (values_of es) namespace lease name
  values-dropped distinct =
      ap values_of writes ∙ at.writes w ∙ ap (set (values_of es) at.place) (is ∙ ap (without_lease_name name) at.at)
      ∙ set-with_name_dropped namespace lease name (values_of es) at.place entry distinct at.within at.passes

  pub numbers-dropped : (index : LeaseIndex) → lookup (is_at (nat_cmp n)) es ≡ Some entry → AreNumbers es index → AreNumbers new index
  numbers-dropped index there are space q =
      are space q ∙ sym (number_of-set space q (is_at (nat_cmp n)) entry w (ap (is_lease space q) is) es there) ∙ ap (lease_number space q) (sym writes)

-- what the lease at a number names
pub lease_names_at_number : (es : List (ℕ × Lease)) (ls : List Lease) (index : LeaseIndex) (namespace lease name : List ℕ) (n : ℕ) (entry : Lease)
    → IsStrictlySortedBy nat_cmp (keys_of es) → AreDistinct (values_of es) → AreNumbers es index → Some n ≡ number_in namespace lease index → lookup (is_at (nat_cmp n)) es ≡ Some entry → values_of es ≡ ls
    → lease_names ls namespace lease name ≡ does_name name entry
lease_names_at_number es ls index namespace lease name n entry ordered distinct are found there is =
    let s = stands_at_number es index namespace lease n ordered distinct are found entry there in
    ap (λ ks. lease_names ks namespace lease name) (sym is) ∙ lease_names-at namespace lease name (values_of es) s.place entry distinct s.within s.passes ∙ ap (does_name name) (sym s.at)

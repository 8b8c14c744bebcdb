-- How often a snapshot is named, before and after a change.
use Rattle.std.proofs.Common.{◌≡◌, ◌≢◌, ℕ, zero, suc, ◌+◌, ◌<◌, Bool, true, false, not, cond, List, [], ◌∷◌, ◌&&◌, ◌||◌, map, filter, count_by, length, get_or, set, refl, sym, ap, ◌∙◌, arith, true≢false, if◌then◌else◌, bytes_eq, nat_lt}
use Rattle.std.proofs.lemmas.Bool.Decides.{nat_tests}
use Rattle.std.proofs.lemmas.List.Folds.{list_any-append, list_any_at}
use Rattle.std.proofs.lemmas.List.Sums.{sum_by-cons, sum_by-set}
use Rattle.std.proofs.lemmas.Slice.Eq.{bytes_eq-Decides}
use Rattle.std.specs.List.{list_any, IsDistinct}
use Rattle.snap_lease.specs.Lease.{Lease, is_of, is_lease, is_live, does_name, with_lease_name}
use Rattle.snap_lease.specs.Leases.{has_lease, has_ended, AreDistinct, guards, naming_count, lease_names, with_name_added, without_lease, without_ended, CountsAdded, CountsReleased, CountsLive}
use Rattle.snap_lease.proofs.ListLemmas.{changed, filter-none, has_lease-after, is_lease-parts, list_any-tail, with_name-namespace, set-with_name_added}
use Rattle.snap_lease.proofs.LeaseLemmas.{with_name-new, with_name-there}

-- what one element adds to a count
abbrev one_if : Bool → ℕ
one_if b = cond b 1 0

module _ {X : Type 0} where
  count_by-cons : (p : X → Bool) (x : X) (xs : List X) → count_by p (x ∷ xs) ≡ cond (p x) 1 0 + count_by p xs
  count_by-cons p x xs = sum_by-cons (λ y. cond (p y) 1 0) x xs

  -- a count is not 0 exactly where some element passes
  pub count_by-list_any : (p : X → Bool) (xs : List X) → list_any p xs ≡ true → 0 < count_by p xs
  count_by-list_any p [] any = absurd (true≢false (sym any))
  count_by-list_any p (x ∷ xs) any = by (p x) refl (count_by-list_any p xs)
    where
      by : (b : Bool) → p x ≡ b → (list_any p xs ≡ true → 0 < count_by p xs) → 0 < count_by p (x ∷ xs)
      by true e rest = let one : one_if (p x) ≡ 1 = ap one_if e in omega (arith, one, count_by-cons p x xs)
      by false e rest =
          let none : one_if (p x) ≡ 0 = ap one_if e in
          let some : 0 < count_by p xs = rest (sym (ap (λ b. b || list_any p xs) e) ∙ any) in
          omega (arith, none, some, count_by-cons p x xs)

  pub list_any-count_by : (p : X → Bool) (xs : List X) → 0 < count_by p xs → list_any p xs ≡ true
  list_any-count_by p [] some = absurd (omega arith)
  list_any-count_by p (x ∷ xs) some = by (p x) refl (list_any-count_by p xs)
    where
      by : (b : Bool) → p x ≡ b → (0 < count_by p xs → list_any p xs ≡ true) → list_any p (x ∷ xs) ≡ true
      by true e rest = ap (λ b. b || list_any p xs) e
      by false e rest =
          let none : one_if (p x) ≡ 0 = ap one_if e in
          ap (λ b. b || list_any p xs) e ∙ rest (omega (arith, none, count_by-cons p x xs))

  pub is_positive-count_by : (p : X → Bool) (xs : List X) → nat_lt 0 (count_by p xs) ≡ list_any p xs
  is_positive-count_by p xs = by (list_any p xs) refl
    where
      by : (b : Bool) → list_any p xs ≡ b → nat_lt 0 (count_by p xs) ≡ list_any p xs
      by true e = let some : 0 < count_by p xs = count_by-list_any p xs e in grind (arith, nat_tests)
      by false e =
          let none : ¬ (0 < count_by p xs) = λ some. true≢false (sym (list_any-count_by p xs some) ∙ e) in
          let at : count_by p xs ≡ 0 = omega arith in
          ap (nat_lt 0) at ∙ sym e

  -- two tests that agree count alike
  pub count_by-agree : (p q : X → Bool) → ((x : X) → p x ≡ q x) → (xs : List X) → count_by p xs ≡ count_by q xs
  count_by-agree p q same [] = refl
  count_by-agree p q same (x ∷ xs) =
      count_by-cons p x xs ∙ ap (λ b. cond b 1 0 + count_by p xs) (same x) ∙ ap (λ n. cond (q x) 1 0 + n) (count_by-agree p q same xs) ∙ sym (count_by-cons q x xs)

  -- a count over what a filter keeps
  pub count_by-filter : (p q : X → Bool) (xs : List X) → count_by p (filter q xs) ≡ count_by (λ x. q x && p x) xs
  count_by-filter p q [] = refl
  count_by-filter p q (x ∷ xs) = by (q x) refl (count_by-filter p q xs)
    where
      by : (b : Bool) → q x ≡ b → count_by p (filter q xs) ≡ count_by (λ y. q y && p y) xs → count_by p (filter q (x ∷ xs)) ≡ count_by (λ y. q y && p y) (x ∷ xs)
      by true e rest =
          ap (λ b. count_by p (cond b (x ∷ filter q xs) (filter q xs))) e ∙ count_by-cons p x (filter q xs)
          ∙ ap (λ n. cond (p x) 1 0 + n) rest ∙ ap (λ b. cond (b && p x) 1 0 + count_by (λ y. q y && p y) xs) (sym e) ∙ sym (count_by-cons (λ y. q y && p y) x xs)
      by false e rest =
          let none : one_if (q x && p x) ≡ 0 = ap (λ b. one_if (b && p x)) e in
          ap (λ b. count_by p (cond b (x ∷ filter q xs) (filter q xs))) e ∙ rest ∙ omega (arith, none, count_by-cons (λ y. q y && p y) x xs)

  -- a count over changed elements
  pub count_by-map : (p : X → Bool) (f : X → X) (xs : List X) → count_by p (map f xs) ≡ count_by (λ x. p (f x)) xs
  count_by-map p f [] = refl
  count_by-map p f (x ∷ xs) = count_by-cons p (f x) (map f xs) ∙ ap (λ n. cond (p (f x)) 1 0 + n) (count_by-map p f xs) ∙ sym (count_by-cons (λ y. p (f y)) x xs)

pub bytes_eq-other : (xs ys : List ℕ) → xs ≢ ys → bytes_eq xs ys ≡ false
bytes_eq-other xs ys differ = by (bytes_eq xs ys) refl
  where
    by : (b : Bool) → bytes_eq xs ys ≡ b → bytes_eq xs ys ≡ false
    by true e = absurd (differ ((bytes_eq-Decides xs ys).0 e))
    by false e = e

-- a lease of the namespace is of no other
pub is_of-other : (space namespace : List ℕ) → space ≢ namespace → (l : Lease) → is_of namespace l ≡ true → is_of space l ≡ false
is_of-other space namespace differ l is = ap (bytes_eq space) (sym ((bytes_eq-Decides namespace l.namespace).0 is)) ∙ bytes_eq-other space namespace differ

-- what a filter of one namespace keeps of another one
kept_elsewhere : (o p n : Bool) (e : Bool) → (o ≡ true → p ≡ false) → (not (o && e) && (p && n)) ≡ (p && n)
kept_elsewhere true p n e other = ap (λ b. not e && (b && n)) (other refl) ∙ by e ∙ ap (λ b. b && n) (sym (other refl))
  where
    by : (e : Bool) → (not e && false) ≡ false
    by true = refl
    by false = refl
kept_elsewhere false p n e other = refl

kept_live : (o n v : Bool) → (not (o && not v) && (o && n)) ≡ ((o && n) && v)
kept_live true true true = refl
kept_live true true false = refl
kept_live true false true = refl
kept_live true false false = refl
kept_live false n v = refl

-- after the ended leases of a namespace are gone
pub CountsLive-without_ended : (ls : List Lease) (namespace : List ℕ) (now : ℕ) → CountsLive ls (without_ended ls namespace now) namespace now
CountsLive-without_ended ls namespace now = record {
  named = λ name. count_by-filter (guards namespace name) (λ l. not (has_ended namespace now l)) ls
      ∙ count_by-agree _ (λ l. guards namespace name l && is_live now l) (λ l. kept_live (is_of namespace l) (does_name name l) (is_live now l)) ls;
  other_namespaces = λ space name differ. count_by-filter (guards space name) (λ l. not (has_ended namespace now l)) ls
      ∙ count_by-agree _ (guards space name) (λ l. kept_elsewhere (is_of namespace l) (is_of space l) (does_name name l) (not (is_live now l)) (is_of-other space namespace differ l)) ls;
}

pub is_of-is_lease : (namespace lease : List ℕ) (l : Lease) → is_lease namespace lease l ≡ true → is_of namespace l ≡ true
is_of-is_lease namespace lease l is = (bytes_eq-Decides namespace l.namespace).1 (is_lease-parts namespace lease l is).0

or_false : (b : Bool) → (b || false) ≡ b
or_false true = refl
or_false false = refl

or_true : (b : Bool) → (b || true) ≡ true
or_true true = refl
or_true false = refl

-- no lease of that name names anything where there is none
pub lease_names-none : (ls : List Lease) (namespace lease name : List ℕ) → has_lease ls namespace lease ≡ false → lease_names ls namespace lease name ≡ false
lease_names-none [] namespace lease name none = refl
lease_names-none (l ∷ ls) namespace lease name none =
    let both = list_any-tail (is_lease namespace lease) l ls none in
    ap (λ b. (b && does_name name l) || lease_names ls namespace lease name) both.0 ∙ lease_names-none ls namespace lease name both.1

module _ (namespace lease : List ℕ) where
  -- after a release
  count_of-without_lease : (name : List ℕ) (ls : List Lease) → AreDistinct ls
      → naming_count (without_lease ls namespace lease) namespace name + (if lease_names ls namespace lease name then 1 else 0) ≡ naming_count ls namespace name
  unfolding IsDistinct
  count_of-without_lease name [] distinct = refl
  count_of-without_lease name (l ∷ ls) distinct = by (is_lease namespace lease l) refl (count_of-without_lease name ls distinct.1)
    where
      by : (b : Bool) → is_lease namespace lease l ≡ b
          → naming_count (without_lease ls namespace lease) namespace name + (if lease_names ls namespace lease name then 1 else 0) ≡ naming_count ls namespace name
          → naming_count (without_lease (l ∷ ls) namespace lease) namespace name + (if lease_names (l ∷ ls) namespace lease name then 1 else 0) ≡ naming_count (l ∷ ls) namespace name
      by true e rest =
          let none : has_lease ls namespace lease ≡ false = has_lease-after namespace lease l ls distinct e in
          let gone : without_lease (l ∷ ls) namespace lease ≡ ls = ap (λ b. cond (not b) (l ∷ without_lease ls namespace lease) (without_lease ls namespace lease)) e ∙ filter-none (is_lease namespace lease) ls none in
          let named : lease_names (l ∷ ls) namespace lease name ≡ does_name name l = ap (λ b. (b && does_name name l) || lease_names ls namespace lease name) e ∙ ap (λ b. does_name name l || b) (lease_names-none ls namespace lease name none) ∙ or_false (does_name name l) in
          let guard : guards namespace name l ≡ does_name name l = ap (λ b. b && does_name name l) (is_of-is_lease namespace lease l e) in
          let new : naming_count (without_lease (l ∷ ls) namespace lease) namespace name ≡ naming_count ls namespace name = ap (λ ks. naming_count ks namespace name) gone in
          let lost : one_if (lease_names (l ∷ ls) namespace lease name) ≡ one_if (guards namespace name l) = ap one_if (named ∙ sym guard) in
          omega (arith, new, lost, count_by-cons (guards namespace name) l ls)
      by false e rest =
          let gone : without_lease (l ∷ ls) namespace lease ≡ l ∷ without_lease ls namespace lease = ap (λ b. cond (not b) (l ∷ without_lease ls namespace lease) (without_lease ls namespace lease)) e in
          let named : lease_names (l ∷ ls) namespace lease name ≡ lease_names ls namespace lease name = ap (λ b. (b && does_name name l) || lease_names ls namespace lease name) e in
          let new : naming_count (without_lease (l ∷ ls) namespace lease) namespace name ≡ naming_count (l ∷ without_lease ls namespace lease) namespace name = ap (λ ks. naming_count ks namespace name) gone in
          let lost : one_if (lease_names (l ∷ ls) namespace lease name) ≡ one_if (lease_names ls namespace lease name) = ap one_if named in
          omega (arith, rest, new, lost, count_by-cons (guards namespace name) l ls, count_by-cons (guards namespace name) l (without_lease ls namespace lease))

  pub CountsReleased-without_lease : (ls : List Lease) → AreDistinct ls → CountsReleased ls (without_lease ls namespace lease) namespace lease
  CountsReleased-without_lease ls distinct = record {
    named = λ name. count_of-without_lease name ls distinct;
    other_namespaces = λ space name differ. count_by-filter (guards space name) (λ l. not (is_lease namespace lease l)) ls
        ∙ count_by-agree _ (guards space name) (λ l. kept_elsewhere (is_of namespace l) (is_of space l) (does_name name l) (bytes_eq lease l.name) (is_of-other space namespace differ l)) ls;
  }

  -- what the namespace's lease names, where its place is known
  pub lease_names-at : (name : List ℕ) (ls : List Lease) (place : ℕ) (d : Lease) → AreDistinct ls → place < length ls → is_lease namespace lease (get_or ls place d) ≡ true
      → lease_names ls namespace lease name ≡ does_name name (get_or ls place d)
  unfolding IsDistinct
  lease_names-at name [] place d distinct within is = absurd (omega arith)
  lease_names-at name (l ∷ ls) zero d distinct within is =
      ap (λ b. (b && does_name name l) || lease_names ls namespace lease name) is
      ∙ ap (λ b. does_name name l || b) (lease_names-none ls namespace lease name (has_lease-after namespace lease l ls distinct is)) ∙ or_false (does_name name l)
  lease_names-at name (l ∷ ls) (suc place) d distinct within is =
      let there : has_lease ls namespace lease ≡ true = list_any_at (is_lease namespace lease) ls place d (omega arith) is in
      by (is_lease namespace lease l) refl there (lease_names-at name ls place d distinct.1 (omega arith) is)
    where
      by : (b : Bool) → is_lease namespace lease l ≡ b → has_lease ls namespace lease ≡ true → lease_names ls namespace lease name ≡ does_name name (get_or ls place d)
          → lease_names (l ∷ ls) namespace lease name ≡ does_name name (get_or ls place d)
      by true e there rest = absurd (true≢false (sym there ∙ has_lease-after namespace lease l ls distinct e))
      by false e there rest = ap (λ b. (b && does_name name l) || lease_names ls namespace lease name) e ∙ rest

-- what a lease names after a name is added
pub does_name-with_name : (other name : List ℕ) (l : Lease) → does_name other (with_lease_name name l) ≡ (does_name other l || bytes_eq other name)
does_name-with_name other name l = by (does_name name l) (bytes_eq other name) refl refl
  where
    by : (b e : Bool) → does_name name l ≡ b → bytes_eq other name ≡ e → does_name other (with_lease_name name l) ≡ (does_name other l || bytes_eq other name)
    by true true there same =
        let is : does_name other l ≡ true = ap (λ n. does_name n l) ((bytes_eq-Decides other name).0 same) ∙ there in
        ap (does_name other) (with_name-there name l there) ∙ is ∙ sym (ap (λ b. b || bytes_eq other name) is)
    by true false there differ = ap (does_name other) (with_name-there name l there) ∙ sym (ap (λ b. does_name other l || b) differ ∙ or_false (does_name other l))
    by false e absent same =
        ap (does_name other) (with_name-new name l absent) ∙ list_any-append (bytes_eq other) l.names (name ∷ []) ∙ ap (λ b. does_name other l || b) (or_false (bytes_eq other name))

pub is_of-with_name : (space name : List ℕ) (l : Lease) → is_of space (with_lease_name name l) ≡ is_of space l
is_of-with_name space name l = ap (bytes_eq space) (with_name-namespace name l)

module _ (namespace lease name : List ℕ) where
  -- the lease that gets the name counts for it afterwards
  guards-with_name : (l : Lease) → is_of namespace l ≡ true → guards namespace name (with_lease_name name l) ≡ true
  guards-with_name l is =
      let named : does_name name (with_lease_name name l) ≡ true = does_name-with_name name name l ∙ ap (λ b. does_name name l || b) ((bytes_eq-Decides name name).1 refl) ∙ or_true (does_name name l) in
      ap (λ b. b && does_name name (with_lease_name name l)) (is_of-with_name namespace name l ∙ is) ∙ named

  count_of-at : (ls : List Lease) (place : ℕ) (d : Lease) → AreDistinct ls → place < length ls → is_lease namespace lease (get_or ls place d) ≡ true
      → naming_count (set ls place (with_lease_name name (get_or ls place d))) namespace name ≡ naming_count ls namespace name + (if lease_names ls namespace lease name then 0 else 1)
  count_of-at ls place d distinct within is =
      let of : is_of namespace (get_or ls place d) ≡ true = is_of-is_lease namespace lease (get_or ls place d) is in
      by (does_name name (get_or ls place d)) (lease_names-at namespace lease name ls place d distinct within is) (ap (λ b. b && does_name name (get_or ls place d)) of)
      (ap one_if (guards-with_name (get_or ls place d) of)) (sum_by-set (λ l. one_if (guards namespace name l)) ls place (with_lease_name name (get_or ls place d)) d within)
    where
      by : (b : Bool) → lease_names ls namespace lease name ≡ b → guards namespace name (get_or ls place d) ≡ b
          → one_if (guards namespace name (with_lease_name name (get_or ls place d))) ≡ 1
          → naming_count (set ls place (with_lease_name name (get_or ls place d))) namespace name + one_if (guards namespace name (get_or ls place d)) ≡ naming_count ls namespace name + one_if (guards namespace name (with_lease_name name (get_or ls place d)))
          → naming_count (set ls place (with_lease_name name (get_or ls place d))) namespace name ≡ naming_count ls namespace name + (if lease_names ls namespace lease name then 0 else 1)
      by true named guard one moved =
          let was : one_if (guards namespace name (get_or ls place d)) ≡ 1 = ap one_if guard in
          omega (arith, was, one, moved) ∙ ap (λ b. naming_count ls namespace name + (if b then 0 else 1)) (sym named)
      by false named guard one moved =
          let was : one_if (guards namespace name (get_or ls place d)) ≡ 0 = ap one_if guard in
          omega (arith, was, one, moved) ∙ ap (λ b. naming_count ls namespace name + (if b then 0 else 1)) (sym named)

  -- a lease counts for another name as it did
  guards-other_name : (space other : List ℕ) → other ≢ name → (l : Lease) → guards space other (changed namespace lease name l) ≡ guards space other l
  guards-other_name space other differ l = by (is_lease namespace lease l)
    where
      by : (b : Bool) → guards space other (if b then with_lease_name name l else l) ≡ guards space other l
      by true =
          ap (λ b. b && does_name other (with_lease_name name l)) (is_of-with_name space name l)
          ∙ ap (λ b. is_of space l && b) (does_name-with_name other name l ∙ ap (λ b. does_name other l || b) (bytes_eq-other other name differ) ∙ or_false (does_name other l))
      by false = refl

  -- and in another namespace
  guards-other_namespace : (space other : List ℕ) → space ≢ namespace → (l : Lease) → guards space other (changed namespace lease name l) ≡ guards space other l
  guards-other_namespace space other differ l = by (is_lease namespace lease l) refl
    where
      by : (b : Bool) → is_lease namespace lease l ≡ b → guards space other (if b then with_lease_name name l else l) ≡ guards space other l
      by true is =
          let elsewhere : is_of space l ≡ false = is_of-other space namespace differ l (is_of-is_lease namespace lease l is) in
          ap (λ b. b && does_name other (with_lease_name name l)) (is_of-with_name space name l ∙ elsewhere) ∙ sym (ap (λ b. b && does_name other l) elsewhere)
      by false is = refl

  pub CountsAdded-with_name_added : (ls : List Lease) (place : ℕ) (d : Lease) → AreDistinct ls → place < length ls → is_lease namespace lease (get_or ls place d) ≡ true
      → CountsAdded ls (with_name_added ls namespace lease name) namespace lease name
  CountsAdded-with_name_added ls place d distinct within is = record {
    named = ap (λ ks. naming_count ks namespace name) (sym (set-with_name_added namespace lease name ls place d distinct within is)) ∙ count_of-at ls place d distinct within is;
    other_names = λ space other differ. count_by-map (guards space other) (changed namespace lease name) ls ∙ count_by-agree _ (guards space other) (guards-other_name space other differ) ls;
    other_namespaces = λ space other differ. count_by-map (guards space other) (changed namespace lease name) ls ∙ count_by-agree _ (guards space other) (guards-other_namespace space other differ) ls;
  }

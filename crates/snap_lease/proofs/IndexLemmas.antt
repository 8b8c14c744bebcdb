-- The counts of names beside the leases, before and after a change.
use Rattle.std.proofs.Common.{◌≡◌, ℕ, zero, suc, ◌+◌, ◌-◌, ◌<◌, Bool, true, false, not, cond, List, [], ◌∷◌, ◌++◌, ◌&&◌, ◌||◌, map, count_by, length, get_or, set, take, Option, refl, sym, ap, ◌∙◌, arith, true≢false, bytes_eq}
use Rattle.std.proofs.lemmas.List.{map-append, take_more}
use Rattle.std.proofs.lemmas.List.Folds.{list_any_at}
use Rattle.std.proofs.lemmas.List.Sums.{sum_by-cons, sum_by-set, sum_by_push}
use Rattle.std.proofs.lemmas.Slice.Eq.{bytes_eq-Decides}
use Rattle.std.specs.List.{AllByRecursion, IsDistinct}
use Rattle.snap_counts.specs.Counts.{count_within}
use Rattle.snap_lease.specs.Lease.{Lease, is_lease, is_of, does_name, empty_lease, with_lease_name}
use Rattle.snap_lease.specs.Leases.{AreDistinct, guards, has_ended, has_lease, naming_count, without_ended, without_lease}
use Rattle.snap_lease.specs.Index.{AreNameCounts, AreUncounted, IsRecounted, IsUncounted, NameCounts}
use Rattle.snap_lease.specs.Live.{is_among}
use Rattle.snap_lease.proofs.CountLemmas.{bytes_eq-other, count_by-filter, does_name-with_name, is_of-with_name}
use Rattle.snap_lease.proofs.LeaseLemmas.{list_any-push}
use Rattle.snap_lease.proofs.ListLemmas.{filter-none, has_lease-after}

-- what one element adds to a count
abbrev pub one_if : Bool → ℕ
one_if b = cond b 1 0

-- ---- one lease

-- what a name more adds
one_more : (o d e : Bool) → (e ≡ true → d ≡ false) → one_if (o && e) + one_if (o && d) ≡ one_if (o && (d || e))
one_more true true true new = absurd (true≢false (new refl))
one_more true true false new = refl
one_more true false true new = refl
one_more true false false new = refl
one_more false d e new = refl

-- the counts after a name that is new to the lease was counted
pub recounted-new : (name : List ℕ) (l new : Lease) (before after : NameCounts) → does_name name l ≡ false → new ≡ with_lease_name name l
    → ((space q : List ℕ) → count_within space q after ≡ count_within space q before + one_if (bytes_eq space l.namespace && bytes_eq q name)) → IsRecounted l new before after
recounted-new name l new before after absent is counted space q =
    let more = counted space q in
    let step = one_more (is_of space l) (does_name q l) (bytes_eq q name) (λ same. ap (λ n. does_name n l) ((bytes_eq-Decides q name).0 same) ∙ absent) in
    let seen : guards space q new ≡ (is_of space l && (does_name q l || bytes_eq q name)) =
    ap (guards space q) is ∙ ap (λ b. b && does_name q (with_lease_name name l)) (is_of-with_name space name l) ∙ ap (λ b. is_of space l && b) (does_name-with_name q name l) in
    let last : one_if (guards space q new) ≡ one_if (is_of space l && (does_name q l || bytes_eq q name)) = ap one_if seen in
    omega (arith, more, step, last)

-- the counts after a count was taken back that was just made
pub counted_back : (before during after : NameCounts) (t : List ℕ → List ℕ → Bool) → ((space q : List ℕ) → count_within space q during ≡ count_within space q before + one_if (t space q))
    → ((space q : List ℕ) → count_within space q after ≡ count_within space q during - one_if (t space q)) → (space q : List ℕ) → count_within space q after ≡ count_within space q before
counted_back before during after t more less space q = omega (arith, more space q, less space q)

-- ---- the names of a lease, one after another

module _ {X : Type 0} (f : X → List ℕ) where
  apart_at : (y : List ℕ) (xs : List X) (i : ℕ) (d : X) → AllByRecursion (λ z. bytes_eq y z ≡ false) (map f xs) → i < length xs → bytes_eq y (f (get_or xs i d)) ≡ false
  apart_at y [] i d all within = absurd (omega arith)
  apart_at y (x ∷ xs) zero d all within = all.0
  apart_at y (x ∷ xs) (suc i) d all within = apart_at y xs i d all.1 (omega arith)

  -- no text stands twice, so the one at a place isn't among those before it
  pub not_before : (q : List ℕ) (xs : List X) (i : ℕ) (d : X) → IsDistinct bytes_eq (map f xs) → i < length xs → bytes_eq q (f (get_or xs i d)) ≡ true → is_among q (map f (take i xs)) ≡ false
  unfolding IsDistinct
  not_before q [] i d distinct within is = absurd (omega arith)
  not_before q (x ∷ xs) zero d distinct within is = refl
  not_before q (x ∷ xs) (suc i) d distinct within is =
      let at : q ≡ f (get_or xs i d) = (bytes_eq-Decides q (f (get_or xs i d))).0 is in
      let apart : bytes_eq (f x) q ≡ false = ap (bytes_eq (f x)) at ∙ apart_at (f x) xs i d distinct.0 (omega arith) in
      ap (λ b. b || is_among q (map f (take i xs))) (flipped q (f x) apart) ∙ not_before q xs i d distinct.1 (omega arith) is
    where
      flipped : (a b : List ℕ) → bytes_eq b a ≡ false → bytes_eq a b ≡ false
      flipped a b e = bytes_eq-other a b (λ same. true≢false (sym ((bytes_eq-Decides b a).1 (sym same)) ∙ e))

  names_more : (xs : List X) (i : ℕ) (d : X) → i < length xs → map f (take (i + 1) xs) ≡ map f (take i xs) ++ f (get_or xs i d) ∷ []
  names_more xs i d within = ap (map f) (take_more xs i d within) ∙ map-append f (take i xs) (get_or xs i d ∷ [])

  -- one name more was taken back
  pub uncounted_more : (o : Bool) (q : List ℕ) (xs : List X) (i : ℕ) (d : X) (n : List ℕ) (before during after : ℕ) → IsDistinct bytes_eq (map f xs) → i < length xs → n ≡ f (get_or xs i d)
      → during ≡ before - one_if (o && is_among q (map f (take i xs))) → after ≡ during - one_if (o && bytes_eq q n) → after ≡ before - one_if (o && is_among q (map f (take (i + 1) xs)))
  uncounted_more o q xs i d n before during after distinct within at was now =
      let step = one_more o (is_among q (map f (take i xs))) (bytes_eq q n) (λ same. not_before q xs i d distinct within (ap (bytes_eq q) (sym at) ∙ same)) in
      let grown : is_among q (map f (take (i + 1) xs)) ≡ (is_among q (map f (take i xs)) || bytes_eq q n) =
      ap (is_among q) (names_more xs i d within) ∙ list_any-push (bytes_eq q) (map f (take i xs)) (f (get_or xs i d)) ∙ ap (λ m. is_among q (map f (take i xs)) || bytes_eq q m) (sym at) in
      let all : one_if (o && is_among q (map f (take (i + 1) xs))) ≡ one_if (o && (is_among q (map f (take i xs)) || bytes_eq q n)) = ap (λ b. one_if (o && b)) grown in
      omega (arith, step, all, was, now)

-- ---- the leases

module _ {X : Type 0} where
  -- those that pass a test and those that don't are all
  pub count_by-split : (t p : X → Bool) (xs : List X) → count_by (λ x. not (t x) && p x) xs + count_by (λ x. t x && p x) xs ≡ count_by p xs
  count_by-split t p [] = refl
  count_by-split t p (x ∷ xs) = by (t x) refl (count_by-split t p xs)
    where
      by : (b : Bool) → t x ≡ b → count_by (λ y. not (t y) && p y) xs + count_by (λ y. t y && p y) xs ≡ count_by p xs
          → count_by (λ y. not (t y) && p y) (x ∷ xs) + count_by (λ y. t y && p y) (x ∷ xs) ≡ count_by p (x ∷ xs)
      by true e rest =
          let kept : one_if (not (t x) && p x) ≡ 0 = ap (λ b. one_if (not b && p x)) e in
          let gone : one_if (t x && p x) ≡ one_if (p x) = ap (λ b. one_if (b && p x)) e in
          omega (arith, rest, kept, gone, sum_by-cons (λ y. one_if (not (t y) && p y)) x xs, sum_by-cons (λ y. one_if (t y && p y)) x xs, sum_by-cons (λ y. one_if (p y)) x xs)
      by false e rest =
          let kept : one_if (not (t x) && p x) ≡ one_if (p x) = ap (λ b. one_if (not b && p x)) e in
          let gone : one_if (t x && p x) ≡ 0 = ap (λ b. one_if (b && p x)) e in
          omega (arith, rest, kept, gone, sum_by-cons (λ y. one_if (not (t y) && p y)) x xs, sum_by-cons (λ y. one_if (t y && p y)) x xs, sum_by-cons (λ y. one_if (p y)) x xs)

-- what is so of each element is so of one at a place
pub all-at : {X : Type 0} (P : X → Type 0) (xs : List X) (i : ℕ) (d : X) → AllByRecursion P xs → i < length xs → P (get_or xs i d)
all-at P [] i d all within = absurd (omega arith)
all-at P (x ∷ xs) zero d all within = all.0
all-at P (x ∷ xs) (suc i) d all within = all-at P xs i d all.1 (omega arith)

and_none : (b : Bool) → (b && false) ≡ false
and_none true = refl
and_none false = refl

pub guards-empty : (space name namespace lease : List ℕ) (until : Option ℕ) → guards space name (empty_lease namespace lease until) ≡ false
guards-empty space name namespace lease until = and_none (bytes_eq space namespace)

-- a lease that names nothing comes last
pub counts-created : (ls new : List Lease) (counts : NameCounts) (l : Lease) → AreNameCounts ls counts → ((space name : List ℕ) → guards space name l ≡ false) → new ≡ ls ++ l ∷ [] → AreNameCounts new counts
counts-created ls new counts l are none is space name =
    let zero : one_if (guards space name l) ≡ 0 = ap one_if (none space name) in
    let pushed : naming_count new space name ≡ naming_count ls space name + one_if (guards space name l) = ap (λ ks. naming_count ks space name) is ∙ sum_by_push (λ k. one_if (guards space name k)) ls l in
    omega (arith, are space name, zero, pushed)

-- the lease at a place is changed
pub counts-changed : (ls : List Lease) (place : ℕ) (old new d : Lease) (before after : NameCounts) → AreNameCounts ls before → place < length ls → old ≡ get_or ls place d → IsRecounted old new before after → AreNameCounts (set ls place new) after
counts-changed ls place old new d before after are within at recounted space name =
    let was : one_if (guards space name old) ≡ one_if (guards space name (get_or ls place d)) = ap (λ l. one_if (guards space name l)) at in
    omega (arith, are space name, recounted space name, was, sum_by-set (λ l. one_if (guards space name l)) ls place new d within)

-- the lease at a place is released
pub naming_count-released : (namespace lease space name : List ℕ) (ls : List Lease) (place : ℕ) (d : Lease) → AreDistinct ls → place < length ls → is_lease namespace lease (get_or ls place d) ≡ true
    → naming_count (without_lease ls namespace lease) space name + one_if (guards space name (get_or ls place d)) ≡ naming_count ls space name
unfolding IsDistinct
naming_count-released namespace lease space name [] place d distinct within is = absurd (omega arith)
naming_count-released namespace lease space name (l ∷ ls) zero d distinct within is =
    let none : has_lease ls namespace lease ≡ false = has_lease-after namespace lease l ls distinct is in
    let gone : without_lease (l ∷ ls) namespace lease ≡ ls = ap (λ b. cond (not b) (l ∷ without_lease ls namespace lease) (without_lease ls namespace lease)) is ∙ filter-none (is_lease namespace lease) ls none in
    let left : naming_count (without_lease (l ∷ ls) namespace lease) space name ≡ naming_count ls space name = ap (λ ks. naming_count ks space name) gone in
    omega (arith, left, sum_by-cons (λ k. one_if (guards space name k)) l ls)
naming_count-released namespace lease space name (l ∷ ls) (suc place) d distinct within is =
    let there : has_lease ls namespace lease ≡ true = list_any_at (is_lease namespace lease) ls place d (omega arith) is in
    by (is_lease namespace lease l) refl there (naming_count-released namespace lease space name ls place d distinct.1 (omega arith) is)
  where
    by : (b : Bool) → is_lease namespace lease l ≡ b → has_lease ls namespace lease ≡ true
        → naming_count (without_lease ls namespace lease) space name + one_if (guards space name (get_or ls place d)) ≡ naming_count ls space name
        → naming_count (without_lease (l ∷ ls) namespace lease) space name + one_if (guards space name (get_or ls place d)) ≡ naming_count (l ∷ ls) space name
    by true e there rest = absurd (true≢false (sym there ∙ has_lease-after namespace lease l ls distinct e))
    by false e there rest =
        let kept : without_lease (l ∷ ls) namespace lease ≡ l ∷ without_lease ls namespace lease = ap (λ b. cond (not b) (l ∷ without_lease ls namespace lease) (without_lease ls namespace lease)) e in
        let left : naming_count (without_lease (l ∷ ls) namespace lease) space name ≡ naming_count (l ∷ without_lease ls namespace lease) space name = ap (λ ks. naming_count ks space name) kept in
        omega (arith, rest, left, sum_by-cons (λ k. one_if (guards space name k)) l ls, sum_by-cons (λ k. one_if (guards space name k)) l (without_lease ls namespace lease))

pub counts-released : (namespace lease : List ℕ) (ls : List Lease) (place : ℕ) (old d : Lease) (before after : NameCounts) → AreNameCounts ls before → AreDistinct ls → place < length ls
    → is_lease namespace lease (get_or ls place d) ≡ true → old ≡ get_or ls place d → IsUncounted old before after → AreNameCounts (without_lease ls namespace lease) after
counts-released namespace lease ls place old d before after are distinct within is at uncounted space name =
    let was : one_if (guards space name old) ≡ one_if (guards space name (get_or ls place d)) = ap (λ l. one_if (guards space name l)) at in
    omega (arith, are space name, uncounted space name, was, naming_count-released namespace lease space name ls place d distinct within is)

-- the namespace's ended leases are gone
pub counts-ended : (namespace : List ℕ) (now : ℕ) (ls : List Lease) (before after : NameCounts) → AreNameCounts ls before → AreUncounted (has_ended namespace now) ls before after → AreNameCounts (without_ended ls namespace now) after
counts-ended namespace now ls before after are uncounted space name =
    omega (arith, are space name, uncounted space name, count_by-split (has_ended namespace now) (guards space name) ls, count_by-filter (guards space name) (λ l. not (has_ended namespace now l)) ls)

-- Records in the order of their ids: what a sort by them gives.
use Rattle.std.proofs.Common.{◌≡◌, ◌≢◌, ℕ, zero, suc, ◌<◌, ◌≤◌, Bool, true, false, eqb, cond, List, [], ◌∷◌, ◌++◌, length, refl, sym, ap, ◌∙◌, subst, map-id, arith}
use Rattle.std.specs.List.{AllByRecursion}
use Rattle.std.specs.Prelude.{filter, map, nat_lt, IsPermutation}
use Rattle.std.proofs.lemmas.Bool.{eqb-true, false_from_ne_true, lt-ltb}
use Rattle.std.proofs.lemmas.Bool.Decides.{nat_tests}
use Rattle.std.specs.List.Sorted.{IsNonDecreasingBy}
use Rattle.std.proofs.lemmas.List.Elements.{All-from_get_or, All-from_recursion, recursion_from_All}
use Rattle.std.proofs.lemmas.List.Sorted.{All-permutation, IsNonDecreasingBy-drop, sum_by-IsPermutation}
use Rattle.std.proofs.lemmas.List.Sums.{length-filter}
use Rattle.snap_record.specs.declared.record.Record.{Record}
use Rattle.snap_call.specs.Records.{AllPairwise}
use Rattle.snap_call.specs.Saved.{by_id, has_id}
use Rattle.snap_call.proofs.Lists.{all-both, all-map}

-- the record has an id below n
abbrev is_below : ℕ → Record → Bool
is_below n r = nat_lt r.id n

-- ---- records whose ids don't fall

-- of records with ids from n on, none is below n, and those below the next number have n
none_below : (n : ℕ) (rs : List Record) → AllByRecursion (λ r. n ≤ r.id) rs → filter (is_below n) rs ≡ []
none_below n [] high = refl
none_below n (r ∷ rs) high = rw (out (high.0)) (none_below n rs high.1)
  where
    out : n ≤ r.id → nat_lt r.id n ≡ false
    out from = grind (arith, nat_tests)

next_are : (n : ℕ) (rs : List Record) → AllByRecursion (λ r. n ≤ r.id) rs → filter (has_id n) rs ≡ filter (is_below (suc n)) rs
next_are n [] high = refl
next_are n (r ∷ rs) high = λ i. cond (same high.0 i) (r ∷ next_are n rs high.1 i) (next_are n rs high.1 i)
  where
    same : n ≤ r.id → eqb r.id n ≡ nat_lt r.id (suc n)
    same from = grind (arith, nat_tests)

module _ {X : Type 0} (f : X → Record) where
  -- the first id is at most each other
  first_least : (x : X) (xs : List X) → IsNonDecreasingBy (λ y. (f y).id) (x ∷ xs) → AllByRecursion (λ r. (f x).id ≤ r.id) (map f xs)
  first_least x xs up = mapped xs (recursion_from_All (λ y. (f x).id ≤ (f y).id) xs (All-from_get_or (λ y. (f x).id ≤ (f y).id) xs x (λ i low. up 0 (suc i) x (omega arith) (omega (arith, low)))))
    where
      mapped : (ys : List X) → AllByRecursion (λ y. (f x).id ≤ (f y).id) ys → AllByRecursion (λ r. (f x).id ≤ r.id) (map f ys)
      mapped [] all = tt
      mapped (y ∷ ys) all = (all.0, mapped ys all.1)

  -- those below n come first, and then those that have n
  split_at : (n : ℕ) (xs : List X) → IsNonDecreasingBy (λ y. (f y).id) xs → filter (is_below n) (map f xs) ++ filter (has_id n) (map f xs) ≡ filter (is_below (suc n)) (map f xs)
  split_at n [] up = refl
  split_at n (x ∷ xs) up = by (nat_lt (f x).id n) refl (split_at n xs (IsNonDecreasingBy-drop (λ y. (f y).id) 1 (x ∷ xs) up)) (first_least x xs up)
    where
      r : Record
      r = f x

      rs : List Record
      rs = map f xs

      by : (b : Bool) → nat_lt r.id n ≡ b → filter (is_below n) rs ++ filter (has_id n) rs ≡ filter (is_below (suc n)) rs → AllByRecursion (λ t. r.id ≤ t.id) rs → filter (is_below n) (r ∷ rs) ++ filter (has_id n) (r ∷ rs) ≡ filter (is_below (suc n)) (r ∷ rs)
      by true low rest least =
          let unlike : eqb r.id n ≡ false = grind (arith, nat_tests, low) in
          let more : nat_lt r.id (suc n) ≡ true = grind (arith, nat_tests, low) in
          rw (low, unlike, more) (ap (λ l. r ∷ l) rest)
      by false out rest least =
          let from : n ≤ r.id = grind (arith, nat_tests, out) in
          let high : AllByRecursion (λ t. n ≤ t.id) (r ∷ rs) = (from, all-map (λ t. r.id ≤ t.id) (λ t. n ≤ t.id) (λ t h. omega (arith, h, from)) rs least) in
          ap (λ l. l ++ filter (has_id n) (r ∷ rs)) (none_below n (r ∷ rs) high) ∙ next_are n (r ∷ rs) high

  -- so those below n are in the order of their ids
  pub by_id-below : (n : ℕ) (xs : List X) → IsNonDecreasingBy (λ y. (f y).id) xs → by_id n (map f xs) ≡ filter (is_below n) (map f xs)
  unfolding by_id
  by_id-below zero xs up = sym (none_below 0 (map f xs) (each (map f xs)))
    where
      each : (rs : List Record) → AllByRecursion (λ r. 0 ≤ r.id) rs
      each [] = tt
      each (r ∷ rs) = (omega arith, each rs)
  by_id-below (suc n) xs up = ap (λ l. l ++ filter (has_id n) (map f xs)) (by_id-below n xs up) ∙ split_at n xs up

-- all of them, where all are below n
all_below : (n : ℕ) (rs : List Record) → AllByRecursion (λ r. r.id < n) rs → filter (is_below n) rs ≡ rs
all_below n [] low = refl
all_below n (r ∷ rs) low = rw (lt-ltb r.id n low.0) (ap (λ l. r ∷ l) (all_below n rs low.1))

-- ---- the same records in another order

-- none has the id of one that is apart from all
none_has : (k : ℕ) (rs : List Record) → AllByRecursion (λ r. k ≢ r.id) rs → filter (has_id k) rs ≡ []
none_has k [] apart = refl
none_has k (r ∷ rs) apart = rw (false_from_ne_true (eqb r.id k) (λ e. apart.0 (sym (eqb-true r.id k e)))) (none_has k rs apart.1)

-- a record is the only one of its id
abbrev IsOnly : ℕ → List Record → Record → Type 0
IsOnly k rs r = has_id k r ≡ true → filter (has_id k) rs ≡ r ∷ []

each_only : (k : ℕ) (rs : List Record) → AllPairwise (λ r t. r.id ≢ t.id) rs → AllByRecursion (IsOnly k rs) rs
each_only k [] apart = tt
each_only k (r ∷ rs) apart =
    (first, all-map (λ t. (r.id ≢ t.id) × IsOnly k rs t) (IsOnly k (r ∷ rs)) later rs (all-both (λ t. r.id ≢ t.id) (IsOnly k rs) rs apart.0 (each_only k rs apart.1)))
  where
    first : IsOnly k (r ∷ rs) r
    first is = rw is (ap (λ l. r ∷ l) (none_has k rs (subst (λ (n : ℕ). AllByRecursion (λ t. n ≢ t.id) rs) (eqb-true r.id k is) apart.0)))

    later : (t : Record) → (r.id ≢ t.id) × IsOnly k rs t → IsOnly k (r ∷ rs) t
    later t h is = rw (false_from_ne_true (eqb r.id k) (λ e. h.0 (eqb-true r.id k e ∙ sym (eqb-true t.id k is)))) (h.1 is)

module _ (rs ts : List Record) (apart : AllPairwise (λ r t. r.id ≢ t.id) rs) (moved : IsPermutation rs ts) where
  as_many : (k : ℕ) → length (filter (has_id k) ts) ≡ length (filter (has_id k) rs)
  as_many k = length-filter (has_id k) ts ∙ (sum_by-IsPermutation (λ r. cond (has_id k r) 1 0) rs ts moved ∙ sym (length-filter (has_id k) rs))

  -- each that passes is the only one
  passing : (k : ℕ) (us : List Record) → AllByRecursion (IsOnly k rs) us → AllByRecursion (λ r. filter (has_id k) rs ≡ r ∷ []) (filter (has_id k) us)
  passing k [] all = tt
  passing k (u ∷ us) all = at (has_id k u) refl (passing k us all.1)
    where
      at : (b : Bool) → has_id k u ≡ b → AllByRecursion (λ r. filter (has_id k) rs ≡ r ∷ []) (filter (has_id k) us) → AllByRecursion (λ r. filter (has_id k) rs ≡ r ∷ []) (cond b (u ∷ filter (has_id k) us) (filter (has_id k) us))
      at true is rest = (all.0 is, rest)
      at false out rest = rest

  nothing : (us : List Record) → length us ≡ 0 → ◌≡◌ {A = List Record} [] us
  nothing [] e = refl
  nothing (u ∷ us) e = absurd (omega (arith, e))

  -- those of one id are the same
  same_of : (k : ℕ) → filter (has_id k) ts ≡ filter (has_id k) rs
  same_of k = by (filter (has_id k) ts) (as_many k) (passing k ts (recursion_from_All (IsOnly k rs) ts (All-permutation (IsOnly k rs) rs ts moved (All-from_recursion (IsOnly k rs) rs (each_only k rs apart)))))
    where
      by : (us : List Record) → length us ≡ length (filter (has_id k) rs) → AllByRecursion (λ r. filter (has_id k) rs ≡ r ∷ []) us → us ≡ filter (has_id k) rs
      by [] many all = nothing (filter (has_id k) rs) (sym many)
      by (u ∷ []) many all = sym all.0
      by (u ∷ v ∷ us) many all = absurd (omega (arith, many, ap (λ (l : List Record). length l) all.0))

  pub by_id-moved : (n : ℕ) → by_id n ts ≡ by_id n rs
  unfolding by_id
  by_id-moved zero = refl
  by_id-moved (suc n) = λ i. by_id-moved n i ++ same_of n i

-- what a sort by the ids gives
pub by_id-sorted : {X : Type 0} (f : X → Record) (n : ℕ) (rs : List Record) (xs : List X) → AllPairwise (λ r t. r.id ≢ t.id) rs → AllByRecursion (λ r. r.id < n) rs
    → IsPermutation rs (map f xs) → IsNonDecreasingBy (λ y. (f y).id) xs → map f xs ≡ by_id n rs
by_id-sorted f n rs xs apart low moved up =
    sym (by_id-below f n xs up ∙ all_below n (map f xs) (recursion_from_All (λ r. r.id < n) (map f xs) (All-permutation (λ r. r.id < n) rs (map f xs) moved (All-from_recursion (λ r. r.id < n) rs low)))) ∙ by_id-moved rs (map f xs) apart moved n

-- the same of records that are sorted themselves
pub by_id-of_sorted : (n : ℕ) (rs : List Record) (xs : List Record) → AllPairwise (λ r t. r.id ≢ t.id) rs → AllByRecursion (λ r. r.id < n) rs
    → IsPermutation rs xs → IsNonDecreasingBy (λ r. r.id) xs → xs ≡ by_id n rs
by_id-of_sorted n rs xs apart low moved up =
    sym (map-id xs) ∙ by_id-sorted (λ r. r) n rs xs apart low (subst (IsPermutation rs) (sym (map-id xs)) moved) up

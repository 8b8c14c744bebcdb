-- For whoever keeps counts beside a list: each key's count is the number of the list's items with that key.
-- A key is a text, or a pair of a namespace and a text; `n` reads the counts at a key, as `λ q. count_in q counts`.
use Rattle.std.proofs.Common.{◌≡◌, ℕ, ◌+◌, ◌-◌, ◌<◌, Bool, cond, List, [], ◌∷◌, ◌++◌, length, get_or, set, count_by, ap, arith}
use Rattle.std.specs.List.{remove}
use Rattle.std.proofs.lemmas.List.Sums.{sum_by_push, sum_by-remove, sum_by-set}

-- what one item adds to a count
abbrev pub one_if : Bool → ℕ
one_if b = cond b 1 0

module _ {K X : Type 0} (has : K → X → Bool) where
  -- the counts are those of the list: `has k x` says whether the item x has the key k
  abbrev pub AreCounted : (K → ℕ) → List X → Type 0
  AreCounted n xs = (k : K) → n k ≡ count_by (has k) xs

  pub AreCounted-none : (n : K → ℕ) → ((k : K) → n k ≡ 0) → AreCounted n []
  AreCounted-none n zero = zero

  -- an item comes last, and its key, if it has one, was counted
  pub AreCounted-push : (old new : K → ℕ) (xs : List X) (x : X) → AreCounted old xs → ((k : K) → new k ≡ old k + one_if (has k x)) → AreCounted new (xs ++ x ∷ [])
  AreCounted-push old new xs x counted more k = omega (arith, counted k, more k, sum_by_push (λ y. one_if (has k y)) xs x)

  -- the item at a place goes, and its key, if it has one, was taken
  pub AreCounted-remove : (old new : K → ℕ) (xs : List X) (i : ℕ) (d : X) → i < length xs → AreCounted old xs → ((k : K) → new k ≡ old k - one_if (has k (get_or xs i d))) → AreCounted new (remove xs i)
  AreCounted-remove old new xs i d within counted less k = omega (arith, counted k, less k, sum_by-remove (λ y. one_if (has k y)) xs i d within)

  -- the item at a place is written anew, with the keys that it had
  pub AreCounted-set : (n : K → ℕ) (xs : List X) (i : ℕ) (y d : X) → i < length xs → AreCounted n xs → ((k : K) → has k y ≡ has k (get_or xs i d)) → AreCounted n (set xs i y)
  AreCounted-set n xs i y d within counted same k =
      let kept : one_if (has k y) ≡ one_if (has k (get_or xs i d)) = ap one_if (same k) in
      omega (arith, counted k, kept, sum_by-set (λ z. one_if (has k z)) xs i y d within)

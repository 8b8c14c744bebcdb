-- Each n-th element of a list, and elements with their places.
use Rattle.std.specs.Prelude.{get_or, drop}
use Rattle.std.proofs.Common.{◌≡◌, ℕ, zero, suc, ◌+◌, ◌-◌, ◌<◌, List, [], ◌∷◌, ◌++◌, length, ap, ◌∙◌, subst, arith}
use Rattle.std.proofs.Math.Seq.{drop-cons}
use Rattle.snap_writers.specs.Jobs.{Each, every}

-- from an index on, an element that is passed over
pub passed_over : {A : Type 0} (n skip i : ℕ) (xs : List A) (d : A) → i < length xs → 0 < skip → every n skip (drop i xs) ≡ every n (skip - 1) (drop (i + 1) xs)
passed_over n zero i xs d low some = absurd (omega (arith, some))
passed_over n (suc k) i xs d low some =
    let a : suc i ≡ i + 1 = omega arith in
    let b : k ≡ suc k - 1 = omega arith in
    ap (every n (suc k)) (drop-cons xs i d low) ∙ (ap (λ m. every n k (drop m xs)) a ∙ ap (λ m. every n m (drop (i + 1) xs)) b)

-- and one that is taken
pub taken_up : {A : Type 0} (n skip i : ℕ) (xs : List A) (d : A) → i < length xs → skip ≡ 0 → every n skip (drop i xs) ≡ get_or xs i d ∷ every n (n - 1) (drop (i + 1) xs)
taken_up n skip i xs d low none =
    let a : suc i ≡ i + 1 = omega arith in
    ap (λ t. every n t (drop i xs)) none ∙ (ap (every n 0) (drop-cons xs i d low) ∙ ap (λ m. get_or xs i d ∷ every n (n - 1) (drop m xs)) a)

each_last : {A : Type 0} (P : ℕ → A → Type 0) (k : ℕ) (xs : List A) (x : A) → Each P k xs → P (k + length xs) x → Each P k (xs ++ x ∷ [])
each_last P k [] x each here = (subst (λ n. P n x) (omega arith) here, tt)
each_last P k (y ∷ xs) x each here = (each.0, each_last P (k + 1) xs x each.1 (subst (λ n. P n x) (omega arith) here))

-- one element more in its place
pub each_more : {A : Type 0} (P : ℕ → A → Type 0) (xs : List A) (x : A) → Each P 0 xs → P (length xs) x → Each P 0 (xs ++ x ∷ [])
each_more P xs x each here = each_last P 0 xs x each (subst (λ n. P n x) (omega arith) here)

-- what each element has gives each another thing
pub each_weaker : {A : Type 0} (P Q : ℕ → A → Type 0) → ((k : ℕ) (x : A) → P k x → Q k x) → (k : ℕ) (xs : List A) → Each P k xs → Each Q k xs
each_weaker P Q f k [] each = tt
each_weaker P Q f k (x ∷ xs) each = (f k x each.0, each_weaker P Q f (k + 1) xs each.1)

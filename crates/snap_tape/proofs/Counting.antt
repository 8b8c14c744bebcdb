-- What holds of each element holds at each place; a number that stands once.
use Rattle.std.specs.Prelude.{slice_get, count_by, cond}
use Rattle.std.specs.List.{AllByRecursion}
use Rattle.std.proofs.lemmas.List.Sums.{sum_by-cons}
use Rattle.std.proofs.Common.{◌≡◌, ℕ, zero, suc, ◌+◌, ◌<◌, Bool, true, false, List, [], ◌∷◌, Some, refl, ap, subst, arith}

pub all-there : {A : Type 0} (P : A → Type 0) (xs : List A) (i : ℕ) (x : A) → slice_get xs i ≡ Some x → AllByRecursion P xs → P x
all-there P [] i x there all = absurd (cc)
all-there P (y ∷ ys) zero x there all = subst P (cc) all.0
all-there P (y ∷ ys) (suc i) x there all = all-there P ys i x there all.1

abbrev one_if : Bool → ℕ
one_if b = cond b 1 0

one_for : (b : Bool) → b ≡ true → one_if b ≡ 1
one_for true e = refl
one_for false e = absurd (cc)

none_for : (b : Bool) → b ≡ false → one_if b ≡ 0
none_for true e = absurd (cc)
none_for false e = refl

count-cons : {A : Type 0} (p : A → Bool) (x : A) (xs : List A) → count_by p (x ∷ xs) ≡ one_if (p x) + count_by p xs
count-cons p x xs = sum_by-cons (λ y. cond (p y) 1 0) x xs

-- one that passes is counted
counted : {A : Type 0} (p : A → Bool) (xs : List A) (i : ℕ) (x : A) → slice_get xs i ≡ Some x → p x ≡ true → 0 < count_by p xs
counted p [] i x there pass = absurd (cc)
counted p (y ∷ ys) zero x there pass =
    let one = one_for (p y) (subst (λ z. p z ≡ true) (cc) pass) in
    omega (arith, one, count-cons p y ys)
counted p (y ∷ ys) (suc i) x there pass = omega (arith, counted p ys i x there pass, count-cons p y ys)

-- of one that stands once there is one place
pub one_alone : {A : Type 0} (p : A → Bool) (xs : List A) (i k : ℕ) (x y : A) → count_by p xs ≡ 1 → slice_get xs i ≡ Some x → slice_get xs k ≡ Some y → p x ≡ true → p y ≡ true → i ≡ k
one_alone p [] i k x y once at_i at_k pass_i pass_k = absurd (cc)
one_alone p (z ∷ zs) zero zero x y once at_i at_k pass_i pass_k = refl
one_alone p (z ∷ zs) zero (suc k) x y once at_i at_k pass_i pass_k =
    let one = one_for (p z) (subst (λ w. p w ≡ true) (cc) pass_i) in
    absurd (omega (arith, one, once, count-cons p z zs, counted p zs k y at_k pass_k))
one_alone p (z ∷ zs) (suc i) zero x y once at_i at_k pass_i pass_k =
    let one = one_for (p z) (subst (λ w. p w ≡ true) (cc) pass_k) in
    absurd (omega (arith, one, once, count-cons p z zs, counted p zs i x at_i pass_i))
one_alone p (z ∷ zs) (suc i) (suc k) x y once at_i at_k pass_i pass_k =
    ap suc (one_alone p zs i k x y (rest (p z) refl) at_i at_k pass_i pass_k)
  where
    rest : (b : Bool) → p z ≡ b → count_by p zs ≡ 1
    rest true e = absurd (omega (arith, one_for (p z) e, once, count-cons p z zs, counted p zs i x at_i pass_i))
    rest false e = omega (arith, none_for (p z) e, once, count-cons p z zs)

-- nothing passes
none_counted : {A : Type 0} (p : A → Bool) (xs : List A) → ((k : ℕ) (y : A) → slice_get xs k ≡ Some y → p y ≡ false) → count_by p xs ≡ 0
none_counted p [] fails = refl
none_counted p (x ∷ xs) fails = omega (arith, none_for (p x) (fails zero x refl), count-cons p x xs, none_counted p xs (λ k y e. fails (suc k) y e))

-- one passes and no other
pub once_counted : {A : Type 0} (p : A → Bool) (xs : List A) (i : ℕ) (x : A) → slice_get xs i ≡ Some x → p x ≡ true → ((k : ℕ) (y : A) → slice_get xs k ≡ Some y → p y ≡ true → k ≡ i) → count_by p xs ≡ 1
once_counted p [] i x there pass alone = absurd (cc)
once_counted p (z ∷ zs) zero x there pass alone =
    let one = one_for (p z) (subst (λ w. p w ≡ true) (cc) pass) in
    omega (arith, one, count-cons p z zs, none_counted p zs others)
  where
    by : (k : ℕ) (y : _) (b : Bool) → slice_get zs k ≡ Some y → p y ≡ b → b ≡ false
    by k y true e passes = absurd (omega (arith, alone (suc k) y e passes))
    by k y false e passes = refl

    others : (k : ℕ) (y : _) → slice_get zs k ≡ Some y → p y ≡ false
    others k y e = by k y (p y) e refl
once_counted p (z ∷ zs) (suc i) x there pass alone =
    omega (arith, first (p z) refl, count-cons p z zs, once_counted p zs i x there pass (λ k y e passes. omega (arith, alone (suc k) y e passes)))
  where
    first : (b : Bool) → p z ≡ b → one_if (p z) ≡ 0
    first true e = absurd (omega (arith, alone zero z refl e))
    first false e = none_for (p z) e

-- what is counted stands somewhere
abbrev Stands : {A : Type 0} → (A → Bool) → List A → Type 0
Stands {A} p xs = (i : ℕ) × (x : A) × (slice_get xs i ≡ Some x) × (p x ≡ true)

further : {A : Type 0} (p : A → Bool) (z : A) (zs : List A) → Stands p zs → Stands p (z ∷ zs)
further p z zs h = (suc h.0, h.1, h.2, h.3)

at_first : {A : Type 0} (p : A → Bool) (z : A) (zs : List A) → p z ≡ true → Stands p (z ∷ zs)
at_first p z zs e = (zero, z, refl, e)

by_first : {A : Type 0} (p : A → Bool) (z : A) (zs : List A) (b : Bool) → p z ≡ b → 0 < count_by p (z ∷ zs) → (0 < count_by p zs → Stands p zs) → Stands p (z ∷ zs)
by_first p z zs true e some next = at_first p z zs e
by_first p z zs false e some next = further p z zs (next (omega (arith, some, none_for (p z) e, count-cons p z zs)))

where_it_stands : {A : Type 0} (p : A → Bool) (xs : List A) → 0 < count_by p xs → Stands p xs
where_it_stands p [] some = absurd (omega arith)
where_it_stands p (z ∷ zs) some = by_first p z zs (p z) refl some (where_it_stands p zs)

pub stands : {A : Type 0} (p : A → Bool) (xs : List A) → 0 < count_by p xs → (i : ℕ) × (x : A) × (slice_get xs i ≡ Some x) × (p x ≡ true)
stands p xs some = where_it_stands p xs some

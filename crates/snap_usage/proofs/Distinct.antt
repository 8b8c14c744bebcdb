-- Two lists in which each number stands as often have the same sums.
use Rattle.std.proofs.Common.{◌≡◌, ℕ, ◌+◌, Bool, true, false, cond, List, [], ◌∷◌, length, refl, sym, ap, subst, ◌∙◌, arith}
use Rattle.std.specs.Prelude.{◌==◌, ◌||◌}
use Rattle.std.specs.List.{list_any, sum_by}
use Rattle.std.proofs.lemmas.Bool.Decides.{nat_tests}
use Rattle.std.proofs.lemmas.List.Sums.{sum_by-cons}
use Rattle.snap_usage.specs.Counted.{distinct}

no_bool : true ≡ false → ⊥
no_bool e = cc

-- one where the test holds
abbrev one_if : Bool → ℕ
one_if b = cond b 1 0

-- one for the number itself
abbrev pub one_at : ℕ → ℕ → ℕ
one_at k j = cond (j == k) 1 0

-- how often a number stands in a list
abbrev pub occurs : ℕ → List ℕ → ℕ
occurs k ks = sum_by (one_at k) ks

-- the number is in the list
abbrev pub found : ℕ → List ℕ → Bool
found k ks = list_any (λ j. j == k) ks

one_itself : (k : ℕ) → one_at k k ≡ 1
one_itself k = grind (arith, nat_tests)

occurs-cons : (k x : ℕ) (xs : List ℕ) → occurs k (x ∷ xs) ≡ one_at k x + occurs k xs
occurs-cons k x xs = sum_by-cons (one_at k) x xs

-- the list without the number where it stands first
abbrev remove_one : ℕ → List ℕ → List ℕ
remove_one k [] = []
remove_one k (j ∷ js) = cond (j == k) js (j ∷ remove_one k js)

equal_if : (j k : ℕ) → (j == k) ≡ true → j ≡ k
equal_if j k e = grind (arith, nat_tests)

sum_by-remove_one : (g : ℕ → ℕ) (k : ℕ) (js : List ℕ) → (occurs k js ≡ 0 → ⊥) → sum_by g (remove_one k js) + g k ≡ sum_by g js
sum_by-remove_one g k [] some = absurd (some refl)
sum_by-remove_one g k (j ∷ js) some = by (j == k) refl (sum_by-remove_one g k js)
  where
    by : (b : Bool) → (j == k) ≡ b → ((occurs k js ≡ 0 → ⊥) → sum_by g (remove_one k js) + g k ≡ sum_by g js) → sum_by g (cond b js (j ∷ remove_one k js)) + g k ≡ sum_by g (j ∷ js)
    by true e later = omega (arith, sum_by-cons g j js, ap g (equal_if j k e))
    by false e later =
        let rest = later (λ none. some (occurs-cons k j js ∙ omega (arith, none, ap one_if e))) in
        omega (arith, rest, sum_by-cons g j js, sum_by-cons g j (remove_one k js))

-- each number stands as often in both, so each sum over both is the same
pub same_sums : (f : ℕ → ℕ) (xs ys : List ℕ) → ((k : ℕ) → occurs k xs ≡ occurs k ys) → sum_by f xs ≡ sum_by f ys
same_sums f [] [] same = refl
same_sums f [] (y ∷ ys) same = absurd (omega (arith, same y, occurs-cons y y ys, one_itself y))
same_sums f (x ∷ xs) ys same =
    let some : occurs x ys ≡ 0 → ⊥ = λ none. omega (arith, none, same x, occurs-cons x x xs, one_itself x) in
    let less : (k : ℕ) → occurs k xs ≡ occurs k (remove_one x ys) = λ k. omega (arith, sum_by-remove_one (one_at k) x ys some, same k, occurs-cons k x xs) in
    omega (arith, same_sums f xs (remove_one x ys) less, sum_by-remove_one f x ys some, sum_by-cons f x xs)

one_each : (ks : List ℕ) → sum_by (λ k. 1) ks ≡ length ks
one_each [] = refl
one_each (k ∷ ks) = omega (arith, sum_by-cons (λ j. 1) k ks, one_each ks)

pub same_lengths : (xs ys : List ℕ) → ((k : ℕ) → occurs k xs ≡ occurs k ys) → length xs ≡ length ys
same_lengths xs ys same = omega (arith, one_each xs, one_each ys, same_sums (λ k. 1) xs ys same)

-- ---- a number is in a list where it stands there at least once

pub not_found : (k : ℕ) (ks : List ℕ) → found k ks ≡ false → occurs k ks ≡ 0
not_found k [] e = refl
not_found k (x ∷ xs) e = occurs-cons k x xs ∙ by (x == k) (found k xs) e (not_found k xs)
  where
    by : (b c : Bool) → (b || c) ≡ false → (c ≡ false → occurs k xs ≡ 0) → cond b 1 0 + occurs k xs ≡ 0
    by true c e later = absurd (no_bool e)
    by false c e later = omega (arith, later e)

pub is_found : (k : ℕ) (ks : List ℕ) → found k ks ≡ true → occurs k ks ≡ 0 → ⊥
is_found k [] e none = no_bool (sym e)
is_found k (x ∷ xs) e none = by (x == k) (found k xs) e (is_found k xs) (sym (occurs-cons k x xs) ∙ none)
  where
    by : (b c : Bool) → (b || c) ≡ true → (c ≡ true → occurs k xs ≡ 0 → ⊥) → cond b 1 0 + occurs k xs ≡ 0 → ⊥
    by true c e later none = omega arith
    by false c e later none = later e (omega arith)

-- each number of a list stands once among its distinct numbers
pub occurs-distinct : (k : ℕ) (ks : List ℕ) → occurs k (distinct ks) ≡ cond (found k ks) 1 0
occurs-distinct k [] = refl
occurs-distinct k (x ∷ xs) = by (found x xs) refl (x == k) refl (occurs-distinct k xs)
  where
    by : (b : Bool) → found x xs ≡ b → (c : Bool) → (x == k) ≡ c → occurs k (distinct xs) ≡ cond (found k xs) 1 0 → occurs k (cond b (distinct xs) (x ∷ distinct xs)) ≡ cond (c || found k xs) 1 0
    by true e true is later = later ∙ ap one_if (subst (λ (i : ℕ). found i xs ≡ true) (equal_if x k is) e)
    by true e false is later = later
    by false e true is later =
        let absent : found k xs ≡ false = subst (λ (i : ℕ). found i xs ≡ false) (equal_if x k is) e in
        occurs-cons k x (distinct xs) ∙ omega (arith, later, ap one_if absent, ap one_if is)
    by false e false is later = occurs-cons k x (distinct xs) ∙ omega (arith, later, ap one_if is)

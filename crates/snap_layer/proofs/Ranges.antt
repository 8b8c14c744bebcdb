-- The first entry of a map past a number.
use Rattle.std.proofs.Common.{◌≡◌, ℕ, Bool, true, false, cond, List, [], ◌∷◌, Some, None, refl, sym, ap, ◌∙◌}
use Rattle.std.specs.Prelude.{find, filter, nat_lt, not, ◌&&◌, ◌==◌}
use Rattle.std.specs.declared.cmp.Ordering.TheVariants.{Less, Equal, Greater}
use Rattle.std.specs.Ordering.{nat_cmp, is_lt}
use Rattle.std.specs.Map.{keys_of}

-- a number is past the other exactly where it is greater
is_past : (a k : ℕ) → (is_lt (nat_cmp a k) && not false) ≡ nat_lt a k
is_past a k = by (nat_lt a k) (a == k)
  where
    by : (b e : Bool) → (is_lt (cond b Less (cond e Equal Greater)) && not false) ≡ b
    by true e = refl
    by false true = refl
    by false false = refl

-- the first of the entries that meet the test, by the first key that meets it
pub first_past : {X : Type 0} (a : ℕ) (es : List (ℕ × X)) (x : ℕ × X) (rest : List (ℕ × X)) → filter (λ (e : ℕ × X). is_lt (nat_cmp a e.0) && not false) es ≡ x ∷ rest → find (λ k. nat_lt a k) (keys_of es) ≡ Some x.0
first_past a [] x rest e = absurd (cc)
first_past {X} a (y ∷ es) x rest e = by (is_lt (nat_cmp a y.0) && not false) (is_past a y.0) e (first_past a es x rest)
  where
    by : (b : Bool) → b ≡ nat_lt a y.0 → cond b (y ∷ filter (λ (e : ℕ × X). is_lt (nat_cmp a e.0) && not false) es) (filter (λ (e : ℕ × X). is_lt (nat_cmp a e.0) && not false) es) ≡ x ∷ rest
        → (filter (λ (e : ℕ × X). is_lt (nat_cmp a e.0) && not false) es ≡ x ∷ rest → find (λ k. nat_lt a k) (keys_of es) ≡ Some x.0)
        → cond (nat_lt a y.0) (Some y.0) (find (λ k. nat_lt a k) (keys_of es)) ≡ Some x.0
    by true test is later = ap (λ b. cond b (Some y.0) (find (λ k. nat_lt a k) (keys_of es))) (sym test) ∙ (let same : y ≡ x = cc in ap (λ (z : ℕ × X). Some z.0) same)
    by false test is later = ap (λ b. cond b (Some y.0) (find (λ k. nat_lt a k) (keys_of es))) (sym test) ∙ later is

-- where none meets it, no key does
pub none_past : {X : Type 0} (a : ℕ) (es : List (ℕ × X)) → filter (λ (e : ℕ × X). is_lt (nat_cmp a e.0) && not false) es ≡ [] → find (λ k. nat_lt a k) (keys_of es) ≡ None
none_past a [] e = refl
none_past {X} a (y ∷ es) e = by (is_lt (nat_cmp a y.0) && not false) (is_past a y.0) e (none_past a es)
  where
    by : (b : Bool) → b ≡ nat_lt a y.0 → cond b (y ∷ filter (λ (e : ℕ × X). is_lt (nat_cmp a e.0) && not false) es) (filter (λ (e : ℕ × X). is_lt (nat_cmp a e.0) && not false) es) ≡ []
        → (filter (λ (e : ℕ × X). is_lt (nat_cmp a e.0) && not false) es ≡ [] → find (λ k. nat_lt a k) (keys_of es) ≡ None)
        → cond (nat_lt a y.0) (Some y.0) (find (λ k. nat_lt a k) (keys_of es)) ≡ None
    by true test is later = absurd (cc)
    by false test is later = ap (λ b. cond b (Some y.0) (find (λ k. nat_lt a k) (keys_of es))) (sym test) ∙ later is

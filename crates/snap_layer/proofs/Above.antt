-- The bodies whose numbers are above a number: what a pass over the numbers has left.
use Rattle.std.proofs.Common.{◌≡◌, ℕ, ◌<◌, ◌≤◌, Bool, true, false, cond, [], ◌∷◌, Option, Some, None, IsSome, refl, sym, ap, subst, ◌∙◌, arith}
use Rattle.std.specs.Prelude.{filter, is_some, nat_lt, find}
use Rattle.std.specs.declared.cmp.Ordering.TheVariants.{Less}
use Rattle.std.specs.Ordering.{nat_cmp}
use Rattle.std.specs.Cmp.{nat_cmp_total, nat_cmp_is}
use Rattle.std.specs.FinMap.{nat_cmp-IsAntisymmetric}
use Rattle.std.specs.List.{AllByRecursion}
use Rattle.std.specs.List.Sorted.{IsStrictlySortedBy}
use Rattle.std.specs.Map.{lookup, keys_of}
use Rattle.std.specs.BTreeMap.{is_at}
use Rattle.std.proofs.lemmas.Bool.{cond-true, cond-false}
use Rattle.std.proofs.lemmas.Bool.Decides.{nat_tests}
use Rattle.std.proofs.lemmas.Grind.{common_steps}
use Rattle.snap_layer.specs.declared.node.Body.{Body}
use Rattle.snap_layer.specs.Tree.{Bodies}
use Rattle.snap_layer.proofs.Lists.{at_itself, apart_from}

-- the bodies whose numbers are above the number
abbrev pub above : ℕ → Bodies → Bodies
above n bs = filter (λ e. nat_lt n e.0) bs

no_some : (k : ℕ) → Some k ≡ None → ⊥
no_some k e = cc

no_none : (k : ℕ) → None ≡ Some k → ⊥
no_none k e = cc

less_than : (j k : ℕ) → nat_cmp j k ≡ Less → j < k
less_than j k e = grind (arith, common_steps)

above_test : (j k : ℕ) → j < k → nat_lt j k ≡ true
above_test j k h = grind (arith, nat_tests)

not_above_test : (j k : ℕ) → k ≤ j → nat_lt j k ≡ false
not_above_test j k h = grind (arith, nat_tests)

-- numbers that all are above one number are above a lower one
above_all : (n m : ℕ) (bs : Bodies) → n ≤ m → AllByRecursion (λ j. nat_cmp m j ≡ Less) (keys_of bs) → above n bs ≡ bs
above_all n m [] low a = refl
above_all n m (e ∷ bs) low a =
    cond-true (nat_lt n e.0) _ _ (above_test n e.0 (omega (arith, less_than m e.0 a.0)))
    ∙ ap (λ (l : Bodies). e ∷ l) (above_all n m bs low a.1)

-- each number of a body is above 0
pub above_zero : (bs : Bodies) → AllByRecursion (λ j. nat_cmp 0 j ≡ Less) (keys_of bs) → above 0 bs ≡ bs
above_zero bs a = above_all 0 0 bs (omega arith) a

-- no number is left
pub above_none : (n : ℕ) (bs : Bodies) → find (λ k. nat_lt n k) (keys_of bs) ≡ None → above n bs ≡ []
above_none n [] e = refl
above_none n (x ∷ bs) e = by (nat_lt n x.0) e (above_none n bs)
  where
    by : (b : Bool) → cond b (Some x.0) (find (λ k. nat_lt n k) (keys_of bs)) ≡ None → (find (λ k. nat_lt n k) (keys_of bs) ≡ None → above n bs ≡ []) → cond b (x ∷ above n bs) (above n bs) ≡ []
    by true e later = absurd (no_some x.0 e)
    by false e later = later e

-- a body, which is the next that is left
pub record Next (n k : ℕ) (bs : Bodies) : Type 0 where
  pub body : Body
  pub there : lookup (is_at (nat_cmp k)) bs ≡ Some body
  pub left : above n bs ≡ (k, body) ∷ above k bs
  pub higher : n < k

pub above_next : (n k : ℕ) (bs : Bodies) → IsStrictlySortedBy nat_cmp (keys_of bs) → find (λ j. nat_lt n j) (keys_of bs) ≡ Some k → Next n k bs
unfolding IsStrictlySortedBy
above_next n k [] sorted e = absurd (no_none k e)
above_next n k (x ∷ bs) sorted e = by (nat_lt n x.0) refl e (above_next n k bs sorted.1)
  where
    by : (b : Bool) → nat_lt n x.0 ≡ b → cond b (Some x.0) (find (λ j. nat_lt n j) (keys_of bs)) ≡ Some k → (find (λ j. nat_lt n j) (keys_of bs) ≡ Some k → Next n k bs) → Next n k (x ∷ bs)
    by true test e later =
        let same : x.0 ≡ k = cc in
        let up : n < x.0 = grind (arith, nat_tests) in
        subst (λ (i : ℕ). Next n i (x ∷ bs)) same (record {
          body = x.1;
          there = cond-true _ _ _ (at_itself nat_cmp_total nat_cmp-IsAntisymmetric x.0);
          left =
              cond-true (nat_lt n x.0) _ _ test
              ∙ ap (λ (l : Bodies). x ∷ l) (above_all n x.0 bs (omega (arith, up)) sorted.0 ∙ sym (above_all x.0 x.0 bs (omega arith) sorted.0))
              ∙ ap (λ (l : Bodies). x ∷ l) (sym (cond-false (nat_lt x.0 x.0) _ _ (not_above_test x.0 x.0 (omega arith))));
          higher = up;
        })
    by false test e later =
        let next = later e in
        let down : x.0 ≤ n = grind (arith, nat_tests) in
        record {
          body = next.body;
          there = cond-false _ _ _ (apart_from nat_cmp_total nat_cmp-IsAntisymmetric k x.0 (λ same. omega (arith, same, down, next.higher))) ∙ next.there;
          left =
              cond-false (nat_lt n x.0) _ _ test
              ∙ next.left
              ∙ ap (λ (l : Bodies). (k, next.body) ∷ l) (sym (cond-false (nat_lt k x.0) _ _ (not_above_test k x.0 (omega (arith, down, next.higher)))));
          higher = next.higher;
        }

-- each number is above 0
pub starts_above_zero : (bs : Bodies) → ((k : ℕ) → IsSome (lookup (is_at (nat_cmp k)) bs) → 1 ≤ k) → AllByRecursion (λ j. nat_cmp 0 j ≡ Less) (keys_of bs)
starts_above_zero [] low = tt
starts_above_zero (e ∷ bs) low = (
  sym (nat_cmp_is 0 e.0 Less (low e.0 (ap is_some (cond-true _ (Some e.1) _ (at_itself nat_cmp_total nat_cmp-IsAntisymmetric e.0))))),
  starts_above_zero bs (λ k some. low k (later (is_at (nat_cmp k) e.0) (lookup (is_at (nat_cmp k)) bs) some)),
)
  where
    later : (b : Bool) (o : Option Body) → IsSome o → IsSome (cond b (Some e.1) o)
    later true o some = refl
    later false o some = some

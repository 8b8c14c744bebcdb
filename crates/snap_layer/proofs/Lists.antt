-- Lists of entries in the order of their keys: what is found in them after a change, and their order.
use Rattle.std.proofs.Common.{◌≡◌, ℕ, ◌+◌, Bool, true, false, cond, not, List, [], ◌∷◌, Option, Some, None, refl, sym, ap, subst, ◌∙◌, ◌⊎◌, inl, inr, arith}
use Rattle.std.specs.Prelude.{T, filter, ◌&&◌}
use Rattle.std.specs.declared.cmp.Ordering.{Ordering}
use Rattle.std.specs.declared.cmp.Ordering.TheVariants.{Less, Equal, Greater}
use Rattle.std.specs.Ordering.{is_eq, is_lt, match_ordering, ordering_reverse}
use Rattle.std.specs.Cmp.{IsTotalOrder}
use Rattle.std.specs.FinMap.{IsAntisymmetric}
use Rattle.std.specs.FinMap.Entries.{find, is_sorted, below_all, same_entries}
use Rattle.std.specs.Map.{lookup, remove_entry, keys_of, values_of}
use Rattle.std.specs.List.{AllByRecursion, sum_by}
use Rattle.std.specs.List.Sorted.{IsStrictlySortedBy}
use Rattle.std.specs.BTreeMap.{is_at, insert_entry}
use Rattle.std.proofs.lemmas.Cmp.{tied_itself}
use Rattle.std.proofs.lemmas.Bool.{cond-true, cond-false}
use Rattle.std.proofs.lemmas.List.Sums.{sum_by-cons}
use Rattle.std.proofs.lemmas.Map.Entries.{lookup-filter-keys}

no_bool : true ≡ false → ⊥
no_bool e = cc

both : (a b : Bool) → a ≡ true → T b → T (a && b)
both true b e t = t
both false b e t = absurd (no_bool (sym e))

-- two keys are one, or they differ
pub split_key : {K : Type 0} {R : K → K → Ordering} → IsTotalOrder R → IsAntisymmetric R → (x y : K) → ((x ≡ y) × (is_at (R x) y ≡ true)) ⊎ ((y ≡ x → ⊥) × (is_at (R x) y ≡ false))
split_key {R = R} o exact x y =
    elim (R x y) as (λ r. R x y ≡ r → ((x ≡ y) × (is_eq r ≡ true)) ⊎ ((y ≡ x → ⊥) × (is_eq r ≡ false))) [
      | Less ↦ λ e. inr (λ same. differs Less (λ p. cc) (subst (λ z. R x z ≡ Less) same e), refl)
      | Equal ↦ λ e. inl (exact x y e, refl)
      | Greater ↦ λ e. inr (λ same. differs Greater (λ p. cc) (subst (λ z. R x z ≡ Greater) same e), refl)
    ] refl
  where
    differs : (r : Ordering) → (r ≡ Equal → ⊥) → R x x ≡ r → ⊥
    differs r apart e = apart (sym e ∙ tied_itself o x)

module _ {K : Type 0} {R : K → K → Ordering} (o : IsTotalOrder R) (exact : IsAntisymmetric R) where
  pub at_itself : (k : K) → is_at (R k) k ≡ true
  at_itself k = ap is_eq (tied_itself o k)

  pub same_from : (x y : K) → is_at (R x) y ≡ true → x ≡ y
  same_from x y e = elim (split_key o exact x y) [ inl same ↦ same.0 | inr apart ↦ absurd (no_bool (sym e ∙ apart.1)) ]

  pub apart_from : (x y : K) → (y ≡ x → ⊥) → is_at (R x) y ≡ false
  apart_from x y apart = elim (split_key o exact x y) [ inl same ↦ absurd (apart (sym same.0)) | inr other ↦ other.1 ]

module _ {K : Type 0} {R : K → K → Ordering} (o : IsTotalOrder R) where
  all_above : (k x : K) (ks : List K) → R k x ≡ Less → AllByRecursion (λ y. R x y ≡ Less) ks → AllByRecursion (λ y. R k y ≡ Less) ks
  all_above k x [] e a = tt
  all_above k x (y ∷ ks) e a = (o.trans k x y e a.0, all_above k x ks e a.1)

module _ {X : Type 0} where
  twice : (b : Bool) (v e : Option X) (l : Option X) → cond b v l ≡ cond b v (cond b e l)
  twice true v e l = refl
  twice false v e l = refl

  neither : (b : Bool) → ◌≡◌ {A = Option X} None (cond b None None)
  neither true = refl
  neither false = refl

  swapped : (b c : Bool) (v e l : Option X) → (b ≡ true → c ≡ true → ⊥) → cond c e (cond b v l) ≡ cond b v (cond c e l)
  swapped true true v e l never = absurd (never refl refl)
  swapped true false v e l never = refl
  swapped false c v e l never = refl

-- ---- the order of the keys

module _ {K X : Type 0} (R : K → K → Ordering) where
  all_insert : (P : K → Type 0) (es : List (K × X)) (k : K) (v : X) → P k → AllByRecursion P (keys_of es) → AllByRecursion P (keys_of (insert_entry R es k v))
  all_insert P [] k v h a = (h, tt)
  all_insert P (e ∷ es) k v h a = by (R k e.0) (all_insert P es k v h a.1)
    where
      by : (r : Ordering) → AllByRecursion P (keys_of (insert_entry R es k v)) → AllByRecursion P (keys_of (match_ordering r ((k, v) ∷ e ∷ es) ((e.0, v) ∷ es) (e ∷ insert_entry R es k v)))
      by Less later = (h, a)
      by Equal later = a
      by Greater later = (a.0, later)

  all_filter : (P : K → Type 0) (p : K × X → Bool) (es : List (K × X)) → AllByRecursion P (keys_of es) → AllByRecursion P (keys_of (filter p es))
  all_filter P p [] a = tt
  all_filter P p (e ∷ es) a = elim (p e) as (λ b. AllByRecursion P (keys_of (cond b (e ∷ filter p es) (filter p es)))) [ true ↦ (a.0, all_filter P p es a.1) | false ↦ all_filter P p es a.1 ]

  pub sorted-filter : (p : K × X → Bool) (es : List (K × X)) → IsStrictlySortedBy R (keys_of es) → IsStrictlySortedBy R (keys_of (filter p es))
  unfolding IsStrictlySortedBy
  sorted-filter p [] s = tt
  sorted-filter p (e ∷ es) s = elim (p e) as (λ b. IsStrictlySortedBy R (keys_of (cond b (e ∷ filter p es) (filter p es)))) [ true ↦ (all_filter (λ y. R e.0 y ≡ Less) p es s.0, sorted-filter p es s.1) | false ↦ sorted-filter p es s.1 ]

  all_remove : (P : K → Type 0) (test : K → Bool) (es : List (K × X)) → AllByRecursion P (keys_of es) → AllByRecursion P (keys_of (remove_entry test es))
  all_remove P test [] a = tt
  all_remove P test (e ∷ es) a = elim (test e.0) as (λ b. AllByRecursion P (keys_of (cond b es (e ∷ remove_entry test es)))) [ true ↦ a.1 | false ↦ (a.0, all_remove P test es a.1) ]

  pub sorted-remove_entry : (test : K → Bool) (es : List (K × X)) → IsStrictlySortedBy R (keys_of es) → IsStrictlySortedBy R (keys_of (remove_entry test es))
  unfolding IsStrictlySortedBy
  sorted-remove_entry test [] s = tt
  sorted-remove_entry test (e ∷ es) s = elim (test e.0) as (λ b. IsStrictlySortedBy R (keys_of (cond b es (e ∷ remove_entry test es)))) [ true ↦ s.1 | false ↦ (all_remove (λ y. R e.0 y ≡ Less) test es s.0, sorted-remove_entry test es s.1) ]

module _ {K X : Type 0} {R : K → K → Ordering} (o : IsTotalOrder R) where
  pub sorted-insert_entry : (es : List (K × X)) (k : K) (v : X) → IsStrictlySortedBy R (keys_of es) → IsStrictlySortedBy R (keys_of (insert_entry R es k v))
  unfolding IsStrictlySortedBy
  sorted-insert_entry [] k v s = (tt, tt)
  sorted-insert_entry (e ∷ es) k v s = by (R k e.0) refl (sorted-insert_entry es k v s.1)
    where
      by : (r : Ordering) → R k e.0 ≡ r → IsStrictlySortedBy R (keys_of (insert_entry R es k v)) → IsStrictlySortedBy R (keys_of (match_ordering r ((k, v) ∷ e ∷ es) ((e.0, v) ∷ es) (e ∷ insert_entry R es k v)))
      by Less p later = ((p, all_above o k e.0 (keys_of es) p s.0), s)
      by Equal p later = s
      by Greater p later = (all_insert R (λ y. R e.0 y ≡ Less) es k v (o.antisymm e.0 k ∙ ap ordering_reverse p) s.0, later)

-- ---- what is found

module _ {K X : Type 0} {R : K → K → Ordering} (o : IsTotalOrder R) (exact : IsAntisymmetric R) where
  pub lookup-insert_entry : (es : List (K × X)) (k : K) (v : X) (q : K) → lookup (is_at (R q)) (insert_entry R es k v) ≡ cond (is_at (R q) k) (Some v) (lookup (is_at (R q)) es)
  lookup-insert_entry [] k v q = refl
  lookup-insert_entry (e ∷ es) k v q = by (R k e.0) refl (lookup-insert_entry es k v q)
    where
      not_both : R k e.0 ≡ Greater → is_at (R q) k ≡ true → is_at (R q) e.0 ≡ true → ⊥
      not_both p a b =
          let one : k ≡ e.0 = sym (same_from o exact q k a) ∙ same_from o exact q e.0 b in
          let tied : R k e.0 ≡ Equal = subst (λ z. R k z ≡ Equal) one (tied_itself o k) in
          no_bool (ap is_eq (sym tied ∙ p))

      by : (r : Ordering) → R k e.0 ≡ r → lookup (is_at (R q)) (insert_entry R es k v) ≡ cond (is_at (R q) k) (Some v) (lookup (is_at (R q)) es)
          → lookup (is_at (R q)) (match_ordering r ((k, v) ∷ e ∷ es) ((e.0, v) ∷ es) (e ∷ insert_entry R es k v)) ≡ cond (is_at (R q) k) (Some v) (cond (is_at (R q) e.0) (Some e.1) (lookup (is_at (R q)) es))
      by Less p later = refl
      by Equal p later = subst (λ z. cond (is_at (R q) z) (Some v) (lookup (is_at (R q)) es) ≡ cond (is_at (R q) k) (Some v) (cond (is_at (R q) z) (Some e.1) (lookup (is_at (R q)) es))) (exact k e.0 p) (twice (is_at (R q) k) (Some v) (Some e.1) (lookup (is_at (R q)) es))
      by Greater p later = ap (λ l. cond (is_at (R q) e.0) (Some e.1) l) later ∙ swapped (is_at (R q) k) (is_at (R q) e.0) (Some v) (Some e.1) (lookup (is_at (R q)) es) (not_both p)

  -- among the entries whose keys pass a test
  pub lookup-filter : (p : K → Bool) (q : K) (es : List (K × X)) → lookup (is_at (R q)) (filter (λ e. p e.0) es) ≡ cond (p q) (lookup (is_at (R q)) es) None
  lookup-filter p q es = lookup-filter-keys (is_at (R q)) p (p q) (λ k same. ap p (sym (same_from o exact q k same))) es

  -- an entry put where none was, and taken again
  pub remove-insert_entry : (es : List (K × X)) (k : K) (v : X) → lookup (is_at (R k)) es ≡ None → remove_entry (is_at (R k)) (insert_entry R es k v) ≡ es
  remove-insert_entry [] k v none = cond-true (is_at (R k) k) [] _ (at_itself o exact k)
  remove-insert_entry (e ∷ es) k v none = by (R k e.0) refl none (remove-insert_entry es k v)
    where
      by : (r : Ordering) → R k e.0 ≡ r → cond (is_eq r) (Some e.1) (lookup (is_at (R k)) es) ≡ None → (lookup (is_at (R k)) es ≡ None → remove_entry (is_at (R k)) (insert_entry R es k v) ≡ es)
          → remove_entry (is_at (R k)) (match_ordering r ((k, v) ∷ e ∷ es) ((e.0, v) ∷ es) (e ∷ insert_entry R es k v)) ≡ e ∷ es
      by Less p gone later = cond-true (is_at (R k) k) (e ∷ es) _ (at_itself o exact k)
      by Equal p gone later = absurd (cc)
      by Greater p gone later = cond-false (is_at (R k) e.0) _ (e ∷ remove_entry (is_at (R k)) (insert_entry R es k v)) (ap is_eq p) ∙ ap (λ l. e ∷ l) (later gone)

  -- a key below all others is not found among them
  pub lookup_below : (q : K) (es : List (K × X)) → AllByRecursion (λ y. R q y ≡ Less) (keys_of es) → lookup (is_at (R q)) es ≡ None
  lookup_below q [] a = refl
  lookup_below q (e ∷ es) a = cond-false _ _ _ (ap is_eq a.0) ∙ lookup_below q es a.1

  pub lookup-remove_entry : (k q : K) (es : List (K × X)) → IsStrictlySortedBy R (keys_of es) → lookup (is_at (R q)) (remove_entry (is_at (R k)) es) ≡ cond (is_at (R q) k) None (lookup (is_at (R q)) es)
  unfolding IsStrictlySortedBy
  lookup-remove_entry k q [] s = neither (is_at (R q) k)
  lookup-remove_entry k q (e ∷ es) s = elim (split_key o exact k e.0) [
    | inl same ↦
        ap (λ l. lookup (is_at (R q)) l) (cond-true _ es (e ∷ remove_entry (is_at (R k)) es) same.1)
        ∙ elim (split_key o exact q k) [
          | inl here ↦
              lookup_below q es (subst (λ z. AllByRecursion (λ y. R z y ≡ Less) (keys_of es)) (sym (here.0 ∙ same.0)) s.0)
              ∙ sym (cond-true _ None _ here.1)
          | inr other ↦
              sym (cond-false _ None _ other.1 ∙ cond-false (is_at (R q) e.0) (Some e.1) _ (ap (is_at (R q)) (sym same.0) ∙ other.1))
        ]
    | inr apart ↦
        ap (λ l. lookup (is_at (R q)) l) (cond-false _ es (e ∷ remove_entry (is_at (R k)) es) apart.1)
        ∙ ap (λ l. cond (is_at (R q) e.0) (Some e.1) l) (lookup-remove_entry k q es s.1)
        ∙ swapped (is_at (R q) k) (is_at (R q) e.0) None (Some e.1) (lookup (is_at (R q)) es) (λ a b. apart.0 (sym (same_from o exact q e.0 b) ∙ same_from o exact q k a))
  ]

  -- ---- lists in order in which the same is found are equal

  lookup_find : (q : K) (es : List (K × X)) → find R q es ≡ lookup (is_at (R q)) es
  lookup_find q [] = refl
  lookup_find q (e ∷ es) = ap (λ l. cond (is_eq (R q e.0)) (Some e.1) l) (lookup_find q es)

  rises_above : (k : K) (es : List (K × X)) → AllByRecursion (λ y. R k y ≡ Less) (keys_of es) → T (below_all R k es)
  rises_above k [] a = tt
  rises_above k (e ∷ es) a = both _ _ (ap is_lt a.0) (rises_above k es a.1)

  rises : (es : List (K × X)) → IsStrictlySortedBy R (keys_of es) → T (is_sorted R es)
  unfolding IsStrictlySortedBy
  rises [] s = tt
  rises (e ∷ es) s = pair _ _ (rises_above e.0 es s.0) (rises es s.1)
    where
      pair : (a b : Bool) → T a → T b → T (a && b)
      pair true b s t = t
      pair false b s t = absurd s

  pub same_lists : (es fs : List (K × X)) → IsStrictlySortedBy R (keys_of es) → IsStrictlySortedBy R (keys_of fs) → ((q : K) → lookup (is_at (R q)) es ≡ lookup (is_at (R q)) fs) → es ≡ fs
  same_lists es fs s r same = same_entries R o exact es fs (rises es s) (rises fs r) (λ q. lookup_find q es ∙ same q ∙ sym (lookup_find q fs))

-- ---- sums

module _ {K X : Type 0} (f : X → ℕ) where
  sum_of_entry : (e : K × X) (es : List (K × X)) → sum_by f (values_of (e ∷ es)) ≡ f e.1 + sum_by f (values_of es)
  sum_of_entry e es = sum_by-cons f e.1 (values_of es)

  -- the entries that pass, and those that don't
  pub sum_by-filter : (p : K × X → Bool) (es : List (K × X)) → sum_by f (values_of (filter p es)) + sum_by f (values_of (filter (λ e. not (p e)) es)) ≡ sum_by f (values_of es)
  sum_by-filter p [] = refl
  sum_by-filter p (e ∷ es) = by (p e) (sum_by-filter p es)
    where
      by : (b : Bool) → sum_by f (values_of (filter p es)) + sum_by f (values_of (filter (λ x. not (p x)) es)) ≡ sum_by f (values_of es)
          → sum_by f (values_of (cond b (e ∷ filter p es) (filter p es))) + sum_by f (values_of (cond (not b) (e ∷ filter (λ x. not (p x)) es) (filter (λ x. not (p x)) es))) ≡ sum_by f (values_of (e ∷ es))
      by true later = omega (arith, later, sum_of_entry e es, sum_of_entry e (filter p es))
      by false later = omega (arith, later, sum_of_entry e es, sum_of_entry e (filter (λ x. not (p x)) es))

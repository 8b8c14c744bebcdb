-- What an entry put among others in order adds to what is read of them.
use Rattle.std.proofs.Common.{◌≡◌, cond, List, [], ◌∷◌, ◌++◌, map, Option, Some, None, refl, sym, ap, ◌∙◌}
use Rattle.std.specs.Prelude.{filter_map}
use Rattle.std.specs.declared.cmp.Ordering.{Ordering}
use Rattle.std.specs.declared.cmp.Ordering.TheVariants.{Less, Equal, Greater}
use Rattle.std.specs.Ordering.{is_eq, match_ordering, ordering_reverse}
use Rattle.std.specs.Cmp.{IsTotalOrder}
use Rattle.std.specs.List.{AllByRecursion, cons_option}
use Rattle.std.specs.List.Sorted.{IsStrictlySortedBy}
use Rattle.std.specs.Map.{lookup, keys_of}
use Rattle.std.specs.BTreeMap.{is_at, insert_entry}

no_none : {X : Type 0} (x : X) → Some x ≡ None → ⊥
no_none x e = cc

no_less : Less ≡ Greater → ⊥
no_less e = cc

cons_append : {X : Type 0} (o : Option X) (xs ys : List X) → cons_option o (xs ++ ys) ≡ cons_option o xs ++ ys
cons_append None xs ys = refl
cons_append (Some x) xs ys = refl

all_past : {X : Type 0} (P : X → Type 0) (o : Option X) (xs : List X) → AllByRecursion P (cons_option o xs) → AllByRecursion P xs
all_past P None xs a = a
all_past P (Some x) xs a = a.1

-- what holds of what a function gives
pub all_mapped : {X Y : Type 0} (P : Y → Type 0) (f : X → Y) (xs : List X) → AllByRecursion P (map f xs) → AllByRecursion (λ x. P (f x)) xs
all_mapped P f [] a = tt
all_mapped P f (x ∷ xs) a = (a.0, all_mapped P f xs a.1)

-- of keys in order each comes before those after it
module _ {K : Type 0} (R : K → K → Ordering) where
  pub all_before : (xs : List K) (x : K) (ys : List K) → IsStrictlySortedBy R (xs ++ x ∷ ys) → AllByRecursion (λ y. R y x ≡ Less) xs
  unfolding IsStrictlySortedBy
  all_before [] x ys s = tt
  all_before (y ∷ xs) x ys s = (member xs s.0, all_before xs x ys s.1)
    where
      member : (zs : List K) → AllByRecursion (λ z. R y z ≡ Less) (zs ++ x ∷ ys) → R y x ≡ Less
      member [] a = a.0
      member (z ∷ zs) a = member zs a.1

module _ {K : Type 0} {R : K → K → Ordering} (order : IsTotalOrder R) where
  above_all : (k y : K) (ks : List K) → R k y ≡ Less → AllByRecursion (λ z. R y z ≡ Less) ks → AllByRecursion (λ z. R k z ≡ Less) ks
  above_all k y [] e a = tt
  above_all k y (z ∷ ks) e a = (order.trans k y z e a.0, above_all k y ks e a.1)

module _ {K V : Type 0} {R : K → K → Ordering} (order : IsTotalOrder R) where
  -- an entry whose key comes after all others stands last
  pub insert_last : (es : List (K × V)) (k : K) (v : V) → AllByRecursion (λ y. R y k ≡ Less) (keys_of es) → insert_entry R es k v ≡ es ++ (k, v) ∷ []
  insert_last [] k v before = refl
  insert_last (e ∷ es) k v before =
      ap (λ (r : Ordering). match_ordering r ((k, v) ∷ e ∷ es) ((e.0, v) ∷ es) (e ∷ insert_entry R es k v)) (order.antisymm k e.0 ∙ ap ordering_reverse before.0)
      ∙ ap (λ (l : List (K × V)). e ∷ l) (insert_last es k v before.1)

  module _ {X : Type 0} (h : K × V → Option X) where
    -- an entry of which nothing is read
    pub read_same : (es : List (K × V)) (k : K) (v : V) → h (k, v) ≡ None → lookup (is_at (R k)) es ≡ None → filter_map h (insert_entry R es k v) ≡ filter_map h es
    read_same [] k v nothing free = ap (λ (x : Option X). cons_option x []) nothing
    read_same (e ∷ es) k v nothing free = by (R k e.0) free (read_same es k v nothing)
      where
        by : (r : Ordering) → cond (is_eq r) (Some e.1) (lookup (is_at (R k)) es) ≡ None → (lookup (is_at (R k)) es ≡ None → filter_map h (insert_entry R es k v) ≡ filter_map h es)
            → filter_map h (match_ordering r ((k, v) ∷ e ∷ es) ((e.0, v) ∷ es) (e ∷ insert_entry R es k v)) ≡ cons_option (h e) (filter_map h es)
        by Less f later = ap (λ (x : Option X). cons_option x (cons_option (h e) (filter_map h es))) nothing
        by Equal f later = absurd (no_none e.1 f)
        by Greater f later = ap (λ (l : List X). cons_option (h e) l) (later f)

    module _ (key : X → K) (keyed : (e : K × V) (x : X) → h e ≡ Some x → key x ≡ e.0) where
      -- nothing is read of entries after k, where all that is read comes before it
      none_read : (k : K) (es : List (K × V)) → AllByRecursion (λ y. R k y ≡ Less) (keys_of es) → AllByRecursion (λ x. R (key x) k ≡ Less) (filter_map h es) → filter_map h es ≡ []
      none_read k [] after before = refl
      none_read k (e ∷ es) after before = by (h e) refl before (none_read k es after.1)
        where
          by : (o : Option X) → h e ≡ o → AllByRecursion (λ x. R (key x) k ≡ Less) (cons_option o (filter_map h es)) → (AllByRecursion (λ x. R (key x) k ≡ Less) (filter_map h es) → filter_map h es ≡ []) → cons_option o (filter_map h es) ≡ []
          by None is b later = later b
          by (Some x) is b later = absurd (no_less (sym after.0 ∙ order.antisymm k e.0 ∙ ap ordering_reverse (ap (λ (y : K). R y k) (sym (keyed e x is)) ∙ b.0)))

      -- an entry that comes after all that is read is read last
      pub read_last : (es : List (K × V)) (k : K) (v : V) (x : X) → h (k, v) ≡ Some x → lookup (is_at (R k)) es ≡ None → IsStrictlySortedBy R (keys_of es) → AllByRecursion (λ y. R (key y) k ≡ Less) (filter_map h es) → filter_map h (insert_entry R es k v) ≡ filter_map h es ++ x ∷ []
      unfolding IsStrictlySortedBy
      read_last [] k v x is free sorted before = ap (λ (y : Option X). cons_option y []) is
      read_last (e ∷ es) k v x is free sorted before = by (R k e.0) refl free (λ f. read_last es k v x is f sorted.1 (all_past (λ y. R (key y) k ≡ Less) (h e) (filter_map h es) before))
        where
          by : (r : Ordering) → R k e.0 ≡ r → cond (is_eq r) (Some e.1) (lookup (is_at (R k)) es) ≡ None → (lookup (is_at (R k)) es ≡ None → filter_map h (insert_entry R es k v) ≡ filter_map h es ++ x ∷ [])
              → filter_map h (match_ordering r ((k, v) ∷ e ∷ es) ((e.0, v) ∷ es) (e ∷ insert_entry R es k v)) ≡ cons_option (h e) (filter_map h es) ++ x ∷ []
          by Less p f later =
              let none : cons_option (h e) (filter_map h es) ≡ [] = none_read k (e ∷ es) (p, above_all order k e.0 (keys_of es) p sorted.0) before in
              ap (λ (y : Option X). cons_option y (cons_option (h e) (filter_map h es))) is ∙ ap (λ (l : List X). x ∷ l) none ∙ ap (λ (l : List X). l ++ x ∷ []) (sym none)
          by Equal p f later = absurd (no_none e.1 f)
          by Greater p f later = ap (λ (l : List X). cons_option (h e) l) (later f) ∙ cons_append (h e) (filter_map h es) (x ∷ [])

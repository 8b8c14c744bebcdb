-- Labels by the place of a key in their list.
use Rattle.std.proofs.Common.{◌≡◌, ℕ, ◌+◌, zero, suc, Bool, true, false, List, [], ◌∷◌, ◌++◌, length, Option, Some, None, option_map, cond, not, nat_lt, position, slice_set, slice_index_or, remove, bytes_eq, if◌then◌else◌, refl, sym, ap, ◌∙◌, arith}
use Rattle.std.specs.Option.{option_map_or}
use Rattle.std.specs.List.{prefix_len, AllByRecursion}
use Rattle.std.specs.Map.{keys_of}
use Rattle.std.proofs.lemmas.Bool.{ltb-true, ltb-false, cond_below, cond_above}
use Rattle.std.proofs.lemmas.Map.Keys.{IsDistinct-cons, IsDistinct-from_apart, IsDistinct-head, IsDistinct-tail}
use Rattle.snap_record.specs.Labels.{Bytes, Label, value_of, with_label, without_label, HasDistinctKeys}
use Rattle.snap_record.proofs.UpdateLemmas.{same, flip}

-- the place of the first label that passes, label by label
place : (Label → Bool) → List Label → Option ℕ
place p [] = None
place p (l ∷ ls) = cond (p l) (Some 0) (option_map suc (place p ls))

shifted : (n m : ℕ) → cond (nat_lt (1 + n) (suc m)) (Some (1 + n)) None ≡ option_map suc (cond (nat_lt n m) (Some n) None)
shifted n m = by (nat_lt n m) refl
  where
    by : (b : Bool) → nat_lt n m ≡ b → cond (nat_lt (1 + n) (suc m)) (Some (1 + n)) None ≡ option_map suc (cond b (Some n) None)
    by true h =
        let less = ltb-true n m h in
        let e : 1 + n ≡ suc n = omega arith in
        sym (cond_below (1 + n) (suc m) (Some (1 + n)) None (omega (arith, less))) ∙ ap Some e
    by false h =
        let more = ltb-false n m h in
        sym (cond_above (1 + n) (suc m) (Some (1 + n)) None None (omega (arith, more)) refl)

placed : (p : Label → Bool) (ls : List Label) → position p ls ≡ place p ls
unfolding place
placed p [] = refl
placed p (l ∷ ls) = by (p l) (placed p ls)
  where
    by : (b : Bool) → position p ls ≡ place p ls → cond (nat_lt (cond (not b) (1 + prefix_len (λ x. not (p x)) ls) 0) (length (l ∷ ls))) (Some (cond (not b) (1 + prefix_len (λ x. not (p x)) ls) 0)) None ≡ cond b (Some 0) (option_map suc (place p ls))
    by true rest = sym (cond_below 0 (length (l ∷ ls)) (Some 0) None (omega arith))
    by false rest = shifted (prefix_len (λ x. not (p x)) ls) (length ls) ∙ ap (option_map suc) rest

first_place : (i : ℕ) → Some 0 ≡ Some i → i ≡ 0
first_place zero e = refl
first_place (suc i) e = absurd (cc)

next_place : (o : Option ℕ) (i : ℕ) → option_map suc o ≡ Some i → (j : ℕ) × (o ≡ Some j) × (i ≡ suc j)
next_place None i e = absurd (cc)
next_place (Some j) i e = (j, refl, sym (ap (λ (o : Option ℕ). option_map_or (λ n. n) o 0) e))

no_place : (o : Option ℕ) → option_map suc o ≡ None → o ≡ None
no_place None e = refl
no_place (Some j) e = absurd (cc)

pub distinct-none : HasDistinctKeys []
distinct-none = IsDistinct-from_apart bytes_eq [] (λ i j d before within. let never : ⊥ = omega (arith, within) in absurd never)

module _ (key value : Bytes) where
  set_at : (ls : List Label) (i : ℕ) → place (λ l. bytes_eq key l.0) ls ≡ Some i → slice_set ls i (key, value) ≡ with_label ls key value
  unfolding place
  set_at [] i e = absurd (cc)
  set_at (l ∷ ls) i e = by (bytes_eq key l.0) refl (set_at ls) e
    where
      by : (b : Bool) → bytes_eq key l.0 ≡ b → ((j : ℕ) → place (λ l. bytes_eq key l.0) ls ≡ Some j → slice_set ls j (key, value) ≡ with_label ls key value) → cond b (Some 0) (option_map suc (place (λ l. bytes_eq key l.0) ls)) ≡ Some i → slice_set (l ∷ ls) i (key, value) ≡ (if b then (l.0, value) ∷ ls else l ∷ with_label ls key value)
      by true h rest first = ap (λ j. slice_set (l ∷ ls) j (key, value)) (first_place i first) ∙ ap (λ k. (k, value) ∷ ls) (same key l.0 h)
      by false h rest later = let next = next_place (place (λ l. bytes_eq key l.0) ls) i later in ap (λ j. slice_set (l ∷ ls) j (key, value)) next.2 ∙ ap (λ found. l ∷ found) (rest next.0 next.1)

  pushed : (ls : List Label) → place (λ l. bytes_eq key l.0) ls ≡ None → ls ++ (key, value) ∷ [] ≡ with_label ls key value
  unfolding place
  pushed [] e = refl
  pushed (l ∷ ls) e = by (bytes_eq key l.0) (pushed ls) e
    where
      by : (b : Bool) → (place (λ l. bytes_eq key l.0) ls ≡ None → ls ++ (key, value) ∷ [] ≡ with_label ls key value) → cond b (Some 0) (option_map suc (place (λ l. bytes_eq key l.0) ls)) ≡ None → (l ∷ ls) ++ (key, value) ∷ [] ≡ (if b then (l.0, value) ∷ ls else l ∷ with_label ls key value)
      by true rest never = absurd (cc)
      by false rest none = ap (λ found. l ∷ found) (rest (no_place (place (λ l. bytes_eq key l.0) ls) none))

  apart-with_label : (k : Bytes) (ls : List Label) → bytes_eq k key ≡ false → AllByRecursion (λ y. bytes_eq k y ≡ false) (keys_of ls) → AllByRecursion (λ y. bytes_eq k y ≡ false) (keys_of (with_label ls key value))
  apart-with_label k [] other apart = (other, tt)
  apart-with_label k (l ∷ ls) other apart = by (bytes_eq key l.0) (apart-with_label k ls other apart.1)
    where
      by : (b : Bool) → AllByRecursion (λ y. bytes_eq k y ≡ false) (keys_of (with_label ls key value)) → AllByRecursion (λ y. bytes_eq k y ≡ false) (keys_of (if b then (l.0, value) ∷ ls else l ∷ with_label ls key value))
      by true rest = apart
      by false rest = (apart.0, rest)

  pub distinct-with_label : (ls : List Label) → HasDistinctKeys ls → HasDistinctKeys (with_label ls key value)
  distinct-with_label [] distinct = IsDistinct-cons bytes_eq key [] tt distinct
  distinct-with_label (l ∷ ls) distinct = by (bytes_eq key l.0) refl (distinct-with_label ls (IsDistinct-tail bytes_eq l.0 (keys_of ls) distinct))
    where
      by : (b : Bool) → bytes_eq key l.0 ≡ b → HasDistinctKeys (with_label ls key value) → HasDistinctKeys (if b then (l.0, value) ∷ ls else l ∷ with_label ls key value)
      by true h rest = distinct
      by false h rest = IsDistinct-cons bytes_eq l.0 (keys_of (with_label ls key value))
          (apart-with_label l.0 ls (flip l.0 key ∙ h) (IsDistinct-head bytes_eq l.0 (keys_of ls) distinct))
          rest

  -- the label at the place of its key is set, or put last
  pub label_set : (ls : List Label) (i : ℕ) → position (λ l. bytes_eq key l.0) ls ≡ Some i → slice_set ls i (key, value) ≡ with_label ls key value
  label_set ls i e = set_at ls i (sym (placed (λ l. bytes_eq key l.0) ls) ∙ e)

  pub label_pushed : (ls : List Label) → position (λ l. bytes_eq key l.0) ls ≡ None → ls ++ (key, value) ∷ [] ≡ with_label ls key value
  label_pushed ls e = pushed ls (sym (placed (λ l. bytes_eq key l.0) ls) ∙ e)

module _ (key : Bytes) where
  removed_at : (ls : List Label) (i : ℕ) → place (λ l. bytes_eq key l.0) ls ≡ Some i → remove ls i ≡ without_label ls key
  unfolding place
  removed_at [] i e = absurd (cc)
  removed_at (l ∷ ls) i e = by (bytes_eq key l.0) (removed_at ls) e
    where
      by : (b : Bool) → ((j : ℕ) → place (λ l. bytes_eq key l.0) ls ≡ Some j → remove ls j ≡ without_label ls key) → cond b (Some 0) (option_map suc (place (λ l. bytes_eq key l.0) ls)) ≡ Some i → remove (l ∷ ls) i ≡ cond b ls (l ∷ without_label ls key)
      by true rest first = ap (remove (l ∷ ls)) (first_place i first)
      by false rest later = let next = next_place (place (λ l. bytes_eq key l.0) ls) i later in ap (remove (l ∷ ls)) next.2 ∙ ap (λ found. l ∷ found) (rest next.0 next.1)

  nothing_removed : (ls : List Label) → place (λ l. bytes_eq key l.0) ls ≡ None → ls ≡ without_label ls key
  unfolding place
  nothing_removed [] e = refl
  nothing_removed (l ∷ ls) e = by (bytes_eq key l.0) (nothing_removed ls) e
    where
      by : (b : Bool) → (place (λ l. bytes_eq key l.0) ls ≡ None → ls ≡ without_label ls key) → cond b (Some 0) (option_map suc (place (λ l. bytes_eq key l.0) ls)) ≡ None → l ∷ ls ≡ cond b ls (l ∷ without_label ls key)
      by true rest never = absurd (cc)
      by false rest none = ap (λ found. l ∷ found) (rest (no_place (place (λ l. bytes_eq key l.0) ls) none))

  apart-without_label : (k : Bytes) (ls : List Label) → AllByRecursion (λ y. bytes_eq k y ≡ false) (keys_of ls) → AllByRecursion (λ y. bytes_eq k y ≡ false) (keys_of (without_label ls key))
  apart-without_label k [] apart = apart
  apart-without_label k (l ∷ ls) apart = by (bytes_eq key l.0) (apart-without_label k ls apart.1)
    where
      by : (b : Bool) → AllByRecursion (λ y. bytes_eq k y ≡ false) (keys_of (without_label ls key)) → AllByRecursion (λ y. bytes_eq k y ≡ false) (keys_of (cond b ls (l ∷ without_label ls key)))
      by true rest = apart.1
      by false rest = (apart.0, rest)

  pub distinct-without_label : (ls : List Label) → HasDistinctKeys ls → HasDistinctKeys (without_label ls key)
  distinct-without_label [] distinct = distinct
  distinct-without_label (l ∷ ls) distinct =
      let rest = IsDistinct-tail bytes_eq l.0 (keys_of ls) distinct in
      by (bytes_eq key l.0) rest (distinct-without_label ls rest)
    where
      by : (b : Bool) → HasDistinctKeys ls → HasDistinctKeys (without_label ls key) → HasDistinctKeys (cond b ls (l ∷ without_label ls key))
      by true rest without = rest
      by false rest without = IsDistinct-cons bytes_eq l.0 (keys_of (without_label ls key)) (apart-without_label l.0 ls (IsDistinct-head bytes_eq l.0 (keys_of ls) distinct)) without

  found_at : (ls : List Label) (i : ℕ) (d : Label) → place (λ l. bytes_eq key l.0) ls ≡ Some i → Some (slice_index_or ls i d).1 ≡ value_of ls key
  unfolding place
  found_at [] i d e = absurd (cc)
  found_at (l ∷ ls) i d e = by (bytes_eq key l.0) (λ j. found_at ls j d) e
    where
      by : (b : Bool) → ((j : ℕ) → place (λ l. bytes_eq key l.0) ls ≡ Some j → Some (slice_index_or ls j d).1 ≡ value_of ls key) → cond b (Some 0) (option_map suc (place (λ l. bytes_eq key l.0) ls)) ≡ Some i → Some (slice_index_or (l ∷ ls) i d).1 ≡ cond b (Some l.1) (value_of ls key)
      by true rest first = ap (λ j. Some (slice_index_or (l ∷ ls) j d).1) (first_place i first)
      by false rest later = let next = next_place (place (λ l. bytes_eq key l.0) ls) i later in ap (λ j. Some (slice_index_or (l ∷ ls) j d).1) next.2 ∙ rest next.0 next.1

  not_found : (ls : List Label) → place (λ l. bytes_eq key l.0) ls ≡ None → None ≡ value_of ls key
  unfolding place
  not_found [] e = refl
  not_found (l ∷ ls) e = by (bytes_eq key l.0) (not_found ls) e
    where
      by : (b : Bool) → (place (λ l. bytes_eq key l.0) ls ≡ None → None ≡ value_of ls key) → cond b (Some 0) (option_map suc (place (λ l. bytes_eq key l.0) ls)) ≡ None → None ≡ cond b (Some l.1) (value_of ls key)
      by true rest never = absurd (cc)
      by false rest none = rest (no_place (place (λ l. bytes_eq key l.0) ls) none)

  -- the label at the place of its key goes, or none
  pub label_removed : (ls : List Label) (i : ℕ) → position (λ l. bytes_eq key l.0) ls ≡ Some i → remove ls i ≡ without_label ls key
  label_removed ls i e = removed_at ls i (sym (placed (λ l. bytes_eq key l.0) ls) ∙ e)

  pub no_label : (ls : List Label) → position (λ l. bytes_eq key l.0) ls ≡ None → ls ≡ without_label ls key
  no_label ls e = nothing_removed ls (sym (placed (λ l. bytes_eq key l.0) ls) ∙ e)

  -- the value at the place of its key, or none
  pub value_at : (ls : List Label) (i : ℕ) (d : Label) → position (λ l. bytes_eq key l.0) ls ≡ Some i → Some (slice_index_or ls i d).1 ≡ value_of ls key
  value_at ls i d e = found_at ls i d (sym (placed (λ l. bytes_eq key l.0) ls) ∙ e)

  pub no_value : (ls : List Label) → position (λ l. bytes_eq key l.0) ls ≡ None → None ≡ value_of ls key
  no_value ls e = not_found ls (sym (placed (λ l. bytes_eq key l.0) ls) ∙ e)

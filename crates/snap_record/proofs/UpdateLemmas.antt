-- What a path does to labels, and how many labels an update leaves.
use Rattle.std.proofs.Common.{◌≡◌, ℕ, ◌+◌, Bool, true, false, not, ◌&&◌, ◌||◌, cond, true≢false, List, [], ◌∷◌, ◌++◌, length, Option, None, Some, is_some, is_none, option_map, filter_map, count_by, bytes_eq, if◌then◌else◌, refl, sym, ap, ap₂, ◌∙◌, append_assoc, append-nil, zero-add, length-append, arith}
use Rattle.std.proofs.lemmas.List.Sums.{sum_by-cons}
use Rattle.std.specs.List.{list_any, cons_option, AllByRecursion}
use Rattle.std.specs.Option.{option_map_or}
use Rattle.std.specs.Map.{keys_of}
use Rattle.std.specs.Cmp.Lexicographic.{nat_list_eq_equiv}
use Rattle.std.proofs.lemmas.Slice.Eq.{bytes_eq-Decides}
use Rattle.std.proofs.lemmas.Map.Keys.{IsDistinct-head, IsDistinct-tail}
use Rattle.std.proofs.lemmas.Map.Made.{is_some-lookup}
use Rattle.snap_record.specs.Labels.{Bytes, Label, is_key_among, value_of, with_label, without_label, HasDistinctKeys}
use Rattle.snap_record.specs.Updates.{named_key, names_key, named_keys, given_label, label_after, new_keys, with_named}

pub same : (x y : Bytes) → bytes_eq x y ≡ true → x ≡ y
same x y h = (bytes_eq-Decides x y).0 h

pub flip : (x y : Bytes) → bytes_eq x y ≡ bytes_eq y x
flip x y = nat_list_eq_equiv.symm x y

or_false : (a b : Bool) → (a || b) ≡ false → (a ≡ false) × (b ≡ false)
or_false true b h = absurd (true≢false h)
or_false false b h = (refl, h)

or_twice : (a b : Bool) → (a || b) ≡ (a || (a || b))
or_twice true b = refl
or_twice false b = refl

or_swap : (a b c : Bool) → (a || (b || c)) ≡ (b || (a || c))
or_swap true true c = refl
or_swap true false c = refl
or_swap false b c = refl

-- two equal branches
either : {A : Type 0} (b : Bool) (x : A) → cond b x x ≡ x
either true x = refl
either false x = refl

cons_option-append : {A : Type 0} (r : Option A) (xs ys : List A) → cons_option r xs ++ ys ≡ cons_option r (xs ++ ys)
cons_option-append None xs ys = refl
cons_option-append (Some x) xs ys = refl

-- a path names the key exactly where the key is among those that the paths name
pub among-named : (key : Bytes) (paths : List Bytes) → is_key_among key (named_keys paths) ≡ list_any (names_key key) paths
among-named key [] = refl
among-named key (path ∷ paths) = by (named_key path) ∙ ap (λ b. names_key key path || b) (among-named key paths)
  where
    by : (r : Option Bytes) → list_any (bytes_eq key) (cons_option r (named_keys paths)) ≡ (option_map_or (bytes_eq key) r false || is_key_among key (named_keys paths))
    by None = refl
    by (Some k) = refl

-- a key that differs from each of these is none of them
none_among : (key : Bytes) (keys : List Bytes) → AllByRecursion (λ k. bytes_eq key k ≡ false) keys → is_key_among key keys ≡ false
none_among key [] h = refl
none_among key (k ∷ keys) h = ap (λ b. b || is_key_among key keys) h.0 ∙ none_among key keys h.1

first_among : (label : Label) (labels : List Label) (key : Bytes) → HasDistinctKeys (label ∷ labels) → bytes_eq key label.0 ≡ true → is_key_among key (keys_of labels) ≡ false
first_among label labels key distinct h =
    ap (λ k. is_key_among k (keys_of labels)) (same key label.0 h)
    ∙ none_among label.0 (keys_of labels) (IsDistinct-head bytes_eq label.0 (keys_of labels) distinct)

rest_distinct : (label : Label) (labels : List Label) → HasDistinctKeys (label ∷ labels) → HasDistinctKeys labels
rest_distinct label labels distinct = IsDistinct-tail bytes_eq label.0 (keys_of labels) distinct

among-with_label : (labels : List Label) (key value k : Bytes) → is_key_among k (keys_of (with_label labels key value)) ≡ (bytes_eq k key || is_key_among k (keys_of labels))
among-with_label [] key value k = refl
among-with_label (l ∷ ls) key value k = by (bytes_eq key l.0) refl (among-with_label ls key value k)
  where
    by : (b : Bool) → bytes_eq key l.0 ≡ b
        → is_key_among k (keys_of (with_label ls key value)) ≡ (bytes_eq k key || is_key_among k (keys_of ls))
        → is_key_among k (keys_of (cond b ((l.0, value) ∷ ls) (l ∷ with_label ls key value))) ≡ (bytes_eq k key || (bytes_eq k l.0 || is_key_among k (keys_of ls)))
    by true h rest =
        or_twice (bytes_eq k l.0) (is_key_among k (keys_of ls))
        ∙ ap (λ z. bytes_eq k z || (bytes_eq k l.0 || is_key_among k (keys_of ls))) (sym (same key l.0 h))
    by false h rest = ap (λ b. bytes_eq k l.0 || b) rest ∙ or_swap (bytes_eq k l.0) (bytes_eq k key) (is_key_among k (keys_of ls))

among-without_label : (labels : List Label) (key k : Bytes) → bytes_eq key k ≡ false → is_key_among k (keys_of (without_label labels key)) ≡ is_key_among k (keys_of labels)
among-without_label [] key k h = refl
among-without_label (l ∷ ls) key k h = by (bytes_eq key l.0) refl (among-without_label ls key k h)
  where
    by : (b : Bool) → bytes_eq key l.0 ≡ b
        → is_key_among k (keys_of (without_label ls key)) ≡ is_key_among k (keys_of ls)
        → is_key_among k (keys_of (cond b ls (l ∷ without_label ls key))) ≡ (bytes_eq k l.0 || is_key_among k (keys_of ls))
    by true e rest =
        sym (ap (λ b. b || is_key_among k (keys_of ls)) (ap (λ z. bytes_eq k z) (sym (same key l.0 e)) ∙ flip k key ∙ h))
    by false e rest = ap (λ b. bytes_eq k l.0 || b) rest

-- one more of keys that are there
among-present : (k key : Bytes) (keys : List Bytes) → is_key_among key keys ≡ true → is_key_among k keys ≡ (bytes_eq k key || is_key_among k keys)
among-present k key keys h = by (bytes_eq k key) refl
  where
    by : (b : Bool) → bytes_eq k key ≡ b → is_key_among k keys ≡ (b || is_key_among k keys)
    by true e = ap (λ z. is_key_among z keys) (same k key e) ∙ h
    by false e = refl

-- the labels that stay
module _ (given : List Label) (key : Bytes) (keys : List Bytes) where
  -- a path leaves the labels of other keys to the paths after it
  other_label : (l : Label) → bytes_eq key l.0 ≡ false → label_after given (key ∷ keys) l ≡ label_after given keys l
  other_label l h = ap (λ b. if b || is_key_among l.0 keys then given_label given l.0 else Some l) (flip l.0 key ∙ h)

  other_labels : (ls : List Label) → is_key_among key (keys_of ls) ≡ false → filter_map (label_after given (key ∷ keys)) ls ≡ filter_map (label_after given keys) ls
  other_labels [] h = refl
  other_labels (l ∷ ls) h =
      let p = or_false (bytes_eq key l.0) (is_key_among key (keys_of ls)) h in
      ap₂ cons_option (other_label l p.0) (other_labels ls p.1)

  -- the key's own label is left as it is given
  own_label : (l : Label) → bytes_eq key l.0 ≡ true → label_after given (key ∷ keys) l ≡ given_label given l.0
  own_label l h = ap (λ b. if b || is_key_among l.0 keys then given_label given l.0 else Some l) (flip l.0 key ∙ h)

  module _ (value : Bytes) (is : value_of given key ≡ Some value) where
    given_at : (k : Bytes) → bytes_eq key k ≡ true → given_label given k ≡ Some (k, value)
    given_at k h = ap (λ z. option_map (λ v. (k, v)) (value_of given z)) (sym (same key k h)) ∙ ap (option_map (λ v. (k, v))) is

    -- a given label stays as it is given
    set_label : (k : Bytes) → bytes_eq key k ≡ true → label_after given keys (k, value) ≡ Some (k, value)
    set_label k h =
        ap (λ r. if is_key_among k keys then r else Some (k, value)) (given_at k h)
        ∙ either (is_key_among k keys) (Some (k, value))

    kept-with_label : (ls : List Label) → HasDistinctKeys ls
        → filter_map (label_after given keys) (with_label ls key value)
        ≡ filter_map (label_after given (key ∷ keys)) ls ++ (if is_key_among key (keys_of ls) then [] else (key, value) ∷ [])
    kept-with_label [] distinct = ap (λ r. cons_option r []) (set_label key (nat_list_eq_equiv.refl key))
    kept-with_label (l ∷ ls) distinct = by (bytes_eq key l.0) refl (kept-with_label ls (rest_distinct l ls distinct))
      where
        by : (b : Bool) → bytes_eq key l.0 ≡ b
            → filter_map (label_after given keys) (with_label ls key value) ≡ filter_map (label_after given (key ∷ keys)) ls ++ (if is_key_among key (keys_of ls) then [] else (key, value) ∷ [])
            → filter_map (label_after given keys) (cond b ((l.0, value) ∷ ls) (l ∷ with_label ls key value))
            ≡ cons_option (label_after given (key ∷ keys) l) (filter_map (label_after given (key ∷ keys)) ls) ++ (if b || is_key_among key (keys_of ls) then [] else (key, value) ∷ [])
        by true h rest =
            ap₂ cons_option (set_label l.0 h ∙ sym (own_label l h ∙ given_at l.0 h)) (sym (other_labels ls (first_among l ls key distinct h)))
            ∙ sym (append-nil _)
        by false h rest = ap₂ cons_option (sym (other_label l h)) rest ∙ sym (cons_option-append (label_after given (key ∷ keys) l) _ _)

  module _ (none : value_of given key ≡ None) where
    none_at : (k : Bytes) → bytes_eq key k ≡ true → given_label given k ≡ None
    none_at k h = ap (λ z. option_map (λ v. (k, v)) (value_of given z)) (sym (same key k h)) ∙ ap (option_map (λ v. (k, v))) none

    kept-without_label : (ls : List Label) → HasDistinctKeys ls → filter_map (label_after given keys) (without_label ls key) ≡ filter_map (label_after given (key ∷ keys)) ls
    kept-without_label [] distinct = refl
    kept-without_label (l ∷ ls) distinct = by (bytes_eq key l.0) refl (kept-without_label ls (rest_distinct l ls distinct))
      where
        by : (b : Bool) → bytes_eq key l.0 ≡ b
            → filter_map (label_after given keys) (without_label ls key) ≡ filter_map (label_after given (key ∷ keys)) ls
            → filter_map (label_after given keys) (cond b ls (l ∷ without_label ls key))
            ≡ cons_option (label_after given (key ∷ keys) l) (filter_map (label_after given (key ∷ keys)) ls)
        by true h rest = sym (ap₂ cons_option (own_label l h ∙ none_at l.0 h) (other_labels ls (first_among l ls key distinct h)))
        by false h rest = ap₂ cons_option (sym (other_label l h)) rest

-- the labels that are added
module _ (given : List Label) where
  -- the labels added for these keys, over keys that are there
  abbrev added : List Bytes → List Bytes → List Label
  added there keys = filter_map (given_label given) (new_keys there keys)

  -- lists that have the same keys, but for some that aren't given
  abbrev Alike : (Bytes → Bool) → List Bytes → List Bytes → Type 0
  Alike skip there others = (k : Bytes) → skip k ≡ false → is_key_among k there ≡ is_key_among k others

  module _ (skip : Bytes → Bool) (skips : (k : Bytes) → skip k ≡ true → value_of given k ≡ None) where
    with_skipped : (key : Bytes) (there : List Bytes) → skip key ≡ true → Alike skip (key ∷ there) there
    with_skipped key there h k unskipped = ap (λ b. b || is_key_among k there) (by (bytes_eq k key) refl)
      where
        by : (b : Bool) → bytes_eq k key ≡ b → b ≡ false
        by true e = sym h ∙ sym (ap skip (same k key e)) ∙ unskipped
        by false e = refl

    -- a key that isn't given adds nothing
    added-skipped : (key : Bytes) (keys : List Bytes) → ((there others : List Bytes) → Alike skip there others → added there keys ≡ added others keys)
        → (there : List Bytes) → skip key ≡ true → added there (key ∷ keys) ≡ added there keys
    added-skipped key keys rest there h = by (is_key_among key there)
      where
        by : (b : Bool) → filter_map (given_label given) (cond b (new_keys there keys) (key ∷ new_keys (key ∷ there) keys)) ≡ added there keys
        by true = refl
        by false =
            ap (λ r. cons_option (option_map (λ v. (key, v)) r) (added (key ∷ there) keys)) (skips key h)
            ∙ rest (key ∷ there) there (with_skipped key there h)

    added-kept : (key : Bytes) (keys : List Bytes) → ((there others : List Bytes) → Alike skip there others → added there keys ≡ added others keys)
        → (there others : List Bytes) → Alike skip there others → skip key ≡ false → added there (key ∷ keys) ≡ added others (key ∷ keys)
    added-kept key keys rest there others alike h =
        ap (λ b. filter_map (given_label given) (cond b (new_keys there keys) (key ∷ new_keys (key ∷ there) keys))) (alike key h)
        ∙ by (is_key_among key others)
      where
        by : (b : Bool) → filter_map (given_label given) (cond b (new_keys there keys) (key ∷ new_keys (key ∷ there) keys))
            ≡ filter_map (given_label given) (cond b (new_keys others keys) (key ∷ new_keys (key ∷ others) keys))
        by true = rest there others alike
        by false = ap (cons_option (given_label given key)) (rest (key ∷ there) (key ∷ others) (λ k e. ap (λ b. bytes_eq k key || b) (alike k e)))

    added-alike : (keys there others : List Bytes) → Alike skip there others → added there keys ≡ added others keys
    added-alike [] there others alike = refl
    added-alike (key ∷ keys) there others alike = by (skip key) refl (added-alike keys)
      where
        by : (b : Bool) → skip key ≡ b → ((xs ys : List Bytes) → Alike skip xs ys → added xs keys ≡ added ys keys) → added there (key ∷ keys) ≡ added others (key ∷ keys)
        by true h rest = added-skipped key keys rest there h ∙ rest there others alike ∙ sym (added-skipped key keys rest others h)
        by false h rest = added-kept key keys rest there others alike h

  -- over lists that have the same keys
  added-same : (keys there others : List Bytes) → ((k : Bytes) → is_key_among k there ≡ is_key_among k others) → added there keys ≡ added others keys
  added-same keys there others alike = added-alike (λ _. false) (λ k h. absurd (true≢false (sym h))) keys there others (λ k _. alike k)

-- a path of a given label sets it
pub with_named-set : (old given : List Label) (key value : Bytes) (keys : List Bytes) → HasDistinctKeys old → value_of given key ≡ Some value
    → with_named old given (key ∷ keys) ≡ with_named (with_label old key value) given keys
with_named-set old given key value keys distinct is =
    by (is_key_among key (keys_of old)) refl
    ∙ ap₂ (λ xs ys. xs ++ ys)
    (sym (kept-with_label given key keys value is old distinct))
    (added-same given keys (key ∷ keys_of old) (keys_of (with_label old key value)) (λ k. sym (among-with_label old key value k)))
  where
    by : (b : Bool) → is_key_among key (keys_of old) ≡ b
        → filter_map (label_after given (key ∷ keys)) old ++ filter_map (given_label given) (if b then new_keys (keys_of old) keys else key ∷ new_keys (key ∷ keys_of old) keys)
        ≡ (filter_map (label_after given (key ∷ keys)) old ++ (if b then [] else (key, value) ∷ [])) ++ added given (key ∷ keys_of old) keys
    by true h =
        ap (λ xs. filter_map (label_after given (key ∷ keys)) old ++ xs)
        (added-same given keys (keys_of old) (key ∷ keys_of old) (λ k. among-present k key (keys_of old) h))
        ∙ ap (λ xs. xs ++ added given (key ∷ keys_of old) keys) (sym (append-nil _))
    by false h =
        ap (λ r. filter_map (label_after given (key ∷ keys)) old ++ cons_option r (added given (key ∷ keys_of old) keys))
        (given_at given key keys value is key (nat_list_eq_equiv.refl key))
        ∙ sym (append_assoc (filter_map (label_after given (key ∷ keys)) old) ((key, value) ∷ []) (added given (key ∷ keys_of old) keys))

-- a path of a label that isn't given removes it
pub with_named-remove : (old given : List Label) (key : Bytes) (keys : List Bytes) → HasDistinctKeys old → value_of given key ≡ None
    → with_named old given (key ∷ keys) ≡ with_named (without_label old key) given keys
with_named-remove old given key keys distinct none =
    ap₂ (λ xs ys. xs ++ ys)
    (sym (kept-without_label given key keys none old distinct))
    (added-skipped given (bytes_eq key) skips key keys (added-alike given (bytes_eq key) skips keys) (keys_of old) (nat_list_eq_equiv.refl key)
    ∙ added-alike given (bytes_eq key) skips keys (keys_of old) (keys_of (without_label old key)) (λ k h. sym (among-without_label old key k h)))
  where
    skips : (k : Bytes) → bytes_eq key k ≡ true → value_of given k ≡ None
    skips k h = ap (value_of given) (sym (same key k h)) ∙ none

-- no path leaves the labels
pub with_named-nil : (old given : List Label) → with_named old given [] ≡ old
with_named-nil old given = append-nil _ ∙ all old
  where
    all : (ls : List Label) → filter_map (label_after given []) ls ≡ ls
    all [] = refl
    all (l ∷ ls) = ap (λ xs. l ∷ xs) (all ls)

-- how many labels there are
count-cons : (p : Label → Bool) (l : Label) (ls : List Label) → count_by p (l ∷ ls) ≡ cond (p l) 1 0 + count_by p ls
count-cons p l ls = sum_by-cons (λ x. cond (p x) 1 0) l ls

count_same : (p q : Label → Bool) → ((l : Label) → p l ≡ q l) → (ls : List Label) → count_by p ls ≡ count_by q ls
count_same p q alike [] = refl
count_same p q alike (l ∷ ls) =
    count-cons p l ls ∙ ap₂ (λ b n. cond b 1 0 + n) (alike l) (count_same p q alike ls) ∙ sym (count-cons q l ls)

count_none : (ls : List Label) → count_by (λ _. false) ls ≡ 0
count_none [] = refl
count_none (l ∷ ls) = count-cons (λ _. false) l ls ∙ zero-add (count_by (λ _. false) ls) ∙ count_none ls

length-cons_option : (r : Option Label) (ls : List Label) → length (cons_option r ls) ≡ cond (is_some r) 1 0 + length ls
length-cons_option None ls = omega arith
length-cons_option (Some l) ls = omega arith

and_false : (b : Bool) → (b && false) ≡ false
and_false true = refl
and_false false = refl

module _ (given : List Label) (named : List Bytes) where
  stays : (l : Label) → is_some (label_after given named l) ≡ (not (is_key_among l.0 named) || is_some (value_of given l.0))
  stays l = by (is_key_among l.0 named) (value_of given l.0)
    where
      by : (b : Bool) (r : Option Bytes) → is_some (if b then option_map (λ v. (l.0, v)) r else Some l) ≡ (not b || is_some r)
      by true None = refl
      by true (Some v) = refl
      by false r = refl

  length-kept : (old : List Label) → length (filter_map (label_after given named) old) ≡ count_by (λ l. not (is_key_among l.0 named) || is_some (value_of given l.0)) old
  length-kept [] = refl
  length-kept (l ∷ ls) =
      length-cons_option (label_after given named l) _
      ∙ ap₂ (λ b n. cond b 1 0 + n) (stays l) (length-kept ls)
      ∙ sym (count-cons (λ l. not (is_key_among l.0 named) || is_some (value_of given l.0)) l ls)

module _ (key : Bytes) (keys there : List Bytes) (new : is_key_among key there ≡ false) where
  abbrev adds : Label → Bool
  adds l = (bytes_eq l.0 key || is_key_among l.0 keys) && not (is_key_among l.0 there)

  abbrev adds_later : Label → Bool
  adds_later l = is_key_among l.0 keys && not (bytes_eq l.0 key || is_key_among l.0 there)

  -- of distinct labels, at most one is the key's
  count-adds : (given : List Label) → HasDistinctKeys given → count_by adds given ≡ cond (is_some (value_of given key)) 1 0 + count_by adds_later given
  count-adds [] distinct = refl
  count-adds (g ∷ gs) distinct = by (bytes_eq key g.0) refl (count-adds gs (rest_distinct g gs distinct))
    where
      by : (b : Bool) → bytes_eq key g.0 ≡ b → count_by adds gs ≡ cond (is_some (value_of gs key)) 1 0 + count_by adds_later gs
          → count_by adds (g ∷ gs) ≡ cond (is_some (cond b (Some g.1) (value_of gs key))) 1 0 + count_by adds_later (g ∷ gs)
      by true h rest =
          let same_key : g.0 ≡ key = sym (same key g.0 h) in
          let here : adds g ≡ true =
          ap₂ (λ a b. (a || is_key_among g.0 keys) && not b) (ap (λ z. bytes_eq z key) same_key ∙ nat_list_eq_equiv.refl key) (ap (λ z. is_key_among z there) same_key ∙ new) in
          let not_later : adds_later g ≡ false =
          ap (λ a. is_key_among g.0 keys && not (a || is_key_among g.0 there)) (ap (λ z. bytes_eq z key) same_key ∙ nat_list_eq_equiv.refl key) ∙ and_false (is_key_among g.0 keys) in
          let gone : is_some (value_of gs key) ≡ false = is_some-lookup (bytes_eq key) gs ∙ first_among g gs key distinct h in
          count-cons adds g gs
          ∙ ap₂ (λ b n. cond b 1 0 + n) here (rest ∙ ap (λ b. cond b 1 0 + count_by adds_later gs) gone)
          ∙ ap (λ n. 1 + n) (ap (λ b. cond b 1 0 + count_by adds_later gs) (sym not_later) ∙ sym (count-cons adds_later g gs))
      by false h rest =
          let alike : adds g ≡ adds_later g =
          ap (λ a. (a || is_key_among g.0 keys) && not (is_key_among g.0 there)) (flip g.0 key ∙ h)
          ∙ sym (ap (λ a. is_key_among g.0 keys && not (a || is_key_among g.0 there)) (flip g.0 key ∙ h)) in
          count-cons adds g gs
          ∙ ap₂ (λ b n. cond b 1 0 + n) alike rest
          ∙ swapped (cond (adds_later g) 1 0) (cond (is_some (value_of gs key)) 1 0) (count_by adds_later gs)
          ∙ ap (λ n. cond (is_some (value_of gs key)) 1 0 + n) (sym (count-cons adds_later g gs))
        where
          swapped : (a b c : ℕ) → a + (b + c) ≡ b + (a + c)
          swapped a b c = omega arith

-- a key that is there already adds nothing
count-there : (key : Bytes) (keys there : List Bytes) → is_key_among key there ≡ true → (given : List Label)
    → count_by (λ l. is_key_among l.0 keys && not (is_key_among l.0 there)) given ≡ count_by (λ l. (bytes_eq l.0 key || is_key_among l.0 keys) && not (is_key_among l.0 there)) given
count-there key keys there present given = count_same _ _ alike given
  where
    alike : (l : Label) → (is_key_among l.0 keys && not (is_key_among l.0 there)) ≡ ((bytes_eq l.0 key || is_key_among l.0 keys) && not (is_key_among l.0 there))
    alike l = by (bytes_eq l.0 key) refl
      where
        by : (b : Bool) → bytes_eq l.0 key ≡ b → (is_key_among l.0 keys && not (is_key_among l.0 there)) ≡ ((b || is_key_among l.0 keys) && not (is_key_among l.0 there))
        by true h =
            let seen : is_key_among l.0 there ≡ true = ap (λ z. is_key_among z there) (same l.0 key h) ∙ present in
            ap (λ b. is_key_among l.0 keys && not b) seen ∙ and_false (is_key_among l.0 keys) ∙ sym (ap not seen)
        by false h = refl

length-added : (given : List Label) → HasDistinctKeys given → (keys there : List Bytes) → length (added given there keys) ≡ count_by (λ l. is_key_among l.0 keys && not (is_key_among l.0 there)) given
length-added given distinct [] there = sym (count_none given)
length-added given distinct (key ∷ keys) there = by (is_key_among key there) refl (length-added given distinct keys)
  where
    by : (b : Bool) → is_key_among key there ≡ b → ((others : List Bytes) → length (added given others keys) ≡ count_by (λ l. is_key_among l.0 keys && not (is_key_among l.0 others)) given)
        → length (filter_map (given_label given) (cond b (new_keys there keys) (key ∷ new_keys (key ∷ there) keys)))
        ≡ count_by (λ l. (bytes_eq l.0 key || is_key_among l.0 keys) && not (is_key_among l.0 there)) given
    by true h rest = rest there ∙ count-there key keys there h given
    by false h rest =
        length-cons_option (given_label given key) (added given (key ∷ there) keys)
        ∙ ap₂ (λ b n. cond b 1 0 + n) (given_or_not (value_of given key)) (rest (key ∷ there))
        ∙ sym (count-adds key keys there h given distinct)
      where
        given_or_not : (r : Option Bytes) → is_some {T = Label} (option_map (λ v. (key, v)) r) ≡ is_some r
        given_or_not None = refl
        given_or_not (Some v) = refl

-- an update by paths leaves the labels that no path names or that are given, and adds the given ones that a path names
pub length-with_named : (old given : List Label) (named : List Bytes) → HasDistinctKeys given
    → length (with_named old given named)
    ≡ count_by (λ l. not (is_key_among l.0 named) || is_some (value_of given l.0)) old + count_by (λ l. is_key_among l.0 named && is_none (value_of old l.0)) given
length-with_named old given named distinct =
    length-append (filter_map (label_after given named) old) (added given (keys_of old) named)
    ∙ ap₂ (λ a b. a + b) (length-kept given named old)
    (length-added given distinct named (keys_of old)
    ∙ count_same _ _ (λ l. ap (λ b. is_key_among l.0 named && not b) (sym (is_some-lookup (bytes_eq l.0) old))) given)

-- Labels that are added one after another.
use Rattle.std.proofs.Common.{◌≡◌, ◌<◌, false, cond, List, [], ◌∷◌, ◌++◌, length, Option, None, Some, refl, ap, ◌∙◌, arith}
use Rattle.std.specs.Prelude.{bytes_eq, if◌then◌else◌, is_some, nat_le, Ok, Err}
use Rattle.std.specs.List.{AllByRecursion, IsDistinct}
use Rattle.std.specs.Map.{keys_of}
use Rattle.std.proofs.lemmas.Bool.Decides.{nat_tests}
use Rattle.snap_record.specs.Labels.{Bytes, HasDistinctKeys, Label, value_of, with_label}
use Rattle.snap_record.proofs.UpdateLemmas.{flip}
use Rattle.snap_checkpoint.specs.Gathered.{with_new_label}
use Rattle.snap_checkpoint.specs.declared.fault.StoreFault.TheVariants.{LabelTwice, TooManyLabels}

-- a key is none of these
abbrev IsOther : Bytes → List Label → Type 0
IsOther key labels = AllByRecursion (λ k. bytes_eq key k ≡ false) (keys_of labels)

-- ---- a label of another key

module _ (key value : Bytes) where
  no_value : (labels : List Label) → IsOther key labels → value_of labels key ≡ None
  no_value [] other = refl
  no_value (l ∷ ls) other = ap (λ b. cond b (Some l.1) (value_of ls key)) other.0 ∙ no_value ls other.1

  goes_last : (labels : List Label) → IsOther key labels → with_label labels key value ≡ labels ++ (key, value) ∷ []
  goes_last [] other = refl
  goes_last (l ∷ ls) other = ap (λ b. if b then (l.0, value) ∷ ls else l ∷ with_label ls key value) other.0 ∙ ap (λ (rest : List Label). l ∷ rest) (goes_last ls other.1)

-- ---- labels with distinct keys

-- the key of a later label is another
is_later : (key : Bytes) (before : List Label) (l : Label) (rest : List Label) → AllByRecursion (λ k. bytes_eq key k ≡ false) (keys_of (before ++ l ∷ rest)) → bytes_eq key l.0 ≡ false
is_later key [] l rest all = all.0
is_later key (b ∷ bs) l rest all = is_later key bs l rest all.1

next_is_other : (before : List Label) (l : Label) (rest : List Label) → HasDistinctKeys (before ++ l ∷ rest) → IsOther l.0 before
unfolding IsDistinct
next_is_other [] l rest distinct = tt
next_is_other (b ∷ bs) l rest distinct = (flip l.0 b.0 ∙ is_later b.0 bs l rest distinct.0, next_is_other bs l rest distinct.1)

-- the next of them is added
pub label_added : (before : List Label) (l : Label) (rest : List Label) → HasDistinctKeys (before ++ l ∷ rest) → length before < 64 → with_new_label before l.0 l.1 ≡ Ok (before ++ l ∷ [])
label_added before l rest distinct few =
    let other = next_is_other before l rest distinct in
    let low : nat_le 64 (length before) ≡ false = grind (arith, nat_tests) in
    ap (λ (o : Option Bytes). if is_some o then Err LabelTwice else if nat_le 64 (length before) then Err TooManyLabels else Ok (with_label before l.0 l.1)) (no_value l.0 l.1 before other)
    ∙ ap (λ b. if b then Err TooManyLabels else Ok (with_label before l.0 l.1)) low
    ∙ ap (λ (labels : List Label). Ok labels) (goes_last l.0 l.1 before other)

-- The tests of an edit's condition.
use Rattle.std.proofs.Common.{◌≡◌, ℕ, ◌+◌, ◌-◌, ◌≤◌, Bool, true, false, List, [], ◌∷◌, ◌++◌, length, length-append, take, drop, Option, Some, None, IsSome, refl, sym, ap, subst, ◌∙◌, inl, inr, arith}
use Rattle.std.specs.Prelude.{is_some, is_none, not, nat_le, ◌||◌, ◌&&◌, IsTrue}
use Rattle.std.specs.List.{list_all}
use Rattle.std.specs.List.Sorted.{IsStrictlySortedBy}
use Rattle.std.specs.Map.{lookup, keys_of}
use Rattle.std.specs.BTreeMap.{is_at}
use Rattle.std.proofs.lemmas.Bool.{cond-true, cond-false}
use Rattle.std.proofs.lemmas.Bool.Decides.{nat_tests}
use Rattle.std.proofs.lemmas.List.Folds.{list_all-append}
use Rattle.snap_path.specs.Text.{Names, is_name, text_of, text_below, IsPath, begins}
use Rattle.snap_path.proofs.Texts.{text_below-append}
use Rattle.snap_path.specs.Limits.{most_path_bytes}
use Rattle.snap_layer.specs.declared.node.Node.{Node}
use Rattle.snap_layer.specs.Tree.{Tree, Entries, path_cmp, at, is_whiteout, name_below, IsDirAt}
use Rattle.snap_layer.specs.Edits.{IsFree, HasParent}
use Rattle.snap_layer.proofs.Lists.{at_itself}
use Rattle.snap_layer.proofs.Looks.{split_path}
use Rattle.snap_layer.proofs.Paths.{path_cmp_total, path_cmp-IsAntisymmetric, name_below-append, begins_from, begins_rest}

-- ---- the parent

front_of_snoc : (q : Names) (n : List ℕ) → take (length (q ++ n ∷ []) - 1) (q ++ n ∷ []) ≡ q
front_of_snoc q n = (λ i. take (shorter i) (q ++ n ∷ [])) ∙ front q
  where
    shorter : length (q ++ n ∷ []) - 1 ≡ length q
    shorter = omega (arith, length-append q (n ∷ []))

    front : (xs : Names) → take (length xs) (xs ++ n ∷ []) ≡ xs
    front [] = refl
    front (x ∷ xs) = λ i. x ∷ front xs i

snoc_of : (x : List ℕ) (xs : Names) → (q : Names) × (n : List ℕ) × (x ∷ xs ≡ q ++ n ∷ [])
snoc_of x [] = ([], x, refl)
snoc_of x (y ∷ ys) = let rest = snoc_of y ys in (x ∷ rest.0, rest.1, λ i. x ∷ rest.2 i)

pub no_parent : (t : Tree) (p : Names) → length p ≡ 0 → HasParent t p → ⊥
no_parent t [] none parent = parent.below_root refl
no_parent t (x ∷ p) none parent = omega arith

pub parent_from : (t : Tree) (p : Names) → (length p ≡ 0 → ⊥) → IsDirAt (at t (take (length p - 1) p)) → HasParent t p
parent_from t p some dir = record {
  below_root = λ e. some (ap length e);
  parent = λ q n is. subst (λ (r : Names). IsDirAt (at t r)) ((λ i. take (length (is i) - 1) (is i)) ∙ front_of_snoc q n) dir;
}

pub parent_is : (t : Tree) (p : Names) → HasParent t p → IsDirAt (at t (take (length p - 1) p))
parent_is t [] parent = absurd (parent.below_root refl)
parent_is t (x ∷ xs) parent =
    let parts = snoc_of x xs in
    subst (λ (r : Names). IsDirAt (at t r)) (sym ((λ i. take (length (parts.2 i) - 1) (parts.2 i)) ∙ front_of_snoc parts.0 parts.1)) (parent.parent parts.0 parts.1 parts.2)

-- ---- what lies in a directory

-- the entry is none of the directory's, or a whiteout
abbrev pub is_loose : Names → Names × Node → Bool
is_loose p e = is_none (name_below p e.0) || is_whiteout e.1

no_bool : false ≡ true → ⊥
no_bool e = cc

all_first : (a b : Bool) → (a && b) ≡ true → a ≡ true
all_first true b e = refl
all_first false b e = e

all_second : (a b : Bool) → (a && b) ≡ true → b ≡ true
all_second true b e = e
all_second false b e = absurd (no_bool e)

pub clear_from : (p : Names) (es : Entries) → list_all (is_loose p) es ≡ true → (n : List ℕ) → IsFree (lookup (is_at (path_cmp (p ++ n ∷ []))) es)
clear_from p [] all n = tt
clear_from p (e ∷ es) all n = elim (split_path (p ++ n ∷ []) e.0) [
  | inl same ↦ subst IsFree (sym (cond-true _ (Some e.1) (lookup (is_at (path_cmp (p ++ n ∷ []))) es) same.1)) (loose (all_first (is_loose p e) (list_all (is_loose p) es) all) (sym (ap (name_below p) (sym same.0) ∙ name_below-append p n)))
  | inr apart ↦ subst IsFree (sym (cond-false _ (Some e.1) (lookup (is_at (path_cmp (p ++ n ∷ []))) es) apart.1)) (clear_from p es (all_second (is_loose p e) (list_all (is_loose p) es) all) n)
]
  where
    loose : (is_none (name_below p e.0) || is_whiteout e.1) ≡ true → Some n ≡ name_below p e.0 → is_whiteout e.1 ≡ true
    loose l is = subst (λ (o : Option (List ℕ)). (is_none o || is_whiteout e.1) ≡ true → is_whiteout e.1 ≡ true) is (λ x. x) l

-- ---- what stands at a path

pub free_test : (o : Option Node) → IsTrue (is_none o) → IsFree o
free_test None e = tt
free_test (Some n) e = absurd (no_bool e)

-- ---- the lengths of moved paths

-- the entry doesn't lie at `from` or below it, or its new path's text has at most 4095 bytes
abbrev pub is_short : Names → Names → Names × Node → Bool
is_short from to e = not (begins from e.0) || nat_le (length (text_of e.0) + length (text_of to)) (most_path_bytes + length (text_of from))

text_is : (p : Names) → (p ≡ [] → ⊥) → text_of p ≡ text_below p
text_is [] some = absurd (some refl)
text_is (n ∷ p) some = refl

-- the length of a moved path, by those of the texts
moved_length : (from to r : Names) → (from ≡ [] → ⊥) → (to ≡ [] → ⊥) → length (text_below (to ++ r)) + length (text_of from) ≡ length (text_of (from ++ r)) + length (text_of to)
moved_length from to r one two =
    let below : from ++ r ≡ [] → ⊥ = not_empty from r one in
    omega (
      arith,
      ap length (text_is from one),
      ap length (text_is to two),
      ap length (text_is (from ++ r) below),
      ap length (text_below-append to r),
      ap length (text_below-append from r),
      length-append (text_below to) (text_below r),
      length-append (text_below from) (text_below r),
    )
  where
    not_empty : (xs ys : Names) → (xs ≡ [] → ⊥) → xs ++ ys ≡ [] → ⊥
    not_empty [] ys some e = some refl
    not_empty (x ∷ xs) ys some e = cc

short_test : (a b : Bool) → (not a || b) ≡ true → a ≡ true → b ≡ true
short_test true b e is = e
short_test false b e is = absurd (no_bool is)

module _ (from to : Names) (one : from ≡ [] → ⊥) (two : to ≡ [] → ⊥) where
  pub short_from : (es : Entries) → list_all (is_short from to) es ≡ true → (r : Names) → IsSome (lookup (is_at (path_cmp (from ++ r))) es) → length (text_below (to ++ r)) ≤ most_path_bytes
  short_from [] all r some = absurd (cc)
  short_from (e ∷ es) all r some = elim (split_path (from ++ r) e.0) [
    | inl same ↦ here (short_test (begins from e.0) (nat_le (length (text_of e.0) + length (text_of to)) (most_path_bytes + length (text_of from))) (all_first (is_short from to e) (list_all (is_short from to) es) all) (begins_from from e.0 r (sym same.0))) same.0
    | inr apart ↦ short_from es (all_second (is_short from to e) (list_all (is_short from to) es) all) r (subst IsSome (cond-false _ (Some e.1) (lookup (is_at (path_cmp (from ++ r))) es) apart.1) some)
  ]
    where
      here : nat_le (length (text_of e.0) + length (text_of to)) (most_path_bytes + length (text_of from)) ≡ true → from ++ r ≡ e.0 → length (text_below (to ++ r)) ≤ most_path_bytes
      here test same =
          let fits : length (text_of e.0) + length (text_of to) ≤ most_path_bytes + length (text_of from) = grind (arith, nat_tests) in
          omega (arith, fits, ap (λ (q : Names). length (text_of q)) same, moved_length from to r one two)

  pub all_short : (es : Entries) → IsStrictlySortedBy path_cmp (keys_of es) → ((r : Names) → IsSome (lookup (is_at (path_cmp (from ++ r))) es) → length (text_below (to ++ r)) ≤ most_path_bytes) → list_all (is_short from to) es ≡ true
  unfolding IsStrictlySortedBy
  all_short [] sorted short = refl
  all_short (e ∷ es) sorted short = (λ i. first i && all_short es sorted.1 rest i)
    where
      by : (b : Bool) → begins from e.0 ≡ b → (not b || nat_le (length (text_of e.0) + length (text_of to)) (most_path_bytes + length (text_of from))) ≡ true
      by false is = refl
      by true is =
          let r = drop (length from) e.0 in
          let whole : e.0 ≡ from ++ r = begins_rest from e.0 is in
          let there : IsSome (lookup (is_at (path_cmp (from ++ r))) (e ∷ es)) = ap is_some (cond-true _ (Some e.1) (lookup (is_at (path_cmp (from ++ r))) es) (subst (λ (q : Names). is_at (path_cmp q) e.0 ≡ true) whole (at_itself path_cmp_total path_cmp-IsAntisymmetric e.0))) in
          let fits : length (text_of e.0) + length (text_of to) ≤ most_path_bytes + length (text_of from) = omega (arith, short r there, ap (λ (q : Names). length (text_of q)) whole, moved_length from to r one two) in
          grind (arith, nat_tests)

      first : is_short from to e ≡ true
      first = by (begins from e.0) refl

      rest : (r : Names) → IsSome (lookup (is_at (path_cmp (from ++ r))) es) → length (text_below (to ++ r)) ≤ most_path_bytes
      rest r some = short r (elim (split_path (from ++ r) e.0) [
        | inl same ↦ ap is_some (cond-true _ (Some e.1) (lookup (is_at (path_cmp (from ++ r))) es) same.1)
        | inr apart ↦ subst IsSome (sym (cond-false _ (Some e.1) (lookup (is_at (path_cmp (from ++ r))) es) apart.1)) some
      ])

-- the names of a moved path are names
pub moved_names : (from to r : Names) → IsPath to → IsPath (from ++ r) → length (text_below (to ++ r)) ≤ most_path_bytes → IsPath (to ++ r)
moved_names from to r target source short =
    let last : list_all is_name r ≡ true = all_second (list_all is_name from) (list_all is_name r) (sym (list_all-append is_name from r) ∙ source.0) in
    (list_all-append is_name to r ∙ (λ i. target.0 i && last i), short)

-- A rename's tests that have passed, and names of one file.
use Rattle.std.proofs.Common.{◌≡◌, inl, inr, ℕ, Bool, true, false, List, [], ◌∷◌, ◌++◌, length, Option, Some, None, is_some, refl, sym, ap, ◌∙◌, arith, append_assoc, append-nil, length-append}
use Rattle.std.specs.Prelude.{if◌then◌else◌, ◌==◌, ◌||◌, ◌&&◌, not}
use Rattle.std.specs.List.{list_any}
use Rattle.std.specs.Str.{bytes_eq}
use Rattle.std.proofs.lemmas.Bool.{cond-false}
use Rattle.std.proofs.lemmas.Bool.Decides.{nat_tests}
use Rattle.snap_path.specs.Text.{Names, begins}
use Rattle.snap_layer.specs.Tree.{Tree, number_at}
use Rattle.snap_layer.specs.Layers.{IsLayer}
use Rattle.snap_layer.proofs.Paths.{split_front, begins_itself}
use Rattle.snap_layer.proofs.Moving.{begins_length}
use Rattle.snap_merge.specs.declared.error.FsError.TheVariants.{NotFound, NotEmpty, Invalid, BadPath, CrossDevice}
use Rattle.snap_merge.specs.Objects.{seen, is_shown_dir, AreLayers}
use Rattle.snap_merge.specs.Walk.{walk_error, walk_from}
use Rattle.snap_merge.specs.Listing.{names}
use Rattle.snap_merge.proofs.Listings.{listing_is}
use Rattle.snap_copyup.specs.Copying.{is_pure}
use Rattle.snap_copyup.proofs.Alone.{walk_passes}
use Rattle.snap_upper.specs.declared.op.Op.TheVariants as op
use Rattle.snap_upper.specs.After.{tests, first_error, error_if, kind_error, is_root, has_names, moves_too_long, is_same_path, is_same_number, is_same_name, move_tests}
use Rattle.snap_upper.specs.Changed.{IsName}
use Rattle.snap_upper.proofs.Outcomes.{test_passes, error_if_passes}
use Rattle.snap_upper.proofs.Erased.{nil_from, nothing_under}

no_bool : true ≡ false → ⊥
no_bool e = cc

-- ---- tests that have passed

-- what is seen at `from` may be moved to `to`
pub record IsRenamable (u : Tree) (ls : List Tree) (from to : Names) : Type 0 where
  pub way_from : walk_error (u ∷ ls) from ≡ None
  pub way_to : walk_error (u ∷ ls) to ≡ None
  pub there : is_some (seen (u ∷ ls) from) ≡ true
  pub not_inside : begins from to ≡ false
  pub not_around : begins to from ≡ false
  pub pure : is_shown_dir (seen (u ∷ ls) from) ≡ true → is_pure u ls from ≡ true

-- a walk to a path passes directories
walk_dir : (s : List Tree) (p front : Names) (n : List ℕ) (r : Names) → walk_from s front (p ++ n ∷ r) ≡ None → is_shown_dir (seen s (front ++ p)) ≡ true
walk_dir s [] front n r way = ap (λ (q : Names). is_shown_dir (seen s q)) (append-nil front) ∙ (walk_passes (seen s front) (walk_from s (front ++ n ∷ []) r) way).0
walk_dir s (m ∷ p) front n r way =
    ap (λ (q : Names). is_shown_dir (seen s q)) (sym (append_assoc front (m ∷ []) p))
    ∙ walk_dir s p (front ++ m ∷ []) n r (walk_passes (seen s front) (walk_from s (front ++ m ∷ []) (p ++ n ∷ r)) way).1

or_true : (b : Bool) → (b || true) ≡ true
or_true true = refl
or_true false = refl

same_path : (p q : Names) → q ≡ p → is_same_path p q ≡ true
same_path p q e = (λ i. begins p (e i) && begins (e i) p) ∙ (λ i. begins_itself p i && begins_itself p i)

same_name_path : (u : Tree) (from to : Names) → to ≡ from → is_same_name u from to ≡ true
same_name_path u from to e = ap (λ b. b || is_same_number (number_at u from) (number_at u to)) (same_path from to e)

same_name_number : (u : Tree) (from to : Names) (k : ℕ) → number_at u from ≡ Some k → number_at u to ≡ Some k → is_same_name u from to ≡ true
same_name_number u from to k here there = (λ i. is_same_path from to || is_same_number (here i) (there i)) ∙ ap (λ b. is_same_path from to || b) one ∙ or_true (is_same_path from to)
  where
    one : (k == k) ≡ true
    one = grind (arith, nat_tests)

pub not_name : (u : Tree) (from to : Names) → is_same_name u from to ≡ false → IsName u from to → ⊥
not_name u from to other (inl same) = no_bool (sym (same_name_path u from to same) ∙ other)
not_name u from to other (inr (k, here, there)) = no_bool (sym (same_name_number u from to k here there) ∙ other)

paths_same : (p q : Names) → begins p q ≡ true → begins q p ≡ true → q ≡ p
paths_same p q e f = elim (split_front p q) [
  | inl within ↦ by within.1 within.2
  | inr out ↦ absurd (no_bool (sym e ∙ out.0))
]
  where
    by : (r : Names) → q ≡ p ++ r → q ≡ p
    by [] is = is ∙ append-nil p
    by (n ∷ r) is = absurd (omega (arith, ap length is, length-append p (n ∷ r), begins_length q p f))

pub is_name : (u : Tree) (from to : Names) → is_same_name u from to ≡ true → IsName u from to
is_name u from to e = by (begins from to) refl (begins to from) refl e
  where
    numbers : (j k : Option ℕ) → is_same_number j k ≡ true → (i : ℕ) × (j ≡ Some i) × (k ≡ Some i)
    numbers None k e = absurd (cc)
    numbers (Some j) None e = absurd (cc)
    numbers (Some j) (Some k) e = let same : k ≡ j = grind (arith, nat_tests) in (j, refl, ap (λ (i : ℕ). Some i) same)

    by : (a : Bool) → begins from to ≡ a → (b : Bool) → begins to from ≡ b → (a && b || is_same_number (number_at u from) (number_at u to)) ≡ true → IsName u from to
    by true f true g e = inl (paths_same from to f g)
    by true f false g e = inr (numbers (number_at u from) (number_at u to) e)
    by false f b g e = inr (numbers (number_at u from) (number_at u to) e)

not_false : (b : Bool) → not b ≡ false → b ≡ true
not_false true e = refl
not_false false e = absurd (cc)

module _ (u : Tree) (ls : List Tree) (from to : Names) where
  -- the tests of a rename before those of a move
  first_tests : first_error (tests (op.Rename from to) (u ∷ ls)) ≡ None
      → (walk_error (u ∷ ls) from ≡ None) × (walk_error (u ∷ ls) to ≡ None) × (is_some (seen (u ∷ ls) from) ≡ true) × (first_error (if is_same_name u from to then [] else move_tests u ls from to) ≡ None)
  first_tests passes =
      let later = if is_same_name u from to then [] else move_tests u ls from to in
      let found = error_if (not (is_some (seen (u ∷ ls) from))) NotFound in
      let root = error_if (is_root from || is_root to) Invalid in
      let first = test_passes (walk_error (u ∷ ls) from) (walk_error (u ∷ ls) to ∷ root ∷ found ∷ later) passes in
      let second = test_passes (walk_error (u ∷ ls) to) (root ∷ found ∷ later) first.1 in
      let third = test_passes root (found ∷ later) second.1 in
      let fourth = test_passes found later third.1 in
      (first.0, second.0, not_false (is_some (seen (u ∷ ls) from)) (error_if_passes (not (is_some (seen (u ∷ ls) from))) NotFound fourth.0), fourth.1)

  -- the tests of a move
  second_tests : first_error (move_tests u ls from to) ≡ None → ((is_shown_dir (seen (u ∷ ls) from) && begins from to) ≡ false) × ((is_shown_dir (seen (u ∷ ls) from) && not (is_pure u ls from)) ≡ false) × (has_names (u ∷ ls) to ≡ false)
  second_tests passes =
      let inner = error_if (is_shown_dir (seen (u ∷ ls) from) && begins from to) Invalid in
      let kind = kind_error (seen (u ∷ ls) from) (seen (u ∷ ls) to) in
      let cross = error_if (is_shown_dir (seen (u ∷ ls) from) && not (is_pure u ls from)) CrossDevice in
      let full = error_if (has_names (u ∷ ls) to) NotEmpty in
      let long = error_if (moves_too_long u from to) BadPath in
      let first = test_passes inner (kind ∷ cross ∷ full ∷ long ∷ []) passes in
      let second = test_passes kind (cross ∷ full ∷ long ∷ []) first.1 in
      let third = test_passes cross (full ∷ long ∷ []) second.1 in
      let fourth = test_passes full (long ∷ []) third.1 in (
        error_if_passes (is_shown_dir (seen (u ∷ ls) from) && begins from to) Invalid first.0,
        error_if_passes (is_shown_dir (seen (u ∷ ls) from) && not (is_pure u ls from)) CrossDevice third.0,
        error_if_passes (has_names (u ∷ ls) to) NotEmpty fourth.0,
      )

  module _ (ok : IsLayer u) (layers : AreLayers ls) (other : is_same_name u from to ≡ false) where
    -- `to` goes on from `from` only where a directory is seen there
    inside_no : walk_error (u ∷ ls) to ≡ None → (is_shown_dir (seen (u ∷ ls) from) && begins from to) ≡ false → begins from to ≡ false
    inside_no way none = elim (split_front from to) [
      | inl within ↦ absurd (by within.0 within.1 within.2)
      | inr out ↦ out.0
    ]
      where
        by : begins from to ≡ true → (r : Names) → to ≡ from ++ r → ⊥
        by begun [] is = no_bool (sym (same_name_path u from to (is ∙ append-nil from)) ∙ other)
        by begun (n ∷ r) is =
            let dir = walk_dir (u ∷ ls) from [] n r (ap (walk_error (u ∷ ls)) (sym is) ∙ way) in
            no_bool ((λ i. sym dir i && sym begun i) ∙ none)

    -- `from` goes on from `to` only where something is seen in `to`
    around_no : is_some (seen (u ∷ ls) from) ≡ true → has_names (u ∷ ls) to ≡ false → begins to from ≡ false
    around_no there empty = elim (split_front to from) [
      | inl within ↦ absurd (by within.1 within.2)
      | inr out ↦ out.0
    ]
      where
        clear : (n : List ℕ) → is_some (seen (u ∷ ls) (to ++ n ∷ [])) ≡ false
        clear n = sym ((listing_is (u ∷ ls) to).exactly n) ∙ ap (λ (ns : Names). list_any (bytes_eq n) ns) (nil_from (names (u ∷ ls) to) empty)

        by : (r : Names) → from ≡ to ++ r → ⊥
        by [] is = no_bool (sym (same_name_path u from to (sym (is ∙ append-nil to))) ∙ other)
        by (n ∷ r) is = no_bool (sym there ∙ ap is_some (ap (seen (u ∷ ls)) is ∙ nothing_under (u ∷ ls) (ok, layers) to clear n r))

    pub IsRenamable-passed : first_error (tests (op.Rename from to) (u ∷ ls)) ≡ None → IsRenamable u ls from to
    IsRenamable-passed passes =
        let first = first_tests passes in
        let second = second_tests (ap first_error (sym (cond-false (is_same_name u from to) [] (move_tests u ls from to) other)) ∙ first.3) in
        record {
          way_from = first.0;
          way_to = first.1;
          there = first.2;
          not_inside = inside_no first.1 second.0;
          not_around = around_no first.2 second.2;
          pure = λ dir. not_false (is_pure u ls from) (ap (λ b. b && not (is_pure u ls from)) (sym dir) ∙ second.1);
        }

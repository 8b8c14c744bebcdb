-- What the tests of a rename say of its paths.
use Rattle.std.proofs.Common.{◌≡◌, ◌⊎◌, inl, inr, ℕ, ◌≤◌, Bool, true, false, cond, not, List, [], ◌∷◌, ◌++◌, length, drop, Option, Some, None, IsSome, is_some, Result, Ok, Err, IfErr, refl, sym, ap, subst, ◌∙◌, arith, append_assoc, append-nil}
use Rattle.std.specs.Prelude.{nat_lt, ◌||◌, ◌&&◌, if◌then◌else◌}
use Rattle.std.specs.Result.{IsErrAnd}
use Rattle.std.specs.List.{list_any}
use Rattle.std.specs.List.Sorted.{IsStrictlySortedBy}
use Rattle.std.specs.Map.{lookup, keys_of}
use Rattle.std.specs.BTreeMap.{is_at}
use Rattle.std.specs.Str.{bytes_eq}
use Rattle.std.proofs.lemmas.Bool.{cond-true, cond-false}
use Rattle.std.proofs.lemmas.Bool.Decides.{nat_tests}
use Rattle.std.proofs.lemmas.Slice.Eq.{bytes_eq-Decides}
use Rattle.snap_path.specs.Limits.{most_path_bytes}
use Rattle.snap_path.specs.Memory.{no_memory}
use Rattle.snap_path.specs.Text.{Names, text_below, begins}
use Rattle.snap_layer.specs.declared.node.Node.{Node}
use Rattle.snap_layer.specs.Tree.{Tree, Entries, path_cmp, at, number_at}
use Rattle.snap_layer.specs.Layers.{IsLayer}
use Rattle.snap_layer.specs.Edits.{inside, relocated}
use Rattle.snap_layer.proofs.Lists.{at_itself}
use Rattle.snap_layer.proofs.Looks.{split_path}
use Rattle.snap_layer.proofs.Paths.{path_cmp_total, path_cmp-IsAntisymmetric, begins_from, begins_rest, drop-append, split_front}
use Rattle.snap_merge.specs.declared.error.FsError.{FsError}
use Rattle.snap_merge.specs.declared.error.FsError.TheVariants.{NotFound, Invalid, NotEmpty, CrossDevice, BadPath, OutOfMemory}
use Rattle.snap_merge.specs.Objects.{Object, seen, is_shown_dir, AreLayers}
use Rattle.snap_merge.specs.Walk.{walk_error, walk_from}
use Rattle.snap_merge.specs.Listing.{names}
use Rattle.snap_merge.proofs.Listings.{listing_is}
use Rattle.snap_merge.proofs.Above.{nothing_seen}
use Rattle.snap_copyup.specs.Copying.{is_pure}
use Rattle.snap_copyup.proofs.Alone.{walk_passes}
use Rattle.snap_upper.specs.declared.op.Op.TheVariants as op
use Rattle.snap_upper.specs.After.{tests, move_tests, first_error, error_if, kind_error, is_root, has_names, is_same_name, is_same_path, is_same_number, moves_too_long, is_late, lists_names}
use Rattle.snap_upper.proofs.Outcomes.{test_passes, error_if_passes}

no_bool : true ≡ false → ⊥
no_bool e = cc

or_false : (a b : Bool) → (a || b) ≡ false → (a ≡ false) × (b ≡ false)
or_false true b e = absurd (no_bool e)
or_false false b e = (refl, e)

-- ---- lists of tests

-- the first error of the front is that of all
pub front_fails : (xs ys : List (Option FsError)) (e : FsError) → first_error xs ≡ Some e → first_error (xs ++ ys) ≡ Some e
front_fails [] ys e is = absurd (cc)
front_fails (None ∷ xs) ys e is = front_fails xs ys e is
front_fails (Some x ∷ xs) ys e is = is

-- where the front passes, the rest decides
pub front_passes : (xs ys : List (Option FsError)) → first_error xs ≡ None → first_error (xs ++ ys) ≡ first_error ys
front_passes [] ys is = refl
front_passes (None ∷ xs) ys is = front_passes xs ys is
front_passes (Some x ∷ xs) ys is = absurd (cc)

-- the tests of a rename up to the one whether it has something to do
abbrev ends : List Tree → Names → Names → List (Option FsError)
ends s from to = walk_error s from ∷ walk_error s to ∷ error_if (is_root from || is_root to) Invalid ∷ error_if (not (is_some (seen s from))) NotFound ∷ []

-- an error is want of memory, or another's
pub or_memory : {A : Type 0} (P : FsError → Type 0) (r : Result A FsError) → IfErr r P → IfErr r (λ e. (e ≡ OutOfMemory no_memory) ⊎ P e)
or_memory P (Ok x) holds = holds
or_memory P (Err e) holds = inr holds

module _ (u : Tree) (ls : List Tree) (from to : Names) where
  -- their error is the rename's
  pub ends_fail : {A : Type 0} (s : List Tree) (r : Result A FsError) (x : FsError) → s ≡ u ∷ ls → IsErrAnd r (λ e. e ≡ x) → Some x ≡ first_error (ends s from to)
      → IfErr r (λ e. first_error (tests (op.Rename from to) (u ∷ ls)) ≡ Some e)
  ends_fail s (Ok b) x is same fails = absurd same
  ends_fail s (Err e) x is same fails = front_fails (ends (u ∷ ls) from to) (if is_same_name u from to then [] else move_tests u ls from to) e (ap (λ (z : List Tree). first_error (ends z from to)) (sym is) ∙ sym fails ∙ ap (λ (y : FsError). Some y) (sym same))

  -- where they pass, and the rename has something to do, its own tests decide
  pub move_decides : (s : List Tree) → s ≡ u ∷ ls → None ≡ first_error (ends s from to) → is_same_name u from to ≡ false → first_error (tests (op.Rename from to) (u ∷ ls)) ≡ first_error (move_tests u ls from to)
  move_decides s is passes other =
      front_passes (ends (u ∷ ls) from to) (if is_same_name u from to then [] else move_tests u ls from to) (ap (λ (z : List Tree). first_error (ends z from to)) (sym is) ∙ sym passes)
      ∙ ap first_error (cond-false (is_same_name u from to) [] (move_tests u ls from to) other)

  module _ {A : Type 0} (s : List Tree) (r : Result A FsError) (x : FsError) (is : s ≡ u ∷ ls) (passes : None ≡ first_error (ends s from to)) (other : is_same_name u from to ≡ false) (same : IsErrAnd r (λ e. e ≡ x)) where
    pub move_fails : first_error (move_tests u ls from to) ≡ Some x → IfErr r (λ e. first_error (tests (op.Rename from to) (u ∷ ls)) ≡ Some e)
    move_fails fails = by r same
      where
        by : (r : Result A FsError) → IsErrAnd r (λ e. e ≡ x) → IfErr r (λ e. first_error (tests (op.Rename from to) (u ∷ ls)) ≡ Some e)
        by (Ok b) same = absurd same
        by (Err e) same = move_decides s is passes other ∙ fails ∙ ap (λ (y : FsError). Some y) (sym same)

    pub move_fails_or : (x ≡ OutOfMemory no_memory) ⊎ (first_error (move_tests u ls from to) ≡ Some x) → IfErr r (λ e. (e ≡ OutOfMemory no_memory) ⊎ (first_error (tests (op.Rename from to) (u ∷ ls)) ≡ Some e))
    move_fails_or (inr fails) = or_memory (λ e. first_error (tests (op.Rename from to) (u ∷ ls)) ≡ Some e) r (move_fails fails)
    move_fails_or (inl memory) = by r same
      where
        by : (r : Result A FsError) → IsErrAnd r (λ e. e ≡ x) → IfErr r (λ e. (e ≡ OutOfMemory no_memory) ⊎ (first_error (tests (op.Rename from to) (u ∷ ls)) ≡ Some e))
        by (Ok b) same = absurd same
        by (Err e) same = inl (same ∙ memory)

-- no directory's names are listed for a rename that has something to do
pub move_lists_none : (u : Tree) (ls : List Tree) (from to : Names) → is_same_name u from to ≡ false → first_error (tests (op.Rename from to) (u ∷ ls)) ≡ first_error (move_tests u ls from to)
    → lists_names (op.Rename from to) (u ∷ ls) ≡ false → (is_shown_dir (seen (u ∷ ls) to) && is_late (first_error (move_tests u ls from to))) ≡ false
move_lists_none u ls from to other decides none = sym (λ i. not (other i) && is_shown_dir (seen (u ∷ ls) to) && is_late (decides i)) ∙ none

-- ---- a directory without names

-- in what is no directory nothing is seen
pub no_names : (s : List Tree) (p : Names) → AreLayers s → is_shown_dir (seen s p) ≡ false → has_names s p ≡ false
no_names s p layers no_dir = by (names s p) (listing_is s p).exactly
  where
    by : (ns : Names) → ((n : List ℕ) → list_any (bytes_eq n) ns ≡ is_some (seen s (p ++ n ∷ []))) → nat_lt 0 (length ns) ≡ false
    by [] exactly = refl
    by (n ∷ ns) exactly = absurd (no_bool (sym (ap (λ b. b || list_any (bytes_eq n) ns) ((bytes_eq-Decides n n).1 refl)) ∙ exactly n ∙ ap is_some (nothing_seen s layers [] p n no_dir)))

-- ---- the lengths of the moved paths

-- an entry's path would be too long under its new front
abbrev is_long : Names → Names → Names × Node → Bool
is_long from to e = nat_lt most_path_bytes (length (text_below (relocated from to e.0)))

-- an entry counts where it begins with `from`
among : (b : Bool) (from to : Names) (e : Names × Node) (es : Entries) → list_any (is_long from to) (cond b (e ∷ es) es) ≡ false → (b ≡ true → is_long from to e ≡ false) × (list_any (is_long from to) es ≡ false)
among true from to e es none = let both = or_false (is_long from to e) (list_any (is_long from to) es) none in (λ t. both.0, both.1)
among false from to e es none = (λ t. absurd (no_bool (sym t)), none)

short_from : (from to : Names) (es : Entries) → list_any (is_long from to) (inside from es) ≡ false → (r : Names) → IsSome (lookup (is_at (path_cmp (from ++ r))) es) → length (text_below (to ++ r)) ≤ most_path_bytes
short_from from to [] none r some = absurd (cc)
short_from from to (e ∷ es) none r some =
    let both = among (begins from e.0) from to e (inside from es) none in
    elim (split_path (from ++ r) e.0) [
      | inl same ↦ here (both.0 (begins_from from e.0 r (sym same.0))) same.0
      | inr apart ↦ short_from from to es both.1 r (subst IsSome (cond-false _ (Some e.1) (lookup (is_at (path_cmp (from ++ r))) es) apart.1) some)
    ]
  where
    here : is_long from to e ≡ false → from ++ r ≡ e.0 → length (text_below (to ++ r)) ≤ most_path_bytes
    here short same =
        let moved : relocated from to e.0 ≡ to ++ r = ap (λ (q : Names). to ++ drop (length from) q) (sym same) ∙ ap (λ (q : Names). to ++ q) (drop-append from r) in
        let fits : nat_lt most_path_bytes (length (text_below (to ++ r))) ≡ false = ap (λ (q : Names). nat_lt most_path_bytes (length (text_below q))) (sym moved) ∙ short in
        grind (arith, nat_tests)

all_short : (from to : Names) (es : Entries) → IsStrictlySortedBy path_cmp (keys_of es) → ((r : Names) → IsSome (lookup (is_at (path_cmp (from ++ r))) es) → length (text_below (to ++ r)) ≤ most_path_bytes) → list_any (is_long from to) (inside from es) ≡ false
unfolding IsStrictlySortedBy
all_short from to [] sorted short = refl
all_short from to (e ∷ es) sorted short = by (begins from e.0) refl (all_short from to es sorted.1 rest)
  where
    rest : (r : Names) → IsSome (lookup (is_at (path_cmp (from ++ r))) es) → length (text_below (to ++ r)) ≤ most_path_bytes
    rest r some = short r (elim (split_path (from ++ r) e.0) [
      | inl same ↦ ap is_some (cond-true _ (Some e.1) (lookup (is_at (path_cmp (from ++ r))) es) same.1)
      | inr apart ↦ subst IsSome (sym (cond-false _ (Some e.1) (lookup (is_at (path_cmp (from ++ r))) es) apart.1)) some
    ])

    by : (b : Bool) → begins from e.0 ≡ b → list_any (is_long from to) (inside from es) ≡ false → list_any (is_long from to) (cond b (e ∷ inside from es) (inside from es)) ≡ false
    by false is later = later
    by true is later =
        let r = drop (length from) e.0 in
        let whole : e.0 ≡ from ++ r = begins_rest from e.0 is in
        let there : IsSome (lookup (is_at (path_cmp (from ++ r))) (e ∷ es)) = ap is_some (cond-true _ (Some e.1) (lookup (is_at (path_cmp (from ++ r))) es) (subst (λ (q : Names). is_at (path_cmp q) e.0 ≡ true) whole (at_itself path_cmp_total path_cmp-IsAntisymmetric e.0))) in
        let fits : length (text_below (to ++ r)) ≤ most_path_bytes = short r there in
        let first : is_long from to e ≡ false = grind (arith, nat_tests) in
        (λ i. first i || later i)

-- no moved path is too long
pub short_paths : (u : Tree) (from to : Names) → moves_too_long u from to ≡ false → (r : Names) → IsSome (at u (from ++ r)) → length (text_below (to ++ r)) ≤ most_path_bytes
short_paths u from to short = short_from from to u.entries short

-- the layer's test says so
pub long_test : (u : Tree) (from to : Names) (b : Bool) → IsLayer u
    → (b ≡ true → (r : Names) → IsSome (at u (from ++ r)) → length (text_below (to ++ r)) ≤ most_path_bytes)
    → (((r : Names) → IsSome (at u (from ++ r)) → length (text_below (to ++ r)) ≤ most_path_bytes) → b ≡ true)
    → not b ≡ moves_too_long u from to
long_test u from to true ok there back = sym (all_short from to u.entries ok.sorted_paths (there refl))
long_test u from to false ok there back = by (moves_too_long u from to) refl
  where
    by : (c : Bool) → moves_too_long u from to ≡ c → true ≡ moves_too_long u from to
    by true e = sym e
    by false e = absurd (no_bool (sym (back (short_paths u from to e))))

-- ---- tests that have passed

-- what the tests say of a rename that has something to do
pub record IsRenamable (u : Tree) (ls : List Tree) (from to : Names) : Type 0 where
  -- both ways are walked, and neither path is the root
  pub way_from : walk_error (u ∷ ls) from ≡ None
  pub way_to : walk_error (u ∷ ls) to ≡ None
  pub not_root : to ≡ [] → ⊥
  -- something is seen at `from`, and neither path begins with the other
  pub there : is_some (seen (u ∷ ls) from) ≡ true
  pub not_inside : begins from to ≡ false
  pub not_around : begins to from ≡ false
  -- a directory that is renamed is pure, and replaces no other object
  pub kinds : kind_error (seen (u ∷ ls) from) (seen (u ∷ ls) to) ≡ None
  pub pure : is_shown_dir (seen (u ∷ ls) from) ≡ true → is_pure u ls from ≡ true
  -- nothing is seen in `to`, and no moved path is too long
  pub clear : (n : List ℕ) → is_some (seen (u ∷ ls) (to ++ n ∷ [])) ≡ false
  pub short : moves_too_long u from to ≡ false

-- above a path that is walked is a directory
dir_from : (s : List Tree) (q front : Names) (n : List ℕ) (r : Names) → walk_from s front (q ++ n ∷ r) ≡ None → is_shown_dir (seen s (front ++ q)) ≡ true
dir_from s [] front n r way = subst (λ (x : Names). is_shown_dir (seen s x) ≡ true) (sym (append-nil front)) (walk_passes (seen s front) (walk_from s (front ++ n ∷ []) r) way).0
dir_from s (m ∷ q) front n r way = subst (λ (x : Names). is_shown_dir (seen s x) ≡ true) (append_assoc front (m ∷ []) q) (dir_from s q (front ++ m ∷ []) n r (walk_passes (seen s front) (walk_from s (front ++ m ∷ []) (q ++ n ∷ r)) way).1)

pub dir_above : (s : List Tree) (p q : Names) (n : List ℕ) (r : Names) → walk_error s p ≡ None → p ≡ q ++ n ∷ r → is_shown_dir (seen s q) ≡ true
dir_above s p q n r way is = dir_from s q [] n r (ap (walk_error s) (sym is) ∙ way)

some_dir : (o : Option Object) → is_shown_dir o ≡ true → is_some o ≡ true
some_dir None e = absurd (cc)
some_dir (Some o) e = refl

root_not : (p : Names) → is_root p ≡ false → p ≡ [] → ⊥
root_not [] e is = no_bool e
root_not (n ∷ p) e is = cc

clear_from : (s : List Tree) (p : Names) → has_names s p ≡ false → (n : List ℕ) → is_some (seen s (p ++ n ∷ [])) ≡ false
clear_from s p none n = sym ((listing_is s p).exactly n) ∙ by (names s p) none
  where
    by : (ns : Names) → nat_lt 0 (length ns) ≡ false → list_any (bytes_eq n) ns ≡ false
    by [] e = refl
    by (m ∷ ns) e = absurd (grind (arith, nat_tests))

and_first : (a b : Bool) → (a && b) ≡ false → b ≡ true → a ≡ false
and_first true b e is = absurd (no_bool (sym is ∙ e))
and_first false b e is = refl

and_second : (a b : Bool) → (a && not b) ≡ false → a ≡ true → b ≡ true
and_second true true e is = refl
and_second true false e is = absurd (no_bool e)
and_second false b e is = absurd (no_bool (sym is))

-- the paths of the tests
module _ (s : List Tree) (from to : Names) (way_from : walk_error s from ≡ None) (way_to : walk_error s to ≡ None) (other : is_same_path from to ≡ false) where
  apart : begins from to ≡ true → begins to from ≡ true → ⊥
  apart e f = no_bool (sym (λ i. e i && f i) ∙ other)

  inside_not : (is_shown_dir (seen s from) && begins from to) ≡ false → begins from to ≡ false
  inside_not test = elim (split_front from to) [
    | inr out ↦ out.0
    | inl within ↦ absurd (by within.0 within.1 within.2)
  ]
    where
      by : begins from to ≡ true → (r : Names) → to ≡ from ++ r → ⊥
      by e [] is = apart e (begins_from to from [] (sym (append-nil from) ∙ sym is ∙ sym (append-nil to)))
      by e (n ∷ r) is = no_bool (sym (dir_above s to from n r way_to is) ∙ and_first (is_shown_dir (seen s from)) (begins from to) test e)

  around_not : is_some (seen s from) ≡ true → ((n : List ℕ) → is_some (seen s (to ++ n ∷ [])) ≡ false) → begins to from ≡ false
  around_not there clear = elim (split_front to from) [
    | inr out ↦ out.0
    | inl within ↦ absurd (by within.0 within.1 within.2)
  ]
    where
      seen_in : (n : List ℕ) (r : Names) → from ≡ to ++ n ∷ r → is_some (seen s (to ++ n ∷ [])) ≡ true
      seen_in n [] is = ap (λ (q : Names). is_some (seen s q)) (sym is) ∙ there
      seen_in n (m ∷ r) is = some_dir (seen s (to ++ n ∷ [])) (dir_above s from (to ++ n ∷ []) m r way_from (is ∙ sym (append_assoc to (n ∷ []) (m ∷ r))))

      by : begins to from ≡ true → (r : Names) → from ≡ to ++ r → ⊥
      by e [] is = apart (begins_from from to [] (sym (append-nil to) ∙ sym is ∙ sym (append-nil from))) e
      by e (n ∷ r) is = no_bool (sym (seen_in n r is) ∙ clear n)

pub renamable : (u : Tree) (ls : List Tree) (from to : Names) → first_error (tests (op.Rename from to) (u ∷ ls)) ≡ None → is_same_name u from to ≡ false → IsRenamable u ls from to
renamable u ls from to passes other =
    let s = u ∷ ls in
    let rest = if is_same_name u from to then [] else move_tests u ls from to in
    let missing = error_if (not (is_some (seen s from))) NotFound in
    let roots = error_if (is_root from || is_root to) Invalid in
    let one = test_passes (walk_error s from) (walk_error s to ∷ roots ∷ missing ∷ rest) passes in
    let two = test_passes (walk_error s to) (roots ∷ missing ∷ rest) one.1 in
    let three = test_passes roots (missing ∷ rest) two.1 in
    let four = test_passes missing rest three.1 in
    let tests_left : first_error (move_tests u ls from to) ≡ None = ap first_error (sym (cond-false (is_same_name u from to) [] (move_tests u ls from to) other)) ∙ four.1 in
    moved one.0 two.0 (or_false (is_root from) (is_root to) (error_if_passes (is_root from || is_root to) Invalid three.0)).1
    (not_not (is_some (seen s from)) (error_if_passes (not (is_some (seen s from))) NotFound four.0)) (or_false (is_same_path from to) (is_same_number (number_at u from) (number_at u to)) other).0 tests_left
  where
    not_not : (b : Bool) → not b ≡ false → b ≡ true
    not_not true e = refl
    not_not false e = absurd (no_bool e)

    moved : walk_error (u ∷ ls) from ≡ None → walk_error (u ∷ ls) to ≡ None → is_root to ≡ false → is_some (seen (u ∷ ls) from) ≡ true → is_same_path from to ≡ false → first_error (move_tests u ls from to) ≡ None → IsRenamable u ls from to
    moved way_from way_to root there apart left =
        let s = u ∷ ls in
        let is_dir = is_shown_dir (seen s from) in
        let kind = kind_error (seen s from) (seen s to) in
        let mixed = error_if (is_dir && not (is_pure u ls from)) CrossDevice in
        let full = error_if (has_names s to) NotEmpty in
        let long = error_if (moves_too_long u from to) BadPath in
        let one = test_passes (error_if (is_dir && begins from to) Invalid) (kind ∷ mixed ∷ full ∷ long ∷ []) left in
        let two = test_passes kind (mixed ∷ full ∷ long ∷ []) one.1 in
        let three = test_passes mixed (full ∷ long ∷ []) two.1 in
        let four = test_passes full (long ∷ []) three.1 in
        let five = test_passes long [] four.1 in
        let clear = clear_from s to (error_if_passes (has_names s to) NotEmpty four.0) in
        record {
          way_from = way_from;
          way_to = way_to;
          not_root = root_not to root;
          there = there;
          not_inside = inside_not s from to way_from way_to apart (error_if_passes (is_dir && begins from to) Invalid one.0);
          not_around = around_not s from to way_from way_to apart there clear;
          kinds = two.0;
          pure = and_second is_dir (is_pure u ls from) (error_if_passes (is_dir && not (is_pure u ls from)) CrossDevice three.0);
          clear = clear;
          short = error_if_passes (moves_too_long u from to) BadPath five.0;
        }

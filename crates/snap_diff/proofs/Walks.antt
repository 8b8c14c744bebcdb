-- The walk over what a layer changes.
use Rattle.std.proofs.Common.{◌≡◌, ◌<◌, ◌+◌, ◌-◌, ◌++◌, ℕ, zero, suc, length, take, arith, Bool, true, false, cond, List, [], ◌∷◌, Option, Some, None, Ok, Err, IsSome, refl, sym, ap, subst, ◌∙◌, append-nil, append_assoc, length-append}
use Rattle.std.proofs.lemmas.Bool.{le-ltb, lt-ltb}
use Rattle.std.specs.Prelude.{◌&&◌, ◌||◌, not, is_some, filter, nat_lt}
use Rattle.std.specs.List.{flat_map}
use Rattle.snap_path.specs.Limits.{most_path_bytes}
use Rattle.snap_path.specs.Text.{Names, IsPath, text_below}
use Rattle.snap_layer.specs.declared.node.Node.{Node}
use Rattle.snap_layer.specs.Tree.{Tree, at, hides, node_hides, IsDirAt}
use Rattle.snap_merge.specs.declared.error.FsError.{FsError}
use Rattle.snap_merge.specs.Objects.{Object, dir, file, symlink, seen, seen_over, is_shown_dir, AreLayers}
use Rattle.snap_merge.specs.Walk.{walk_error, unless}
use Rattle.snap_merge.specs.Listing.{names, names_of, gathered, listing}
use Rattle.snap_merge.proofs.Hiding.{hides_snoc}
use Rattle.snap_merge.proofs.Above.{nothing_seen, walk_to_seen}
use Rattle.snap_diff.specs.declared.change.ChangeKind.{ChangeKind}
use Rattle.snap_diff.specs.declared.change.Change.{Change}
use Rattle.snap_diff.specs.Changes.{change_at, layer_change, told_change, both_names, if_directory, changes_below, is_after, page, is_untouched, put_row, put_rows}

-- ---- the page

pub put_rows-append : (most : ℕ) (after : Option Names) (rows xs ys : List Change) → put_rows most after rows (xs ++ ys) ≡ put_rows most after (put_rows most after rows xs) ys
put_rows-append most after rows [] ys = refl
put_rows-append most after rows (x ∷ xs) ys = put_rows-append most after (put_row most after rows x) xs ys

no_room : (b c : Bool) → c ≡ false → (b && c) ≡ false
no_room true c e = e
no_room false c e = refl

-- a full page stays as it is
pub put_full : (most : ℕ) (after : Option Names) (rows xs : List Change) → nat_lt (length rows) most ≡ false → put_rows most after rows xs ≡ rows
put_full most after rows [] full = refl
put_full most after rows (x ∷ xs) full =
    ap (λ (b : Bool). put_rows most after (cond b (rows ++ x ∷ []) rows) xs) (no_room (is_after after x.path) (nat_lt (length rows) most) full)
    ∙ put_full most after rows xs full

-- ---- what is seen

unseen_filter : (s : List Tree) (p ns : Names) → ((n : List ℕ) → seen s (p ++ n ∷ []) ≡ None) → filter (λ n. is_some (seen s (p ++ n ∷ []))) ns ≡ []
unseen_filter s p [] none = refl
unseen_filter s p (n ∷ ns) none = ap (λ o. cond (is_some o) (n ∷ filter (λ m. is_some (seen s (p ++ m ∷ []))) ns) (filter (λ m. is_some (seen s (p ++ m ∷ []))) ns)) (none n) ∙ unseen_filter s p ns none

-- no name is seen in what is no directory
pub no_names : (s : List Tree) → AreLayers s → (p : Names) → is_shown_dir (seen s p) ≡ false → names s p ≡ []
no_names s ok p none = unseen_filter s p (gathered s p []) (λ n. nothing_seen s ok [] p n none)

clash : true ≡ false → ⊥
clash e = cc

some_dir : (o : Option Object) → is_shown_dir o ≡ true → IsSome o
some_dir None e = absurd (clash (sym e))
some_dir (Some o) e = refl

-- nor where a listing fails
pub no_listing : (s : List Tree) → AreLayers s → (p : Names) (e : FsError) → listing s p ≡ Err e → names s p ≡ []
no_listing s ok p e is = by (seen s p) refl
  where
    by : (o : Option Object) → seen s p ≡ o → names s p ≡ []
    by None o = no_names s ok p (ap is_shown_dir o)
    by (Some (dir meta)) o =
        let walked : walk_error s p ≡ None = walk_to_seen s ok p (some_dir (seen s p) (ap is_shown_dir o)) in
        let fine : listing s p ≡ Ok (names s p) = (λ i. unless (walked i) (names_of s p (o i))) in
        absurd (cc)
    by (Some (file meta content)) o = no_names s ok p (ap is_shown_dir o)
    by (Some (symlink target)) o = no_names s ok p (ap is_shown_dir o)

-- ---- where nothing changes

-- a path that the layer leaves untouched has no change, whatever is seen
no_change : (t : Tree) (ts : List Tree) (p : Names) → is_untouched t p ≡ true → told_change p (layer_change t ts p) ≡ []
no_change t ts p e = ap (λ b. told_change p (cond b None (change_at (seen ts p) (seen (t ∷ ts) p)))) e

-- at another one what is seen tells it
touched : (t : Tree) (ts : List Tree) (p : Names) → is_untouched t p ≡ false → layer_change t ts p ≡ change_at (seen ts p) (seen (t ∷ ts) p)
touched t ts p e = ap (λ b. cond b None (change_at (seen ts p) (seen (t ∷ ts) p))) e

empty_inside : (o : Option Object) (cs : List Change) → cs ≡ [] → if_directory o cs ≡ []
empty_inside None cs e = refl
empty_inside (Some (dir meta)) cs e = e
empty_inside (Some (file meta content)) cs e = refl
empty_inside (Some (symlink target)) cs e = refl

all_empty : (f : List ℕ → List Change) (ns : Names) → ((n : List ℕ) → f n ≡ []) → flat_map f ns ≡ []
all_empty f [] none = refl
all_empty f (n ∷ ns) none = λ i. none n i ++ all_empty f ns none i

-- the layer has nothing below a path that it doesn't have
below_untouched : (t : Tree) → ((p : Names) (n : List ℕ) → IsSome (at t (p ++ n ∷ [])) → IsDirAt (at t p)) → (p : Names) (n : List ℕ) → at t p ≡ None → at t (p ++ n ∷ []) ≡ None
below_untouched t parents p n none = by (at t (p ++ n ∷ [])) refl
  where
    nothing : (o : Option Node) → o ≡ None → IsDirAt o → ⊥
    nothing None e d = d
    nothing (Some x) e d = absurd (cc)

    by : (o : Option Node) → at t (p ++ n ∷ []) ≡ o → o ≡ None
    by None e = refl
    by (Some x) e = absurd (nothing (at t p) none (parents p n (subst IsSome (sym e) refl)))

-- so it leaves all below untouched, and nothing is changed there
pub untouched_below : (k : ℕ) (t : Tree) (ts : List Tree) → ((p : Names) (n : List ℕ) → IsSome (at t (p ++ n ∷ [])) → IsDirAt (at t p)) → (p : Names) → at t p ≡ None → hides t p ≡ false → changes_below k t ts p ≡ []
unfolding changes_below
untouched_below zero t ts parents p none shown = refl
untouched_below (suc k) t ts parents p none shown =
    let within : List Change = flat_map (λ name. changes_below k t ts (p ++ name ∷ [])) (both_names ts (t ∷ ts) p) in
    let next : (n : List ℕ) → changes_below k t ts (p ++ n ∷ []) ≡ [] = λ n. untouched_below k t ts parents (p ++ n ∷ []) (below_untouched t parents p n none) (hides_snoc t n p [] ∙ (λ i. shown i || node_hides (none i))) in
    let here : told_change p (layer_change t ts p) ≡ [] = no_change t ts p (λ i. not (is_some (none i)) && not (shown i)) in
    let there : if_directory (seen (t ∷ ts) p) within ≡ [] = empty_inside (seen (t ∷ ts) p) within (all_empty (λ name. changes_below k t ts (p ++ name ∷ [])) (both_names ts (t ∷ ts) p) next) in
    λ i. here i ++ there i

pub untouched : (k : ℕ) (t : Tree) (ts : List Tree) → AreLayers (t ∷ ts) → (p : Names) → is_untouched t p ≡ true → changes_below k t ts p ≡ []
untouched k t ts ok p is = by (at t p) refl (hides t p) refl is
  where
    by : (o : Option Node) → at t p ≡ o → (h : Bool) → hides t p ≡ h → (not (is_some o) && not h) ≡ true → changes_below k t ts p ≡ []
    by None none false shown e = untouched_below k t ts ok.0.parents p none shown
    by None none true shown e = absurd (cc)
    by (Some x) none h shown e = absurd (cc)

-- ---- what is no path

some_is : (o : Option Node) (x : Node) → o ≡ Some x → IsSome o
some_is None x e = absurd (cc)
some_is (Some y) x e = refl

nothing_else : {A : Type 0} (b : Bool) → cond {A = Option A} b None None ≡ None
nothing_else true = refl
nothing_else false = refl

no_object : (s : List Tree) → AreLayers s → (p : Names) → (IsPath p → ⊥) → seen s p ≡ None
no_object [] ok p bad = refl
no_object (t ∷ ts) ok p bad = by (at t p) refl (no_object ts ok.1 p bad)
  where
    by : (o : Option Node) → at t p ≡ o → seen ts p ≡ None → seen_over t o p (seen ts p) ≡ None
    by None is later = ap (λ u. cond (hides t p) None u) later ∙ nothing_else (hides t p)
    by (Some x) is later = absurd (bad (ok.0.paths p (some_is (at t p) x is)))

-- nothing is told where nothing is seen
pub nothing_below : (k : ℕ) (t : Tree) (ts : List Tree) (p : Names) → seen ts p ≡ None → seen (t ∷ ts) p ≡ None → changes_below k t ts p ≡ []
unfolding changes_below
nothing_below zero t ts p was is = refl
nothing_below (suc k) t ts p was is =
    (λ i. told_change p (cond (is_untouched t p) None (change_at (was i) (is i))) ++ if_directory (is i) (flat_map (λ name. changes_below k t ts (p ++ name ∷ [])) (both_names ts (t ∷ ts) p)))
    ∙ ap (λ o. told_change p o ++ []) (nothing_else (is_untouched t p))

pub no_changes : (k : ℕ) (t : Tree) (ts : List Tree) → AreLayers (t ∷ ts) → (p : Names) → (IsPath p → ⊥) → changes_below k t ts p ≡ []
no_changes k t ts ok p bad = nothing_below k t ts p (no_object ts ok.1 p bad) (no_object (t ∷ ts) ok p bad)

pub too_long : (p : Names) → most_path_bytes < length (text_below p) → IsPath p → ⊥
too_long p long is = let short = is.1 in omega arith

-- ---- one path

-- the changes at a path, and those in the directory that is seen there
pub at_path : (k : ℕ) (t : Tree) (ts : List Tree) (p : Names) → (k ≡ 0 → ⊥) → changes_below k t ts p ≡ told_change p (layer_change t ts p) ++ if_directory (seen (t ∷ ts) p) (flat_map (λ name. changes_below (k - 1) t ts (p ++ name ∷ [])) (both_names ts (t ∷ ts) p))
unfolding changes_below
at_path zero t ts p more = absurd (more refl)
at_path (suc k) t ts p more =
    let less : k ≡ suc k - 1 = omega arith in
    ap (λ (m : ℕ). told_change p (layer_change t ts p) ++ if_directory (seen (t ∷ ts) p) (flat_map (λ name. changes_below m t ts (p ++ name ∷ [])) (both_names ts (t ∷ ts) p))) less

pub inside_dir : (o : Option Object) (cs : List Change) → is_shown_dir o ≡ true → if_directory o cs ≡ cs
inside_dir None cs e = absurd (cc)
inside_dir (Some (dir meta)) cs e = refl
inside_dir (Some (file meta content)) cs e = absurd (cc)
inside_dir (Some (symlink target)) cs e = absurd (cc)

pub inside_none : (o : Option Object) (cs : List Change) → is_shown_dir o ≡ false → if_directory o cs ≡ []
inside_none None cs e = refl
inside_none (Some (dir meta)) cs e = absurd (cc)
inside_none (Some (file meta content)) cs e = refl
inside_none (Some (symlink target)) cs e = refl

-- no name is told where none is left
pub none_deep : (k : ℕ) (t : Tree) (ts : List Tree) (p : Names) → k ≡ 0 → changes_below k t ts p ≡ []
unfolding changes_below
none_deep zero t ts p e = refl
none_deep (suc k) t ts p e = absurd (omega arith)

-- the change at a path, and then those in the directory
pub put_dir : (most : ℕ) (after : Option Names) (rows first all : List Change) (k : ℕ) (t : Tree) (ts : List Tree) (p : Names) (old new : Option Object) (kind : Option ChangeKind)
    → old ≡ seen ts p → new ≡ seen (t ∷ ts) p → kind ≡ change_at old new → is_shown_dir new ≡ true → (k ≡ 0 → ⊥) → is_untouched t p ≡ false
    → first ≡ put_rows most after rows (told_change p kind)
    → all ≡ put_rows most after first (flat_map (λ name. changes_below (k - 1) t ts (p ++ name ∷ [])) (both_names ts (t ∷ ts) p))
    → all ≡ put_rows most after rows (changes_below k t ts p)
put_dir most after rows first all k t ts p old new kind was is told directory more touches one rest =
    let within : List Change = flat_map (λ name. changes_below (k - 1) t ts (p ++ name ∷ [])) (both_names ts (t ∷ ts) p) in
    let same_row : told_change p kind ≡ told_change p (layer_change t ts p) = ap (told_change p) (told ∙ (λ i. change_at (was i) (is i)) ∙ sym (touched t ts p touches)) in
    let same_inside : within ≡ if_directory (seen (t ∷ ts) p) within = sym (inside_dir (seen (t ∷ ts) p) within (ap is_shown_dir (sym is) ∙ directory)) in
    rest
    ∙ ap (λ (rs : List Change). put_rows most after rs within) one
    ∙ sym (put_rows-append most after rows (told_change p kind) within)
    ∙ (λ i. put_rows most after rows (same_row i ++ same_inside i))
    ∙ ap (put_rows most after rows) (sym (at_path k t ts p more))

-- the change at a path that shows no directory
pub put_other : (most : ℕ) (after : Option Names) (rows first : List Change) (k : ℕ) (t : Tree) (ts : List Tree) (p : Names) (old new : Option Object) (kind : Option ChangeKind)
    → old ≡ seen ts p → new ≡ seen (t ∷ ts) p → kind ≡ change_at old new → is_shown_dir new ≡ false → (k ≡ 0 → ⊥) → is_untouched t p ≡ false
    → first ≡ put_rows most after rows (told_change p kind)
    → first ≡ put_rows most after rows (changes_below k t ts p)
put_other most after rows first k t ts p old new kind was is told other more touches one =
    let within : List Change = flat_map (λ name. changes_below (k - 1) t ts (p ++ name ∷ [])) (both_names ts (t ∷ ts) p) in
    let same_row : told_change p kind ≡ told_change p (layer_change t ts p) = ap (told_change p) (told ∙ (λ i. change_at (was i) (is i)) ∙ sym (touched t ts p touches)) in
    let nothing : [] ≡ if_directory (seen (t ∷ ts) p) within = sym (inside_none (seen (t ∷ ts) p) within (ap is_shown_dir (sym is) ∙ other)) in
    one
    ∙ ap (put_rows most after rows) (sym (append-nil (told_change p kind)))
    ∙ (λ i. put_rows most after rows (same_row i ++ nothing i))
    ∙ ap (put_rows most after rows) (sym (at_path k t ts p more))

-- ---- all of a page

-- a page with room for this number more
after_all : (most : ℕ) (after : Option Names) (k : ℕ) (rows : List Change) → length rows + k ≡ most → (xs : List Change) → put_rows most after rows xs ≡ rows ++ take k (filter (λ change. is_after after change.path) xs)
after_all most after zero rows e xs = put_full most after rows xs (le-ltb (length rows) most (omega arith)) ∙ sym (append-nil rows)
after_all most after (suc k) rows e [] = sym (append-nil rows)
after_all most after (suc k) rows e (x ∷ xs) =
    by (is_after after x.path) refl (lt-ltb (length rows) most (omega arith))
    (after_all most after k (rows ++ x ∷ []) (omega (arith, length-append rows (x ∷ []))) xs) (after_all most after (suc k) rows e xs)
  where
    by : (b : Bool) → is_after after x.path ≡ b → nat_lt (length rows) most ≡ true
        → put_rows most after (rows ++ x ∷ []) xs ≡ (rows ++ x ∷ []) ++ take k (filter (λ change. is_after after change.path) xs)
        → put_rows most after rows xs ≡ rows ++ take (suc k) (filter (λ change. is_after after change.path) xs)
        → put_rows most after rows (x ∷ xs) ≡ rows ++ take (suc k) (filter (λ change. is_after after change.path) (x ∷ xs))
    by true is room kept skipped =
        (λ i. put_rows most after (cond (is i && room i) (rows ++ x ∷ []) rows) xs)
        ∙ kept
        ∙ append_assoc rows (x ∷ []) (take k (filter (λ change. is_after after change.path) xs))
        ∙ ap (λ b. rows ++ take (suc k) (cond b (x ∷ filter (λ change. is_after after change.path) xs) (filter (λ change. is_after after change.path) xs))) (sym is)
    by false is room kept skipped =
        (λ i. put_rows most after (cond (is i && room i) (rows ++ x ∷ []) rows) xs)
        ∙ skipped
        ∙ ap (λ b. rows ++ take (suc k) (cond b (x ∷ filter (λ change. is_after after change.path) xs) (filter (λ change. is_after after change.path) xs))) (sym is)

pub put_page : (most : ℕ) (after : Option Names) (xs : List Change) → put_rows most after [] xs ≡ page after most xs
put_page most after xs = after_all most after most [] (omega arith) xs

-- What comes before a page, with all that is below it.
use Rattle.std.proofs.Common.{◌≡◌, ℕ, zero, suc, Bool, true, false, cond, List, [], ◌∷◌, ◌++◌, length, Option, Some, None, refl, sym, ap, ◌∙◌, append-nil, append_assoc}
use Rattle.std.specs.Prelude.{◌&&◌, not, nat_lt}
use Rattle.std.specs.declared.cmp.Ordering.{Ordering}
use Rattle.std.specs.declared.cmp.Ordering.TheVariants.{Less, Equal, Greater}
use Rattle.std.specs.Ordering.{is_eq, is_gt, is_lt, ordering_then}
use Rattle.std.specs.Cmp.{unsigned_Decides}
use Rattle.std.specs.Cmp.Lexicographic.{pointwise_decides, texts_ties}
use Rattle.std.specs.List.{flat_map}
use Rattle.std.specs.Str.{bytes_eq}
use Rattle.std.proofs.lemmas.Slice.Eq.{bytes_eq-Decides}
use Rattle.snap_path.specs.Text.{Names, begins}
use Rattle.snap_layer.specs.Tree.{Tree, path_cmp}
use Rattle.snap_merge.specs.Objects.{Object, dir, file, symlink, seen}
use Rattle.snap_layer.specs.Rows.{name_cmp}
use Rattle.snap_diff.specs.declared.change.ChangeKind.{ChangeKind}
use Rattle.snap_diff.specs.declared.change.Change.{Change}
use Rattle.snap_diff.specs.Changes.{both_names, layer_change, changes_below, if_directory, is_past, put_rows, told_change}
use Rattle.snap_diff.proofs.Walks.{put_rows-append}

-- a path after another, which is none of its fronts, comes after all below that one
past_all : (a p r : Names) → is_gt (path_cmp a p) ≡ true → begins p a ≡ false → is_lt (path_cmp a (p ++ r)) ≡ false
past_all [] [] r above apart = absurd (cc)
past_all [] (y ∷ p) r above apart = absurd (cc)
past_all (x ∷ a) [] r above apart = absurd (cc)
past_all (x ∷ a) (y ∷ p) r above apart = by (name_cmp x y) refl (past_all a p r)
  where
    by : (o : Ordering) → name_cmp x y ≡ o → (is_gt (path_cmp a p) ≡ true → begins p a ≡ false → is_lt (path_cmp a (p ++ r)) ≡ false) → is_lt (ordering_then (name_cmp x y) (path_cmp a (p ++ r))) ≡ false
    by Less e later =
        let no : false ≡ true = ap (λ o. is_gt (ordering_then o (path_cmp a p))) (sym e) ∙ above in
        absurd (cc)
    by Greater e later = ap (λ o. is_lt (ordering_then o (path_cmp a (p ++ r)))) e
    by Equal e later =
        let same : x ≡ y = (pointwise_decides unsigned_Decides x y).0 (texts_ties x y ∙ ap is_eq e) in
        let first : bytes_eq y x ≡ true = (bytes_eq-Decides y x).1 (sym same) in
        ap (λ o. is_lt (ordering_then o (path_cmp a (p ++ r)))) e
        ∙ later (ap (λ o. is_gt (ordering_then o (path_cmp a p))) (sym e) ∙ above) (ap (λ b. b && begins p a) (sym first) ∙ apart)

pub skip_row : (most : ℕ) (a : Names) (rows : List Change) (q : Names) (kind : Option ChangeKind) → is_lt (path_cmp a q) ≡ false → put_rows most (Some a) rows (told_change q kind) ≡ rows
skip_row most a rows q None e = refl
skip_row most a rows q (Some kind) e = ap (λ b. cond (b && nat_lt (length rows) most) (rows ++ record { kind = kind; path = q } ∷ []) rows) e

skip_names : (most : ℕ) (a : Names) (rows : List Change) (f : List ℕ → List Change) → ((n : List ℕ) → put_rows most (Some a) rows (f n) ≡ rows) → (ns : Names) → put_rows most (Some a) rows (flat_map f ns) ≡ rows
skip_names most a rows f each [] = refl
skip_names most a rows f each (n ∷ ns) =
    put_rows-append most (Some a) rows (f n) (flat_map f ns)
    ∙ ap (λ (rs : List Change). put_rows most (Some a) rs (flat_map f ns)) (each n)
    ∙ skip_names most a rows f each ns

skip_inside : (most : ℕ) (a : Names) (rows : List Change) (o : Option Object) (cs : List Change) → put_rows most (Some a) rows cs ≡ rows → put_rows most (Some a) rows (if_directory o cs) ≡ rows
skip_inside most a rows None cs e = refl
skip_inside most a rows (Some (dir meta)) cs e = e
skip_inside most a rows (Some (file meta content)) cs e = refl
skip_inside most a rows (Some (symlink target)) cs e = refl

skip_below : (k : ℕ) (t : Tree) (ts : List Tree) (most : ℕ) (a : Names) (rows : List Change) (p : Names) → is_gt (path_cmp a p) ≡ true → begins p a ≡ false → (r : Names) → put_rows most (Some a) rows (changes_below k t ts (p ++ r)) ≡ rows
unfolding changes_below
skip_below zero t ts most a rows p above apart r = refl
skip_below (suc k) t ts most a rows p above apart r =
    let q : Names = p ++ r in
    let here : List Change = told_change q (layer_change t ts q) in
    let within : List Change = flat_map (λ name. changes_below k t ts (q ++ name ∷ [])) (both_names ts (t ∷ ts) q) in
    let each : (n : List ℕ) → put_rows most (Some a) rows (changes_below k t ts (q ++ n ∷ [])) ≡ rows = λ n. ap (λ (x : Names). put_rows most (Some a) rows (changes_below k t ts x)) (append_assoc p r (n ∷ [])) ∙ skip_below k t ts most a rows p above apart (r ++ n ∷ []) in
    put_rows-append most (Some a) rows here (if_directory (seen (t ∷ ts) q) within)
    ∙ ap (λ (rs : List Change). put_rows most (Some a) rs (if_directory (seen (t ∷ ts) q) within)) (skip_row most a rows q (layer_change t ts q) (past_all a p r above apart))
    ∙ skip_inside most a rows (seen (t ∷ ts) q) within (skip_names most a rows (λ name. changes_below k t ts (q ++ name ∷ [])) each (both_names ts (t ∷ ts) q))

-- nothing at a path and below it is of the page, where the page begins past all of it
pub skipped : (k : ℕ) (t : Tree) (ts : List Tree) (most : ℕ) (after : Option Names) (rows : List Change) (p : Names) → is_past after p ≡ true → put_rows most after rows (changes_below k t ts p) ≡ rows
skipped k t ts most None rows p past = absurd (cc)
skipped k t ts most (Some a) rows p past = by (is_gt (path_cmp a p)) refl (begins p a) refl past
  where
    by : (g : Bool) → is_gt (path_cmp a p) ≡ g → (b : Bool) → begins p a ≡ b → (g && not b) ≡ true → put_rows most (Some a) rows (changes_below k t ts p) ≡ rows
    by true above false apart e = ap (λ (x : Names). put_rows most (Some a) rows (changes_below k t ts x)) (sym (append-nil p)) ∙ skip_below k t ts most a rows p above apart []
    by true above true apart e = absurd (cc)
    by false above b apart e = absurd (cc)

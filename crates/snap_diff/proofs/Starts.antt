-- Where in a directory a page begins: what comes before is none of it.
use Rattle.std.proofs.Common.{◌≡◌, ℕ, Bool, true, false, cond, List, [], ◌∷◌, ◌++◌, length, drop, Option, Some, None, refl, sym, ap, ◌∙◌, append_assoc}
use Rattle.std.specs.Prelude.{◌&&◌, not}
use Rattle.std.specs.declared.cmp.Ordering.{Ordering}
use Rattle.std.specs.declared.cmp.Ordering.TheVariants.{Less, Equal, Greater}
use Rattle.std.specs.Ordering.{is_gt, is_le, ordering_then}
use Rattle.std.specs.Cmp.Lexicographic.{nat_list_cmp_total}
use Rattle.std.specs.List.{flat_map, slice_get}
use Rattle.std.specs.BTreeMap.Range.{range_contains}
use Rattle.std.specs.declared.ops.Bound.{Bound}
use Rattle.std.specs.declared.ops.Bound.TheVariants.{Unbounded}
use Rattle.std.proofs.lemmas.Cmp.{tied_itself}
use Rattle.snap_path.specs.Text.{Names, begins}
use Rattle.snap_layer.specs.declared.node.Node.{Node}
use Rattle.snap_layer.specs.Tree.{Tree, path_cmp}
use Rattle.snap_layer.specs.Directory.{Directory, names_from}
use Rattle.snap_layer.proofs.Inside.{cmp_front}
use Rattle.snap_layer.proofs.Paths.{append-cancel, begins_rest}
use Rattle.snap_merge.specs.Objects.{AreLayers}
use Rattle.snap_layer.specs.Rows.{name_cmp}
use Rattle.snap_diff.specs.declared.change.Change.{Change}
use Rattle.snap_diff.specs.Changes.{bound_at, both_names, changes_below, is_merged, is_past, is_untouched, page_start, put_rows}
use Rattle.snap_diff.specs.Places.{directory_names, IsOwnPlace}
use Rattle.snap_diff.proofs.Names.{own_names}
use Rattle.snap_diff.proofs.Places.{shared_dir}
use Rattle.snap_diff.proofs.Walks.{put_rows-append}
use Rattle.snap_diff.proofs.Pages.{skipped}

-- the name past a front
pub get_rest : (p r : Names) → slice_get (p ++ r) (length p) ≡ slice_get r 0
get_rest [] r = refl
get_rest (x ∷ p) r = get_rest p r

-- a path that leads through the directory at another name, which comes later, comes after all at the first name
pub past_name : (p r : Names) (m n : List ℕ) → name_cmp m n ≡ Greater → is_past (Some (p ++ m ∷ r)) (p ++ n ∷ []) ≡ true
past_name p r m n e = λ i. is_gt (order i) && not (apart (begins (p ++ n ∷ []) (p ++ m ∷ r)) refl i)
  where
    order : path_cmp (p ++ m ∷ r) (p ++ n ∷ []) ≡ Greater
    order = cmp_front p (m ∷ r) (n ∷ []) ∙ ap (λ o. ordering_then o (path_cmp r [])) e

    same : begins (p ++ n ∷ []) (p ++ m ∷ r) ≡ true → m ≡ n
    same b =
        let rest : Names = drop (length (p ++ n ∷ [])) (p ++ m ∷ r) in
        let both : m ∷ r ≡ n ∷ rest = append-cancel p (m ∷ r) (n ∷ rest) (begins_rest (p ++ n ∷ []) (p ++ m ∷ r) b ∙ append_assoc p (n ∷ []) rest) in
        cc

    apart : (b : Bool) → begins (p ++ n ∷ []) (p ++ m ∷ r) ≡ b → b ≡ false
    apart false b = refl
    apart true b =
        let tied : Greater ≡ Equal = sym e ∙ ap (name_cmp m) (sym (same b)) ∙ tied_itself nat_list_cmp_total m in
        absurd (cc)

-- the page begins after all at a name that comes before its place
before_start : (after : Option Names) (p : Names) (n : List ℕ) → range_contains name_cmp (page_start after p) Unbounded n ≡ false → is_past after (p ++ n ∷ []) ≡ true
before_start None p n out = absurd (cc)
before_start (Some a) p n out = by (begins p a) refl out
  where
    greater : (o : Ordering) → (is_le o && true) ≡ false → o ≡ Greater
    greater Less f = absurd (cc)
    greater Equal f = absurd (cc)
    greater Greater f = refl

    rest : (r : Names) → a ≡ p ++ r → range_contains name_cmp (bound_at (slice_get a (length p))) Unbounded n ≡ false → is_past (Some a) (p ++ n ∷ []) ≡ true
    rest [] is f =
        let no : true ≡ false = ap (λ (o : Option (List ℕ)). range_contains name_cmp (bound_at o) Unbounded n) (sym (ap (λ (x : Names). slice_get x (length p)) is ∙ get_rest p [])) ∙ f in
        absurd (cc)
    rest (m ∷ r) is f =
        let later : (is_le (name_cmp m n) && true) ≡ false = ap (λ (o : Option (List ℕ)). range_contains name_cmp (bound_at o) Unbounded n) (sym (ap (λ (x : Names). slice_get x (length p)) is ∙ get_rest p (m ∷ r))) ∙ f in
        ap (λ (x : Names). is_past (Some x) (p ++ n ∷ [])) is ∙ past_name p r m n (greater (name_cmp m n) later)

    by : (b : Bool) → begins p a ≡ b → range_contains name_cmp (cond b (bound_at (slice_get a (length p))) Unbounded) Unbounded n ≡ false → is_past (Some a) (p ++ n ∷ []) ≡ true
    by true begun f = rest (drop (length p) a) (begins_rest p a begun) f
    by false begun f = absurd (cc)

-- names that tell nothing of the page may be left out
left_out : (most : ℕ) (after : Option Names) (start : Bound (List ℕ)) (f : List ℕ → List Change)
    → ((n : List ℕ) → range_contains name_cmp start Unbounded n ≡ false → (rows : List Change) → put_rows most after rows (f n) ≡ rows)
    → (ns : Names) (rows : List Change) → put_rows most after rows (flat_map f (names_from start ns)) ≡ put_rows most after rows (flat_map f ns)
left_out most after start f none [] rows = refl
left_out most after start f none (n ∷ ns) rows = by (left_out most after start f none ns) (range_contains name_cmp start Unbounded n) refl
  where
    by : ((rs : List Change) → put_rows most after rs (flat_map f (names_from start ns)) ≡ put_rows most after rs (flat_map f ns)) → (b : Bool) → range_contains name_cmp start Unbounded n ≡ b
        → put_rows most after rows (flat_map f (cond b (n ∷ names_from start ns) (names_from start ns))) ≡ put_rows most after rows (f n ++ flat_map f ns)
    by later true is =
        put_rows-append most after rows (f n) (flat_map f (names_from start ns))
        ∙ later (put_rows most after rows (f n))
        ∙ sym (put_rows-append most after rows (f n) (flat_map f ns))
    by later false is =
        later rows
        ∙ sym (put_rows-append most after rows (f n) (flat_map f ns) ∙ ap (λ (rs : List Change). put_rows most after rs (flat_map f ns)) (none n is rows))

-- so the names before the place of the page may be
pub from_start : (k : ℕ) (t : Tree) (ts : List Tree) (most : ℕ) (after : Option Names) (rows : List Change) (p ns : Names)
    → put_rows most after rows (flat_map (λ name. changes_below k t ts (p ++ name ∷ [])) (names_from (page_start after p) ns)) ≡ put_rows most after rows (flat_map (λ name. changes_below k t ts (p ++ name ∷ [])) ns)
from_start k t ts most after rows p ns = left_out most after (page_start after p) (λ name. changes_below k t ts (p ++ name ∷ [])) (λ n out rs. skipped k t ts most after rs (p ++ n ∷ []) (before_start after p n out)) ns rows

-- in a directory that the layer shares with the layers below its own names tell all changes
pub shared_names : (k : ℕ) (t : Tree) (ts : List Tree) → AreLayers (t ∷ ts) → (p : Names) (node : Option Node) (dir : Option Directory) (hidden : Bool) → IsOwnPlace t p node dir hidden → is_untouched t p ≡ false → is_merged t p ≡ true
    → flat_map (λ name. changes_below k t ts (p ++ name ∷ [])) (directory_names dir) ≡ flat_map (λ name. changes_below k t ts (p ++ name ∷ [])) (both_names ts (t ∷ ts) p)
shared_names k t ts ok p node dir hidden own touched merged =
    ap (λ (d : Option Directory). flat_map (λ name. changes_below k t ts (p ++ name ∷ [])) (directory_names d)) (shared_dir t p node dir hidden own touched merged)
    ∙ own_names k t ts ok p merged

-- The way to the place where a page begins: nothing at its directories is told, and in each of them nothing at the names before the next one.
use Rattle.std.proofs.Common.{◌≡◌, ℕ, zero, suc, ◌+◌, ◌-◌, ◌<◌, get_or, Bool, true, false, cond, List, [], ◌∷◌, ◌++◌, length, take, Option, Some, None, refl, sym, ap, ◌∙◌, append-nil, add-one, arith}
use Rattle.std.specs.Prelude.{◌&&◌, not, is_some}
use Rattle.std.specs.Ordering.{is_lt}
use Rattle.std.specs.List.{flat_map, slice_get}
use Rattle.std.specs.declared.ops.Bound.TheVariants.{Excluded, Included, Unbounded}
use Rattle.snap_path.specs.Text.{Names, begins}
use Rattle.snap_layer.specs.declared.node.Node.{Node}
use Rattle.snap_layer.specs.declared.node.Node.TheVariants.{Dir, File, Symlink, Whiteout}
use Rattle.snap_layer.specs.Tree.{Tree, at, hides, node_hides, path_cmp}
use Rattle.snap_layer.specs.Directory.{Directory, names_from}
use Rattle.snap_layer.proofs.Inside.{cmp_front}
use Rattle.snap_layer.proofs.Paths.{begins_from}
use Rattle.snap_merge.specs.Objects.{seen, is_shown_dir, AreLayers}
use Rattle.snap_merge.proofs.Views.{seen_node}
use Rattle.snap_diff.specs.declared.change.Change.{Change}
use Rattle.snap_diff.specs.Changes.{bound_at, both_names, changes_below, if_directory, is_merged, is_untouched, layer_change, page_start, put_rows, told_change}
use Rattle.snap_diff.specs.Places.{directory_names, IsOwnPlace}
use Rattle.snap_diff.proofs.Pages.{skip_row}
use Rattle.snap_diff.proofs.Starts.{from_start, get_rest, shared_names}
use Rattle.snap_diff.proofs.Walks.{at_path, inside_dir, put_rows-append}

-- ---- fronts

split_at : (a : Names) (j : ℕ) (n : List ℕ) → slice_get a j ≡ Some n → (r : Names) × (a ≡ take j a ++ n ∷ r)
split_at [] j n e = absurd (cc)
split_at (x ∷ a) zero n e = let same : x ≡ n = cc in (a, ap (λ (y : List ℕ). y ∷ a) same)
split_at (x ∷ a) (suc j) n e = let on = split_at a j n e in (on.0, ap (λ (r : Names). x ∷ r) on.1)

front_suc : (a : Names) (j : ℕ) (n : List ℕ) → slice_get a j ≡ Some n → take (suc j) a ≡ take j a ++ n ∷ []
front_suc [] j n e = absurd (cc)
front_suc (x ∷ a) zero n e = let same : x ≡ n = cc in ap (λ (y : List ℕ). y ∷ []) same
front_suc (x ∷ a) (suc j) n e = ap (λ (r : Names). x ∷ r) (front_suc a j n e)

pub next_front : (a : Names) (j : ℕ) (n : List ℕ) → slice_get a j ≡ Some n → take (j + 1) a ≡ take j a ++ n ∷ []
next_front a j n e = ap (λ (i : ℕ). take i a) (add-one j) ∙ front_suc a j n e

pub some_at : (a : Names) (j : ℕ) (n : List ℕ) → j < length a → n ≡ get_or a j n → slice_get a j ≡ Some n
some_at a j n less is = read a j less ∙ ap Some (sym is)
  where
    read : (xs : Names) (i : ℕ) → i < length xs → slice_get xs i ≡ Some (get_or xs i n)
    read [] i l = absurd (omega arith)
    read (x ∷ xs) zero l = refl
    read (x ∷ xs) (suc i) l = read xs i (omega arith)

module _ (a : Names) (j : ℕ) (n : List ℕ) (is : slice_get a j ≡ Some n) where
  parts : (r : Names) × (a ≡ take j a ++ n ∷ r)
  parts = split_at a j n is

  -- a front comes before the path
  before : is_lt (path_cmp a (take j a)) ≡ false
  before =
      ap (λ (x : Names). is_lt (path_cmp x (take j a))) parts.1
      ∙ ap (λ (x : Names). is_lt (path_cmp (take j a ++ n ∷ parts.0) x)) (sym (append-nil (take j a)))
      ∙ ap is_lt (cmp_front (take j a) (n ∷ parts.0) [])

  place_at : page_start (Some a) (take j a) ≡ Included n
  place_at = λ i. cond (begun i) (bound_at (name i)) Unbounded
    where
      begun : begins (take j a) a ≡ true
      begun = begins_from (take j a) a (n ∷ parts.0) parts.1

      name : slice_get a (length (take j a)) ≡ Some n
      name = ap (λ (x : Names). slice_get x (length (take j a))) parts.1 ∙ get_rest (take j a) (n ∷ parts.0)

-- ---- a directory on the way, which the layer shares with the layers below

shown_dir : (t : Tree) (ts : List Tree) (p : Names) → is_untouched t p ≡ false → is_merged t p ≡ true → is_shown_dir (seen (t ∷ ts) p) ≡ true
shown_dir t ts p touched merged = by (at t p) refl touched merged
  where
    by : (o : Option Node) → at t p ≡ o → (not (is_some o) && not (hides t p)) ≡ false → (not (node_hides o) && not (hides t p)) ≡ true → is_shown_dir (seen (t ∷ ts) p) ≡ true
    by None e f g = absurd (cc)
    by (Some (Dir meta opaque)) e f g = ap is_shown_dir (seen_node t ts p (Dir meta opaque) e)
    by (Some (File k)) e f g = absurd (cc)
    by (Some (Symlink k)) e f g = absurd (cc)
    by (Some Whiteout) e f g = absurd (cc)

module _ (k : ℕ) (t : Tree) (ts : List Tree) (ok : AreLayers (t ∷ ts)) (most : ℕ) (a : Names) (j : ℕ) (n : List ℕ) (is : slice_get a j ≡ Some n) (rows : List Change) (node : Option Node) (dir : Option Directory) (hidden : Bool) (own : IsOwnPlace t (take j a) node dir hidden) (touched : is_untouched t (take j a) ≡ false) (merged : is_merged t (take j a) ≡ true) (more : k ≡ 0 → ⊥) where
  abbrev p : Names
  p = take j a

  abbrev each : List ℕ → List Change
  each name = changes_below (k - 1) t ts (take j a ++ name ∷ [])

  abbrev within : List Change
  within = flat_map each (both_names ts (t ∷ ts) p)

  from_place : put_rows most (Some a) rows (changes_below k t ts p) ≡ put_rows most (Some a) rows (flat_map each (names_from (Included n) (directory_names dir)))
  from_place =
      ap (put_rows most (Some a) rows) (at_path k t ts p more)
      ∙ put_rows-append most (Some a) rows (told_change p (layer_change t ts p)) (if_directory (seen (t ∷ ts) p) within)
      ∙ ap (λ (rs : List Change). put_rows most (Some a) rs (if_directory (seen (t ∷ ts) p) within)) (skip_row most a rows p (layer_change t ts p) (before a j n is))
      ∙ ap (put_rows most (Some a) rows) (inside_dir (seen (t ∷ ts) p) within (shown_dir t ts p touched merged))
      ∙ ap (put_rows most (Some a) rows) (sym (shared_names (k - 1) t ts ok p node dir hidden own touched merged))
      ∙ sym (from_start (k - 1) t ts most (Some a) rows p (directory_names dir))
      ∙ ap (λ b. put_rows most (Some a) rows (flat_map each (names_from b (directory_names dir)))) (place_at a j n is)

  -- what is at the next name, and then at those after it
  pub way_next : (first : List ℕ) (later : List Change) → first ≡ n → names_from (Included n) (directory_names dir) ≡ first ∷ names_from (Excluded first) (directory_names dir) → later ≡ put_rows most (Some a) rows (changes_below (k - 1) t ts (take (j + 1) a))
      → put_rows most (Some a) later (flat_map each (names_from (Excluded first) (directory_names dir))) ≡ put_rows most (Some a) rows (changes_below k t ts p)
  way_next first later same names made =
      let rest : List Change = flat_map each (names_from (Excluded first) (directory_names dir)) in
      ap (λ (rs : List Change). put_rows most (Some a) rs rest) (made ∙ ap (λ (q : Names). put_rows most (Some a) rows (changes_below (k - 1) t ts q)) (next_front a j n is ∙ ap (λ (m : List ℕ). take j a ++ m ∷ []) (sym same)))
      ∙ sym (put_rows-append most (Some a) rows (each first) rest)
      ∙ ap (λ (ns : Names). put_rows most (Some a) rows (flat_map each ns)) (sym names)
      ∙ sym from_place

  pub way_rest : put_rows most (Some a) rows (flat_map each (names_from (Included n) (directory_names dir))) ≡ put_rows most (Some a) rows (changes_below k t ts p)
  way_rest = sym from_place

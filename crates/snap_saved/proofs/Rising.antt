-- Lists in order, and what is added of them one by one.
use Rattle.std.proofs.Common.{◌≡◌, ℕ, ◌+◌, ◌-◌, ◌<◌, ◌≤◌, true, false, List, [], ◌∷◌, ◌++◌, length, map, take, drop, get_or, refl, sym, ap, subst, ◌∙◌, inl, inr, arith, append_assoc}
use Rattle.std.specs.declared.cmp.Ordering.{Ordering}
use Rattle.std.specs.declared.cmp.Ordering.TheVariants.{Less, Equal, Greater}
use Rattle.std.specs.Ordering.{is_le, ordering_reverse}
use Rattle.std.specs.List.{AllByRecursion}
use Rattle.std.specs.List.Sorted.{IsStrictlySortedBy}
use Rattle.std.proofs.lemmas.List.{map-append, take-append-drop, take_more, drop_more, get_or_default}
use Rattle.std.proofs.lemmas.Map.Keys.{Less-from_sorted}
use Rattle.snap_path.specs.Text.{Names}
use Rattle.snap_layer.specs.Tree.{Tree, path_cmp}
use Rattle.snap_layer.proofs.Frames.{split_ℕ}
use Rattle.snap_layer.proofs.Paths.{path_cmp_total}
use Rattle.snap_saved.specs.declared.dir.SavedDir.{SavedDir}
use Rattle.snap_saved.specs.Values.{SavedValue}
use Rattle.snap_saved.specs.Saved.{dir_path, dirs_of, whiteouts_of, file_names, saved}
use Rattle.snap_saved.specs.Named.{AddsNames}
use Rattle.snap_saved.proofs.Inserting.{all_before, all_mapped}
use Rattle.snap_saved.proofs.Adding.{AddsNames-more}

module _ {X : Type 0} (xs : List X) (i : ℕ) (x : X) (lt : i < length xs) (at : x ≡ get_or xs i x) where
  -- the list is those before the element, the element, and the rest
  pub parted : xs ≡ take i xs ++ x ∷ drop (i + 1) xs
  parted = sym (take-append-drop i xs) ∙ ap (λ (l : List X). take i xs ++ l) (drop_more xs i x lt) ∙ ap (λ (y : X). take i xs ++ y ∷ drop (i + 1) xs) (sym at)

  pub take_next : take (i + 1) xs ≡ take i xs ++ x ∷ []
  take_next = take_more xs i x lt ∙ ap (λ (y : X). take i xs ++ y ∷ []) (sym at)

-- ---- a test of the order

not_le : (r : Ordering) → is_le r ≡ false → r ≡ Greater
not_le Less e = absurd (cc)
not_le Equal e = absurd (cc)
not_le Greater e = refl

-- two neighbours in order, where those before them are
pub neighbours : (xs : List Names) (i : ℕ) (x y : Names) → 1 ≤ i → i < length xs → x ≡ get_or xs (i - 1) x → y ≡ get_or xs i y → is_le (path_cmp y x) ≡ false
    → ((k : ℕ) → k + 1 < i → path_cmp (get_or xs k []) (get_or xs (k + 1) []) ≡ Less) → (k : ℕ) → k + 1 < i + 1 → path_cmp (get_or xs k []) (get_or xs (k + 1) []) ≡ Less
neighbours xs i x y low lt at_x at_y after was k below = elim (split_ℕ (k + 1) i) [
  | inl same ↦
      let place : k ≡ i - 1 = omega arith in
      let left : get_or xs k [] ≡ x = ap (λ (n : ℕ). get_or xs n []) place ∙ get_or_default xs (i - 1) [] x (omega arith) ∙ sym at_x in
      let right : get_or xs (k + 1) [] ≡ y = ap (λ (n : ℕ). get_or xs n []) same ∙ get_or_default xs i [] y lt ∙ sym at_y in
      (λ j. path_cmp (left j) (right j)) ∙ path_cmp_total.antisymm x y ∙ ap ordering_reverse (not_le (path_cmp y x) after)
  | inr apart ↦ was k (omega (arith, apart, below))
]

-- two neighbours that aren't in order
pub unordered : (xs : List Names) (i : ℕ) (x y : Names) → 1 ≤ i → i < length xs → x ≡ get_or xs (i - 1) x → y ≡ get_or xs i y → is_le (path_cmp y x) ≡ true → IsStrictlySortedBy path_cmp xs → ⊥
unordered xs i x y low lt at_x at_y before sorted =
    let left : get_or xs (i - 1) [] ≡ x = get_or_default xs (i - 1) [] x (omega arith) ∙ sym at_x in
    let right : get_or xs i [] ≡ y = get_or_default xs i [] y lt ∙ sym at_y in
    let less : path_cmp x y ≡ Less = (λ j. path_cmp (sym left j) (sym right j)) ∙ Less-from_sorted path_cmp xs (i - 1) i [] sorted (omega arith) lt in
    clash (sym before ∙ ap is_le (path_cmp_total.antisymm y x ∙ ap ordering_reverse less))
  where
    clash : true ≡ false → ⊥
    clash e = cc

-- ---- directories

-- a directory comes after those before it
pub dir_rises : (ds : List SavedDir) (i : ℕ) (d : SavedDir) → i < length ds → d ≡ get_or ds i d → IsStrictlySortedBy path_cmp (map dir_path ds) → AllByRecursion (λ (x : SavedDir). path_cmp x.path d.path ≡ Less) (take i ds)
dir_rises ds i d lt at sorted =
    let paths : map dir_path ds ≡ map dir_path (take i ds) ++ d.path ∷ map dir_path (drop (i + 1) ds) = ap (map dir_path) (parted ds i d lt at) ∙ map-append dir_path (take i ds) (d ∷ drop (i + 1) ds) in
    all_mapped (λ (p : Names). path_cmp p d.path ≡ Less) dir_path (take i ds) (all_before path_cmp (map dir_path (take i ds)) d.path (map dir_path (drop (i + 1) ds)) (subst (IsStrictlySortedBy path_cmp) paths sorted))

module _ (t u : Tree) (ds : List SavedDir) (i : ℕ) (d : SavedDir) (lt : i < length ds) (at : d ≡ get_or ds i d) (was : saved u ≡ record (saved t) { dirs = take i ds }) where
  pub next_dir : IsStrictlySortedBy path_cmp (map dir_path ds) → AllByRecursion (λ (x : SavedDir). path_cmp x.path d.path ≡ Less) (dirs_of u.entries)
  next_dir sorted = subst (AllByRecursion (λ (x : SavedDir). path_cmp x.path d.path ≡ Less)) (ap (λ (s : SavedValue). s.dirs) (sym was)) (dir_rises ds i d lt at sorted)

  pub more_dirs : (v : Tree) → saved v ≡ record (saved u) { dirs = dirs_of u.entries ++ d ∷ [] } → saved v ≡ record (saved t) { dirs = take (i + 1) ds }
  more_dirs v is =
      let now : dirs_of u.entries ++ d ∷ [] ≡ take (i + 1) ds = ap (λ (s : SavedValue). s.dirs ++ d ∷ []) was ∙ sym (take_next ds i d lt at) in
      is ∙ (λ j. record (was j) { dirs = now j })

-- ---- whiteouts

pub path_rises : (ps : List Names) (i : ℕ) (p : Names) → i < length ps → p ≡ get_or ps i p → IsStrictlySortedBy path_cmp ps → AllByRecursion (λ (q : Names). path_cmp q p ≡ Less) (take i ps)
path_rises ps i p lt at sorted = all_before path_cmp (take i ps) p (drop (i + 1) ps) (subst (IsStrictlySortedBy path_cmp) (parted ps i p lt at) sorted)

module _ (t u : Tree) (ps : List Names) (i : ℕ) (p : Names) (lt : i < length ps) (at : p ≡ get_or ps i p) (was : saved u ≡ record (saved t) { whiteouts = take i ps }) where
  pub next_whiteout : IsStrictlySortedBy path_cmp ps → AllByRecursion (λ (q : Names). path_cmp q p ≡ Less) (whiteouts_of u.entries)
  next_whiteout sorted = subst (AllByRecursion (λ (q : Names). path_cmp q p ≡ Less)) (ap (λ (s : SavedValue). s.whiteouts) (sym was)) (path_rises ps i p lt at sorted)

  pub more_whiteouts : (v : Tree) → saved v ≡ record (saved u) { whiteouts = whiteouts_of u.entries ++ p ∷ [] } → saved v ≡ record (saved t) { whiteouts = take (i + 1) ps }
  more_whiteouts v is =
      let now : whiteouts_of u.entries ++ p ∷ [] ≡ take (i + 1) ps = ap (λ (s : SavedValue). s.whiteouts ++ p ∷ []) was ∙ sym (take_next ps i p lt at) in
      is ∙ (λ j. record (was j) { whiteouts = now j })

-- ---- names

module _ (t u : Tree) (k : ℕ) (ps : List Names) (i : ℕ) (p : Names) (lt : i < length ps) (at : p ≡ get_or ps i p) (was : AddsNames k t.entries u.entries (take i ps)) where
  pub next_name : IsStrictlySortedBy path_cmp (file_names k t.entries ++ ps) → AllByRecursion (λ (q : Names). path_cmp q p ≡ Less) (file_names k u.entries)
  next_name sorted =
      let old = file_names k t.entries in
      let whole : old ++ ps ≡ (old ++ take i ps) ++ p ∷ drop (i + 1) ps = ap (λ (l : List Names). old ++ l) (parted ps i p lt at) ∙ sym (append_assoc old (take i ps) (p ∷ drop (i + 1) ps)) in
      subst (AllByRecursion (λ (q : Names). path_cmp q p ≡ Less)) (sym was.names) (all_before path_cmp (old ++ take i ps) p (drop (i + 1) ps) (subst (IsStrictlySortedBy path_cmp) whole sorted))

  pub more_names : (v : Tree) → AddsNames k u.entries v.entries (p ∷ []) → AddsNames k t.entries v.entries (take (i + 1) ps)
  more_names v one = subst (AddsNames k t.entries v.entries) (sym (take_next ps i p lt at)) (AddsNames-more k t.entries u.entries v.entries (take i ps) (p ∷ []) was one)

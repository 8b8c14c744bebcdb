-- What the beginning of a restored layer is to a layer with the whole saved form.
use Rattle.std.proofs.Common.{◌≡◌, ℕ, ◌+◌, ◌<◌, Bool, cond, List, [], ◌∷◌, ◌++◌, length, map, take, drop, get_or, Option, Some, None, refl, sym, ap, subst, ◌∙◌, ◌⊎◌, inl, inr, append-nil}
use Rattle.std.specs.Prelude.{filter_map}
use Rattle.std.specs.declared.cmp.Ordering.{Ordering}
use Rattle.std.specs.declared.cmp.Ordering.TheVariants.{Less, Equal}
use Rattle.std.specs.Ordering.{nat_cmp}
use Rattle.std.specs.List.{AllByRecursion, cons_option}
use Rattle.std.specs.List.Sorted.{IsStrictlySortedBy}
use Rattle.std.specs.Map.{lookup, keys_of}
use Rattle.std.specs.BTreeMap.{is_at}
use Rattle.std.proofs.lemmas.Cmp.{tied_itself}
use Rattle.std.proofs.lemmas.List.{map-append, take-append-drop}
use Rattle.snap_path.specs.Text.{Names}
use Rattle.snap_layer.specs.declared.node.Node.{Node}
use Rattle.snap_layer.specs.declared.node.Node.TheVariants.{Dir, File, Symlink, Whiteout}
use Rattle.snap_layer.specs.declared.node.Body.{Body}
use Rattle.snap_layer.specs.declared.node.Body.TheVariants as body_kinds
use Rattle.snap_layer.specs.Tree.{Tree, Bodies, path_cmp, at, body, number_of, leaf_node, is_whiteout, has_number, IsDirAt}
use Rattle.snap_layer.specs.Layers.{IsLayer, IsWhole, IsFile, IsSymlink}
use Rattle.snap_layer.proofs.Files.{leaf_number}
use Rattle.snap_layer.proofs.Inside.{cmp_front}
use Rattle.snap_layer.proofs.Looks.{has_its_number, number_is, split_number}
use Rattle.snap_layer.proofs.Paths.{path_cmp_total, path_cmp-IsAntisymmetric}
use Rattle.snap_layer.proofs.Totaling.{dir_there}
use Rattle.snap_saved.specs.declared.dir.SavedDir.{SavedDir}
use Rattle.snap_saved.specs.Saved.{dir_path, dir_part, path_if, dirs_of, whiteouts_of, file_names, dir_meta, dir_opaque}
use Rattle.snap_saved.proofs.Adding.{dir_keyed, path_keyed}
use Rattle.snap_saved.proofs.Once.{Has, read_has, has_read, dir_node, whiteout_node, holds, no_some, root_is}
use Rattle.snap_saved.proofs.Rising.{parted}

-- ---- what a list has

module _ {X : Type 0} where
  pub has_left : (x : X) (xs ys : List X) → Has x xs → Has x (xs ++ ys)
  has_left x [] ys has = absurd has
  has_left x (y ∷ xs) ys (inl same) = inl same
  has_left x (y ∷ xs) ys (inr has) = inr (has_left x xs ys has)

  pub has_here : (x : X) (xs ys : List X) → Has x (xs ++ x ∷ ys)
  has_here x [] ys = inl refl
  has_here x (y ∷ xs) ys = inr (has_here x xs ys)

  pub has_split : (x : X) (xs ys : List X) → Has x (xs ++ ys) → Has x xs ⊎ Has x ys
  has_split x [] ys has = inr has
  has_split x (y ∷ xs) ys (inl same) = inl (inl same)
  has_split x (y ∷ xs) ys (inr has) = elim (has_split x xs ys has) [ inl a ↦ inl (inr a) | inr b ↦ inr b ]

  pub has_all : (P : X → Type 0) (x : X) (xs : List X) → AllByRecursion P xs → Has x xs → P x
  has_all P x [] all has = absurd has
  has_all P x (y ∷ xs) all (inl same) = subst P (sym same) all.0
  has_all P x (y ∷ xs) all (inr has) = has_all P x xs all.1 has

  pub has_taken : (x : X) (i : ℕ) (xs : List X) → Has x (take i xs) → Has x xs
  has_taken x i xs has = subst (Has x) (take-append-drop i xs) (has_left x (take i xs) (drop i xs) has)

  pub has_at : (xs : List X) (i : ℕ) (x : X) → i < length xs → x ≡ get_or xs i x → Has x xs
  has_at xs i x lt at = subst (Has x) (sym (parted xs i x lt at)) (has_here x (take i xs) (drop (i + 1) xs))

pub has_mapped : {X Y : Type 0} (g : X → Y) (y : Y) (xs : List X) → Has y (map g xs) → (x : X) × Has x xs × (g x ≡ y)
has_mapped g y [] has = absurd has
has_mapped g y (x ∷ xs) (inl same) = (x, inl refl, sym same)
has_mapped g y (x ∷ xs) (inr has) = let found = has_mapped g y xs has in (found.0, inr found.1, found.2)

pub mapped_has : {X Y : Type 0} (g : X → Y) (x : X) (xs : List X) → Has x xs → Has (g x) (map g xs)
mapped_has g x [] has = absurd has
mapped_has g x (y ∷ xs) (inl same) = inl (ap g same)
mapped_has g x (y ∷ xs) (inr has) = inr (mapped_has g x xs has)

-- ---- the order of what is read

pub no_less_itself : (p : Names) → path_cmp p p ≡ Less → ⊥
no_less_itself p less = clash (sym less ∙ tied_itself path_cmp_total p)
  where
    clash : Less ≡ Equal → ⊥
    clash e = cc

-- a path comes before each below it
pub below_less : (q : Names) (m : List ℕ) → path_cmp q (q ++ m ∷ []) ≡ Less
below_less q m = ap (λ (p : Names). path_cmp p (q ++ m ∷ [])) (sym (append-nil q)) ∙ cmp_front q [] (m ∷ [])

module _ {K : Type 0} (R : K → K → Ordering) where
  all_after : (xs : List K) (x : K) (ys : List K) → IsStrictlySortedBy R (xs ++ x ∷ ys) → AllByRecursion (λ y. R x y ≡ Less) ys
  unfolding IsStrictlySortedBy
  all_after [] x ys s = s.0
  all_after (y ∷ xs) x ys s = all_after xs x ys s.1

module _ {K V X : Type 0} (R : K → K → Ordering) (h : K × V → Option X) (key : X → K) (keyed : (e : K × V) (x : X) → h e ≡ Some x → key x ≡ e.0) where
  all_read : (P : K → Type 0) (es : List (K × V)) → AllByRecursion P (keys_of es) → AllByRecursion P (map key (filter_map h es))
  all_read P [] all = tt
  all_read P (e ∷ es) all = by (h e) refl (all_read P es all.1)
    where
      by : (o : Option X) → h e ≡ o → AllByRecursion P (map key (filter_map h es)) → AllByRecursion P (map key (cons_option o (filter_map h es)))
      by None is later = later
      by (Some x) is later = (subst P (sym (keyed e x is)) all.0, later)

  -- what is read of entries in order is in order
  sorted_read : (es : List (K × V)) → IsStrictlySortedBy R (keys_of es) → IsStrictlySortedBy R (map key (filter_map h es))
  unfolding IsStrictlySortedBy
  sorted_read [] s = tt
  sorted_read (e ∷ es) s = by (h e) refl (sorted_read es s.1)
    where
      by : (o : Option X) → h e ≡ o → IsStrictlySortedBy R (map key (filter_map h es)) → IsStrictlySortedBy R (map key (cons_option o (filter_map h es)))
      by None is later = later
      by (Some x) is later = (subst (λ (k : K). AllByRecursion (λ y. R k y ≡ Less) (map key (filter_map h es))) (sym (keyed e x is)) (all_read (λ y. R e.0 y ≡ Less) es s.0), later)

map_same : {X : Type 0} (xs : List X) → map (λ (x : X). x) xs ≡ xs
map_same [] = refl
map_same (x ∷ xs) = ap (λ (l : List _). x ∷ l) (map_same xs)

pub dirs_sorted : (t : Tree) → IsLayer t → IsStrictlySortedBy path_cmp (map dir_path (dirs_of t.entries))
dirs_sorted t ok = sorted_read path_cmp (λ (e : Names × Node). dir_part e.1 e.0) dir_path (λ e x. dir_keyed e.1 e.0 x) t.entries ok.sorted_paths

pub whiteouts_sorted : (t : Tree) → IsLayer t → IsStrictlySortedBy path_cmp (whiteouts_of t.entries)
whiteouts_sorted t ok = subst (IsStrictlySortedBy path_cmp) (map_same (whiteouts_of t.entries)) (sorted_read path_cmp (λ (e : Names × Node). path_if (is_whiteout e.1) e.0) (λ (q : Names). q) (λ e x. path_keyed (is_whiteout e.1) e.0 x) t.entries ok.sorted_paths)

pub names_sorted : (t : Tree) → IsLayer t → (k : ℕ) → IsStrictlySortedBy path_cmp (file_names k t.entries)
names_sorted t ok k = subst (IsStrictlySortedBy path_cmp) (map_same (file_names k t.entries)) (sorted_read path_cmp (λ (e : Names × Node). path_if (has_number k e.1) e.0) (λ (q : Names). q) (λ e x. path_keyed (has_number k e.1) e.0 x) t.entries ok.sorted_paths)

-- a directory before another is among those before it
pub taken_before : (ds : List SavedDir) (i : ℕ) (d x : SavedDir) → i < length ds → d ≡ get_or ds i d → IsStrictlySortedBy path_cmp (map dir_path ds) → Has x ds → path_cmp x.path d.path ≡ Less → Has x (take i ds)
taken_before ds i d x lt at sorted has less = by (has_split x (take i ds) (d ∷ drop (i + 1) ds) (subst (Has x) (parted ds i d lt at) has))
  where
    paths : map dir_path ds ≡ map dir_path (take i ds) ++ d.path ∷ map dir_path (drop (i + 1) ds)
    paths = ap (map dir_path) (parted ds i d lt at) ∙ map-append dir_path (take i ds) (d ∷ drop (i + 1) ds)

    by : Has x (take i ds) ⊎ Has x (d ∷ drop (i + 1) ds) → Has x (take i ds)
    by (inl here) = here
    by (inr (inl same)) = absurd (no_less_itself d.path (ap (λ (y : SavedDir). path_cmp y.path d.path) (sym same) ∙ less))
    by (inr (inr after)) =
        let past = all_after path_cmp (map dir_path (take i ds)) d.path (map dir_path (drop (i + 1) ds)) (subst (IsStrictlySortedBy path_cmp) paths sorted) in
        let more : path_cmp d.path x.path ≡ Less = has_all (λ (p : Names). path_cmp d.path p ≡ Less) x.path (map dir_path (drop (i + 1) ds)) past (mapped_has dir_path x (drop (i + 1) ds) after) in
        absurd (no_less_itself d.path (path_cmp_total.trans d.path x.path d.path more less))

-- ---- what a part says

-- a saved directory stands in its layer
pub dir_stands : (t : Tree) → IsLayer t → (d : SavedDir) → Has d (dirs_of t.entries) → (at t d.path ≡ Some (Dir d.meta d.opaque)) × (dir_part (Dir d.meta d.opaque) d.path ≡ Some d)
dir_stands t ok d has =
    let e = has_read path_cmp_total path_cmp-IsAntisymmetric (λ (e : Names × Node). dir_part e.1 e.0) t.entries d ok.sorted_paths has in
    let path : d.path ≡ e.0.0 = dir_keyed e.0.1 e.0.0 d e.1 in
    let node : e.0.1 ≡ Dir d.meta d.opaque = dir_node e.0.1 e.0.0 d e.1 in
    (ap (at t) path ∙ e.2 ∙ ap (λ (n : Node). Some n) node, (λ i. dir_part (sym node i) (path i)) ∙ e.1)

pub whiteout_stands : (t : Tree) → IsLayer t → (p : Names) → Has p (whiteouts_of t.entries) → at t p ≡ Some Whiteout
whiteout_stands t ok p has =
    let e = has_read path_cmp_total path_cmp-IsAntisymmetric (λ (e : Names × Node). path_if (is_whiteout e.1) e.0) t.entries p ok.sorted_paths has in
    ap (at t) (path_keyed (is_whiteout e.0.1) e.0.0 p e.1) ∙ e.2 ∙ ap (λ (n : Node). Some n) (whiteout_node e.0.1 e.0.0 p e.1)

-- a node of a number is that of its body
pub leaf_is : (t : Tree) (n : Node) (k : ℕ) (b : Body) → IsWhole t n → number_of n ≡ Some k → body t k ≡ Some b → n ≡ leaf_node k b
leaf_is t (Dir meta opaque) k b whole number is = absurd (no_some k number)
leaf_is t Whiteout k b whole number is = absurd (no_some k number)
leaf_is t (File j) k b whole number is = by b (subst IsFile (ap (body t) same ∙ is) whole)
  where
    same : j ≡ k
    same = cc

    by : (b : Body) → IsFile (Some b) → File j ≡ leaf_node k b
    by (body_kinds.File meta content) file = λ i. File (same i)
    by (body_kinds.Symlink target) file = absurd file
leaf_is t (Symlink j) k b whole number is = by b (subst IsSymlink (ap (body t) same ∙ is) whole)
  where
    same : j ≡ k
    same = cc

    by : (b : Body) → IsSymlink (Some b) → Symlink j ≡ leaf_node k b
    by (body_kinds.File meta content) link = absurd link
    by (body_kinds.Symlink target) link = λ i. Symlink (same i)

pub name_stands : (t : Tree) → IsLayer t → (k : ℕ) (b : Body) (p : Names) → body t k ≡ Some b → Has p (file_names k t.entries) → at t p ≡ Some (leaf_node k b)
name_stands t ok k b p is has =
    let e = has_read path_cmp_total path_cmp-IsAntisymmetric (λ (e : Names × Node). path_if (has_number k e.1) e.0) t.entries p ok.sorted_paths has in
    let its : at t p ≡ Some e.0.1 = ap (at t) (path_keyed (has_number k e.0.1) e.0.0 p e.1) ∙ e.2 in
    its ∙ ap (λ (n : Node). Some n) (leaf_is t e.0.1 k b (ok.nodes p e.0.1 its) (number_is k e.0.1 (holds (has_number k e.0.1) e.0.0 p e.1)) is)

-- what stands at a path is read
pub dir_reads : (t : Tree) (d : SavedDir) → at t d.path ≡ Some (Dir d.meta d.opaque) → dir_part (Dir d.meta d.opaque) d.path ≡ Some d → Has d (dirs_of t.entries)
dir_reads t d is part = read_has path_cmp_total path_cmp-IsAntisymmetric (λ (e : Names × Node). dir_part e.1 e.0) t.entries d.path (Dir d.meta d.opaque) d is part

pub whiteout_reads : (t : Tree) (p : Names) → at t p ≡ Some Whiteout → Has p (whiteouts_of t.entries)
whiteout_reads t p is = read_has path_cmp_total path_cmp-IsAntisymmetric (λ (e : Names × Node). path_if (is_whiteout e.1) e.0) t.entries p Whiteout p is refl

pub name_reads : (t : Tree) (k : ℕ) (b : Body) (p : Names) → at t p ≡ Some (leaf_node k b) → Has p (file_names k t.entries)
name_reads t k b p is = read_has path_cmp_total path_cmp-IsAntisymmetric (λ (e : Names × Node). path_if (has_number k e.1) e.0) t.entries p (leaf_node k b) p is (ap (λ (h : Bool). path_if h p) (has_its_number k (leaf_node k b) (leaf_number k b)))

-- a directory of t stands in u, where u has its part
pub dir_under : (u t : Tree) → IsLayer u → at u [] ≡ at t [] → (q : Names) → ((d : SavedDir) → d.path ≡ q → Has d (dirs_of t.entries) → Has d (dirs_of u.entries)) → IsDirAt (at t q) → IsDirAt (at u q)
dir_under u t oku root [] has dir = subst IsDirAt (sym root) dir
dir_under u t oku root (a ∷ q) has dir =
    let there = dir_there t (a ∷ q) dir in
    let d : SavedDir = record { path = a ∷ q; meta = there.0; opaque = there.1 } in
    subst IsDirAt (sym (dir_stands u oku d (has d refl (dir_reads t d there.2 refl))).0) refl

-- nothing stands at a path of u where what stands at it in t can't stand in u
pub free_under : (u t : Tree) (p : Names) (n : Node) → ((q : Names) (m : Node) → at u q ≡ Some m → at t q ≡ Some m) → at t p ≡ Some n → (at u p ≡ Some n → ⊥) → at u p ≡ None
free_under u t p n stands is never = by (at u p) refl
  where
    by : (o : Option Node) → at u p ≡ o → o ≡ None
    by None e = refl
    by (Some m) e = let same : Some m ≡ Some n = sym (stands p m e) ∙ is in absurd (never (e ∙ same))

-- two roots with the same meta and mark
pub root_by : (u v : Tree) → IsLayer u → IsLayer v → dir_meta (at u []) ≡ dir_meta (at v []) → dir_opaque (at u []) ≡ dir_opaque (at v []) → at u [] ≡ at v []
root_by u v oku okv meta opaque = root_is (at u []) oku.root ∙ (λ i. Some (Dir (meta i) (opaque i))) ∙ sym (root_is (at v []) okv.root)

-- a node of a number is a name of it
pub read_name : (t : Tree) (k : ℕ) (p : Names) (n : Node) → at t p ≡ Some n → number_of n ≡ Some k → Has p (file_names k t.entries)
read_name t k p n is number = read_has path_cmp_total path_cmp-IsAntisymmetric (λ (e : Names × Node). path_if (has_number k e.1) e.0) t.entries p n p is (ap (λ (h : Bool). path_if h p) (has_its_number k n number))

-- what holds of each element of a list
pub all_had : {X : Type 0} (P : X → Type 0) (xs : List X) → ((x : X) → Has x xs → P x) → AllByRecursion P xs
all_had P [] holds_of = tt
all_had P (x ∷ xs) holds_of = (holds_of x (inl refl), all_had P xs (λ y has. holds_of y (inr has)))

-- an entry that is found is there
pub entry_has : (bs : Bodies) (k : ℕ) (b : Body) → lookup (is_at (nat_cmp k)) bs ≡ Some b → Has (k, b) bs
entry_has [] k b e = absurd (no_some b e)
entry_has (x ∷ bs) k b e = elim (split_number k x.0) [
  | inl same ↦
      let value : Some x.1 ≡ Some b = sym (ap (λ (h : Bool). cond h (Some x.1) (lookup (is_at (nat_cmp k)) bs)) same.1) ∙ e in
      let content : x.1 ≡ b = cc in
      inl (λ i. (same.0 i, sym content i))
  | inr apart ↦ inr (entry_has bs k b (sym (ap (λ (h : Bool). cond h (Some x.1) (lookup (is_at (nat_cmp k)) bs)) apart.1) ∙ e))
]

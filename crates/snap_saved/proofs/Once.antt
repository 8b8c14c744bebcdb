-- Two layers with one saved form are one.
use Rattle.std.proofs.Common.{◌≡◌, ℕ, Bool, true, false, cond, List, [], ◌∷◌, map, Option, Some, None, IsSome, refl, sym, ap, subst, ◌∙◌, ◌⊎◌, inl, inr}
use Rattle.std.specs.Prelude.{filter_map, option_and_then}
use Rattle.std.specs.declared.cmp.Ordering.{Ordering}
use Rattle.std.specs.Ordering.{nat_cmp}
use Rattle.std.specs.Cmp.{IsTotalOrder}
use Rattle.std.specs.FinMap.{IsAntisymmetric}
use Rattle.std.specs.List.{AllByRecursion, cons_option}
use Rattle.std.specs.List.Sorted.{IsStrictlySortedBy}
use Rattle.std.specs.Map.{lookup, keys_of}
use Rattle.std.specs.BTreeMap.{is_at}
use Rattle.snap_path.specs.Text.{Names}
use Rattle.snap_layer.specs.declared.node.Node.{Node}
use Rattle.snap_layer.specs.declared.node.Node.TheVariants.{Dir, File, Symlink, Whiteout}
use Rattle.snap_layer.specs.declared.node.Body.{Body}
use Rattle.snap_layer.specs.declared.node.Body.TheVariants as body_kinds
use Rattle.snap_layer.specs.Tree.{Tree, Entries, Bodies, at, body, number_of, is_whiteout, has_number, IsDirAt}
use Rattle.snap_layer.specs.Layers.{IsLayer, IsWhole, IsFile, IsSymlink}
use Rattle.snap_layer.proofs.Inside.{found_each}
use Rattle.snap_layer.proofs.Kept.{has_body}
use Rattle.snap_layer.proofs.Lists.{split_key}
use Rattle.snap_layer.proofs.Looks.{same_tree, split_number, has_its_number, number_is}
use Rattle.snap_layer.proofs.Paths.{path_cmp_total, path_cmp-IsAntisymmetric}
use Rattle.snap_saved.specs.declared.dir.SavedDir.{SavedDir}
use Rattle.snap_saved.specs.Values.{SavedFileValue, SavedValue}
use Rattle.snap_saved.specs.Saved.{dir_part, path_if, dirs_of, whiteouts_of, file_names, files_of, dir_meta, dir_opaque, saved}
use Rattle.snap_saved.proofs.Adding.{dir_keyed, path_keyed}

pub no_some : {X : Type 0} (x : X) → None ≡ Some x → ⊥
no_some x e = cc

no_bool : false ≡ true → ⊥
no_bool e = cc

-- ---- what is read of the entries

-- the list has the value
abbrev pub Has : {X : Type 0} → X → List X → Type 0
Has x [] = ⊥
Has x (y ∷ ys) = (x ≡ y) ⊎ Has x ys

later : {X : Type 0} (x : X) (o : Option X) (xs : List X) → Has x xs → Has x (cons_option o xs)
later x None xs has = has
later x (Some y) xs has = inr has

module _ {K V X : Type 0} {R : K → K → Ordering} (order : IsTotalOrder R) (exact : IsAntisymmetric R) (h : K × V → Option X) where
  -- what is found and read
  pub read_has : (es : List (K × V)) (q : K) (v : V) (x : X) → lookup (is_at (R q)) es ≡ Some v → h (q, v) ≡ Some x → Has x (filter_map h es)
  read_has [] q v x found is = absurd (no_some v found)
  read_has (e ∷ es) q v x found is = elim (split_key order exact q e.0) [
    | inl same ↦
        let there : Some e.1 ≡ Some v = sym (ap (λ (b : Bool). cond b (Some e.1) (lookup (is_at (R q)) es)) same.1) ∙ found in
        let value : e.1 ≡ v = cc in
        let here : h e ≡ Some x = (λ i. h (sym same.0 i, value i)) ∙ is in
        subst (λ (o : Option X). Has x (cons_option o (filter_map h es))) (sym here) (inl refl)
    | inr apart ↦
        let there : lookup (is_at (R q)) es ≡ Some v = sym (ap (λ (b : Bool). cond b (Some e.1) (lookup (is_at (R q)) es)) apart.1) ∙ found in
        later x (h e) (filter_map h es) (read_has es q v x there is)
  ]

  -- an entry of which it is read
  has_entry : (P : K × V → Type 0) (es : List (K × V)) (x : X) → AllByRecursion P es → Has x (filter_map h es) → (e : K × V) × (h e ≡ Some x) × P e
  has_entry P [] x all has = absurd has
  has_entry P (e ∷ es) x all has = by (has_entry P es x all.1) (h e) refl has
    where
      by : (Has x (filter_map h es) → (d : K × V) × (h d ≡ Some x) × P d) → (o : Option X) → h e ≡ o → Has x (cons_option o (filter_map h es)) → (d : K × V) × (h d ≡ Some x) × P d
      by later None is there = later there
      by later (Some y) is (inl same) = (e, is ∙ ap (λ (z : X). Some z) (sym same), all.0)
      by later (Some y) is (inr there) = later there

  pub has_read : (es : List (K × V)) (x : X) → IsStrictlySortedBy R (keys_of es) → Has x (filter_map h es) → (e : K × V) × (h e ≡ Some x) × (lookup (is_at (R e.0)) es ≡ Some e.1)
  has_read es x sorted has = has_entry (λ (e : K × V). lookup (is_at (R e.0)) es ≡ Some e.1) es x (found_each order es sorted) has

-- ---- what a part says of its node

pub dir_node : (n : Node) (p : Names) (d : SavedDir) → dir_part n p ≡ Some d → n ≡ Dir d.meta d.opaque
dir_node (Dir meta opaque) [] d e = absurd (no_some d e)
dir_node (Dir meta opaque) (a ∷ p) d e = let same : record { path = a ∷ p; meta = meta; opaque = opaque } ≡ d = cc in ap (λ (x : SavedDir). Dir x.meta x.opaque) same
dir_node (File k) p d e = absurd (no_some d e)
dir_node (Symlink k) p d e = absurd (no_some d e)
dir_node Whiteout p d e = absurd (no_some d e)

pub whiteout_node : (n : Node) (p q : Names) → path_if (is_whiteout n) p ≡ Some q → n ≡ Whiteout
whiteout_node (Dir meta opaque) p q e = absurd (no_some q e)
whiteout_node (File k) p q e = absurd (no_some q e)
whiteout_node (Symlink k) p q e = absurd (no_some q e)
whiteout_node Whiteout p q e = refl

pub holds : (b : Bool) (p q : Names) → path_if b p ≡ Some q → b ≡ true
holds true p q e = refl
holds false p q e = absurd (no_some q e)

-- ---- the bodies

pub bodies_back : (es : Entries) (bs : Bodies) → map (λ (f : SavedFileValue). (f.number, f.body)) (files_of es bs) ≡ bs
bodies_back es [] = refl
bodies_back es (b ∷ bs) = λ i. b ∷ bodies_back es bs i

first_file : List SavedFileValue → List Names
first_file [] = []
first_file (f ∷ fs) = f.names

-- the names of a number that has a body
same_names : (es fs : Entries) (bs : Bodies) (k : ℕ) → files_of es bs ≡ files_of fs bs → IsSome (lookup (is_at (nat_cmp k)) bs) → file_names k es ≡ file_names k fs
unfolding first_file
same_names es fs [] k same there = absurd (cc)
same_names es fs (b ∷ bs) k same there = elim (split_number k b.0) [
  | inl is ↦ ap (λ (j : ℕ). file_names j es) is.0 ∙ ap first_file same ∙ ap (λ (j : ℕ). file_names j fs) (sym is.0)
  | inr apart ↦ same_names es fs bs k (ap rest same) (subst IsSome (ap (λ (c : Bool). cond c (Some b.1) (lookup (is_at (nat_cmp k)) bs)) apart.1) there)
]
  where
    rest : List SavedFileValue → List SavedFileValue
    rest [] = []
    rest (f ∷ fs) = fs

-- ---- the entries

-- two names of a number with one body are one node
one_kind : (t u : Tree) (m n : Node) (k : ℕ) → IsWhole t m → IsWhole u n → body t k ≡ body u k → number_of m ≡ Some k → number_of n ≡ Some k → m ≡ n
one_kind t u m n k whole_m whole_n same is_m is_n = by m n whole_m whole_n is_m is_n
  where
    clash : (o : Option Body) → IsFile o → IsSymlink o → ⊥
    clash None file link = file
    clash (Some (body_kinds.File meta content)) file link = link
    clash (Some (body_kinds.Symlink target)) file link = file

    by : (m n : Node) → IsWhole t m → IsWhole u n → number_of m ≡ Some k → number_of n ≡ Some k → m ≡ n
    by (File i) (File j) v w a b = let one : i ≡ k = cc in let two : j ≡ k = cc in (λ x. File (one x)) ∙ (λ x. File (sym two x))
    by (Symlink i) (Symlink j) v w a b = let one : i ≡ k = cc in let two : j ≡ k = cc in (λ x. Symlink (one x)) ∙ (λ x. Symlink (sym two x))
    by (File i) (Symlink j) v w a b =
        let one : i ≡ k = cc in
        let two : j ≡ k = cc in
        absurd (clash (body u k) (subst IsFile (ap (body t) one ∙ same) v) (subst IsSymlink (ap (body u) two) w))
    by (Symlink i) (File j) v w a b =
        let one : i ≡ k = cc in
        let two : j ≡ k = cc in
        absurd (clash (body u k) (subst IsFile (ap (body u) two) w) (subst IsSymlink (ap (body t) one ∙ same) v))
    by (Dir x y) n v w a b = absurd (no_some k a)
    by Whiteout n v w a b = absurd (no_some k a)
    by (File i) (Dir x y) v w a b = absurd (no_some k b)
    by (File i) Whiteout v w a b = absurd (no_some k b)
    by (Symlink i) (Dir x y) v w a b = absurd (no_some k b)
    by (Symlink i) Whiteout v w a b = absurd (no_some k b)

-- where each part of the one layer is one of the other, what stands in the one stands in the other
module _ (t u : Tree) (okt : IsLayer t) (oku : IsLayer u) (root : at t [] ≡ at u []) (dirs : (d : SavedDir) → Has d (dirs_of t.entries) → Has d (dirs_of u.entries)) (whiteouts : (q : Names) → Has q (whiteouts_of t.entries) → Has q (whiteouts_of u.entries)) (bodies : (k : ℕ) → IsSome (body t k) → body t k ≡ body u k) (names : (k : ℕ) → IsSome (body t k) → (q : Names) → Has q (file_names k t.entries) → Has q (file_names k u.entries)) where
  named_there : (q : Names) (n : Node) (k : ℕ) → at t q ≡ Some n → number_of n ≡ Some k → at u q ≡ Some n
  named_there q n k is number =
      let there : IsSome (body t k) = has_body t okt q k (ap (option_and_then number_of) is ∙ number) in
      let has : Has q (file_names k t.entries) = read_has path_cmp_total path_cmp-IsAntisymmetric (λ (e : Names × Node). path_if (has_number k e.1) e.0) t.entries q n q is (ap (λ (b : Bool). path_if b q) (has_its_number k n number)) in
      let e = has_read path_cmp_total path_cmp-IsAntisymmetric (λ (e : Names × Node). path_if (has_number k e.1) e.0) u.entries q oku.sorted_paths (names k there q has) in
      let path : q ≡ e.0.0 = path_keyed (has_number k e.0.1) e.0.0 q e.1 in
      let its : at u q ≡ Some e.0.1 = ap (at u) path ∙ e.2 in
      let node : n ≡ e.0.1 = one_kind t u n e.0.1 k (okt.nodes q n is) (oku.nodes q e.0.1 its) (bodies k there) number (number_is k e.0.1 (holds (has_number k e.0.1) e.0.0 q e.1)) in
      its ∙ ap (λ (x : Node). Some x) (sym node)

  pub stands_there : (q : Names) (n : Node) → at t q ≡ Some n → at u q ≡ Some n
  stands_there [] (Dir meta opaque) is = sym root ∙ is
  stands_there (a ∷ q) (Dir meta opaque) is =
      let d : SavedDir = record { path = a ∷ q; meta = meta; opaque = opaque } in
      let has : Has d (dirs_of t.entries) = read_has path_cmp_total path_cmp-IsAntisymmetric (λ (e : Names × Node). dir_part e.1 e.0) t.entries (a ∷ q) (Dir meta opaque) d is refl in
      let e = has_read path_cmp_total path_cmp-IsAntisymmetric (λ (e : Names × Node). dir_part e.1 e.0) u.entries d oku.sorted_paths (dirs d has) in
      let path : a ∷ q ≡ e.0.0 = dir_keyed e.0.1 e.0.0 d e.1 in
      ap (at u) path ∙ e.2 ∙ ap (λ (x : Node). Some x) (dir_node e.0.1 e.0.0 d e.1)
  stands_there q (File k) is = named_there q (File k) k is refl
  stands_there q (Symlink k) is = named_there q (Symlink k) k is refl
  stands_there q Whiteout is =
      let has : Has q (whiteouts_of t.entries) = read_has path_cmp_total path_cmp-IsAntisymmetric (λ (e : Names × Node). path_if (is_whiteout e.1) e.0) t.entries q Whiteout q is refl in
      let e = has_read path_cmp_total path_cmp-IsAntisymmetric (λ (e : Names × Node). path_if (is_whiteout e.1) e.0) u.entries q oku.sorted_paths (whiteouts q has) in
      let path : q ≡ e.0.0 = path_keyed (is_whiteout e.0.1) e.0.0 q e.1 in
      ap (at u) path ∙ e.2 ∙ ap (λ (x : Node). Some x) (whiteout_node e.0.1 e.0.0 q e.1)

-- ---- one saved form

-- a root that is a directory is told by its meta and its mark
pub root_is : (o : Option Node) → IsDirAt o → o ≡ Some (Dir (dir_meta o) (dir_opaque o))
root_is None dir = absurd dir
root_is (Some (Dir meta opaque)) dir = refl
root_is (Some (File k)) dir = absurd (no_bool dir)
root_is (Some (Symlink k)) dir = absurd (no_bool dir)
root_is (Some Whiteout) dir = absurd (no_bool dir)

module _ (t u : Tree) (okt : IsLayer t) (oku : IsLayer u) (same : saved t ≡ saved u) where
  files : files_of t.entries t.bodies ≡ files_of u.entries u.bodies
  files = ap (λ (s : SavedValue). s.files) same

  same_bodies : t.bodies ≡ u.bodies
  same_bodies = sym (bodies_back t.entries t.bodies) ∙ ap (map (λ (f : SavedFileValue). (f.number, f.body))) files ∙ bodies_back u.entries u.bodies

  same_root : at t [] ≡ at u []
  same_root = root_is (at t []) okt.root ∙ (λ i. Some (Dir (ap (λ (s : SavedValue). s.meta) same i) (ap (λ (s : SavedValue). s.opaque) same i))) ∙ sym (root_is (at u []) oku.root)

  names : (k : ℕ) → IsSome (body t k) → file_names k t.entries ≡ file_names k u.entries
  names k there = same_names t.entries u.entries t.bodies k (files ∙ ap (files_of u.entries) (sym same_bodies)) there

  same_there : (q : Names) (n : Node) → at t q ≡ Some n → at u q ≡ Some n
  same_there = stands_there t u okt oku same_root
      (λ d has. subst (Has d) (ap (λ (s : SavedValue). s.dirs) same) has)
      (λ q has. subst (Has q) (ap (λ (s : SavedValue). s.whiteouts) same) has)
      (λ k there. ap (lookup (is_at (nat_cmp k))) same_bodies)
      (λ k there q has. subst (Has q) (names k there) has)

-- a layer is told by its saved form
pub saved_once : (t u : Tree) → IsLayer t → IsLayer u → saved t ≡ saved u → t ≡ u
saved_once t u okt oku same =
    same_tree t u okt.sorted_paths oku.sorted_paths stands (same_bodies t u okt oku same) (ap (λ (s : SavedValue). s.next) same) (ap (λ (s : SavedValue). s.most) same)
  where
    stands : (q : Names) → at t q ≡ at u q
    stands q = by (at t q) (at u q) refl refl
      where
        by : (a b : Option Node) → at t q ≡ a → at u q ≡ b → a ≡ b
        by (Some n) b is other = sym (same_there t u okt oku same q n is) ∙ other
        by None (Some n) is other = absurd (no_some n (sym is ∙ same_there u t oku okt (sym same) q n other))
        by None None is other = refl

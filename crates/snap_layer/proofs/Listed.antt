-- The names of a directory, and whether they are whiteouts alone.
use Rattle.std.proofs.Common.{◌≡◌, ℕ, ◌+◌, ◌≤◌, Bool, true, false, cond, List, [], ◌∷◌, ◌++◌, Option, Some, None, IsSome, refl, sym, ap, subst, ◌∙◌, arith}
use Rattle.std.specs.Prelude.{map, is_some, ◌||◌, ◌&&◌, count_by}
use Rattle.std.specs.declared.cmp.Ordering.{Ordering}
use Rattle.std.specs.declared.cmp.Ordering.TheVariants.{Less, Equal, Greater}
use Rattle.std.specs.Ordering.{ordering_then}
use Rattle.std.specs.FinMap.{slice_cmp-IsAntisymmetric, nat_cmp-IsAntisymmetric}
use Rattle.std.specs.Cmp.Lexicographic.{nat_list_cmp_total}
use Rattle.std.specs.List.{AllByRecursion, list_any, list_all, cons_option}
use Rattle.std.specs.List.Sorted.{IsStrictlySortedBy}
use Rattle.std.specs.Map.{lookup, keys_of, values_of}
use Rattle.std.specs.Str.{bytes_eq}
use Rattle.std.specs.BTreeMap.{is_at}
use mir.Val.{bool_byte}
use Rattle.std.proofs.lemmas.Map.Text.{is_eq-slice_cmp}
use Rattle.std.proofs.lemmas.List.Sums.{sum_by-cons}
use Rattle.slab.specs.Slab.{Slab as Slots, get}
use Rattle.snap_path.specs.Text.{Names, begins}
use Rattle.snap_layer.specs.declared.node.Node.{Node}
use Rattle.snap_layer.specs.declared.node.Body.{Body}
use Rattle.snap_layer.specs.declared.node.Body.TheVariants as body_kinds
use Rattle.snap_layer.specs.Tree.{Tree, Entries, path_cmp, at, name_below, names_below, is_dir, is_whiteout, leaf_node}
use Rattle.snap_layer.specs.Counts.{most_inodes}
use Rattle.snap_layer.specs.Edits.{IsFree, inside}
use Rattle.snap_layer.specs.Layers.{IsLayer}
use Rattle.snap_layer.proofs.Lists.{same_lists, sum_by-filter}
use Rattle.snap_layer.proofs.Paths.{name_below_is}
use Rattle.snap_layer.proofs.Laws.{names_below_are}
use Rattle.snap_layer.specs.declared.inode.Inode.{Inode}
use Rattle.snap_layer.specs.declared.inode.Inode.TheVariants.{Dir, Leaf}
use Rattle.snap_layer.specs.declared.inode.Target.{Target}
use Rattle.snap_layer.specs.declared.inode.Target.TheVariants as target
use Rattle.snap_layer.specs.Walk.{follow, walk, entry_at, node_of, node_at, node_shown, stands, view_of}
use Rattle.snap_layer.specs.Rows.{name_cmp, Items, items_from, targets_whiteout, own}
use Rattle.snap_layer.proofs.Inside.{cmp_front, found_each}
use Rattle.snap_layer.proofs.Walking.{items_entry, walk_on, walk_off}

-- ---- names in order

less_first : (r : Ordering) → ordering_then r Equal ≡ Less → r ≡ Less
less_first Less e = refl
less_first Equal e = cc
less_first Greater e = cc

rises_below : (d : Names) (n : List ℕ) (es : Entries) → AllByRecursion (λ y. path_cmp (d ++ n ∷ []) y ≡ Less) (keys_of es) → AllByRecursion (λ m. name_cmp n m ≡ Less) (names_below d es)
rises_below d n [] a = tt
rises_below d n (e ∷ es) a = by (name_below d e.0) refl (rises_below d n es a.1)
  where
    by : (o : Option (List ℕ)) → name_below d e.0 ≡ o → AllByRecursion (λ m. name_cmp n m ≡ Less) (names_below d es) → AllByRecursion (λ m. name_cmp n m ≡ Less) (cons_option o (names_below d es))
    by None is later = later
    by (Some m) is later = (less_first (name_cmp n m) (sym (cmp_front d (n ∷ []) (m ∷ [])) ∙ ap (path_cmp (d ++ n ∷ [])) (sym (name_below_is d e.0 m is)) ∙ a.0), later)

pub sorted_below : (d : Names) (es : Entries) → IsStrictlySortedBy path_cmp (keys_of es) → IsStrictlySortedBy name_cmp (names_below d es)
unfolding IsStrictlySortedBy
sorted_below d [] s = tt
sorted_below d (e ∷ es) s = by (name_below d e.0) refl (sorted_below d es s.1)
  where
    by : (o : Option (List ℕ)) → name_below d e.0 ≡ o → IsStrictlySortedBy name_cmp (names_below d es) → IsStrictlySortedBy name_cmp (cons_option o (names_below d es))
    by None is later = later
    by (Some m) is later = (rises_below d m es (subst (λ (x : Names). AllByRecursion (λ y. path_cmp x y ≡ Less) (keys_of es)) (name_below_is d e.0 m is) s.0), later)

-- lists of names in order that have the same names are equal
abbrev marked : List (List ℕ) → List (List ℕ × Unit {0})
marked ns = map (λ n. (n, tt)) ns

names_marked : (ns : List (List ℕ)) → keys_of (marked ns) ≡ ns
names_marked [] = refl
names_marked (n ∷ ns) = ap (λ l. n ∷ l) (names_marked ns)

lookup_marked : (q : List ℕ) (ns : List (List ℕ)) → lookup (is_at (name_cmp q)) (marked ns) ≡ cond (list_any (bytes_eq q) ns) (Some tt) None
lookup_marked q [] = refl
lookup_marked q (n ∷ ns) = (λ i. cond (is_eq-slice_cmp q n i) (Some tt) (lookup_marked q ns i)) ∙ by (bytes_eq q n) (list_any (bytes_eq q) ns)
  where
    by : (b c : Bool) → cond b (Some tt) (cond c (Some tt) None) ≡ cond (b || c) (Some (tt {0})) None
    by true c = refl
    by false c = refl

same_names : (ns ms : List (List ℕ)) → IsStrictlySortedBy name_cmp ns → IsStrictlySortedBy name_cmp ms → ((q : List ℕ) → list_any (bytes_eq q) ns ≡ list_any (bytes_eq q) ms) → ns ≡ ms
same_names ns ms s r same =
    let both : marked ns ≡ marked ms = same_lists nat_list_cmp_total (slice_cmp-IsAntisymmetric nat_cmp-IsAntisymmetric) (marked ns) (marked ms) (subst (IsStrictlySortedBy name_cmp) (sym (names_marked ns)) s) (subst (IsStrictlySortedBy name_cmp) (sym (names_marked ms)) r) (λ q. lookup_marked q ns ∙ ap (λ b. cond b (Some tt) None) (same q) ∙ sym (lookup_marked q ms)) in
    sym (names_marked ns) ∙ ap (λ (l : List (List ℕ × Unit {0})). keys_of l) both ∙ names_marked ms

any_item : (q : List ℕ) (es : Items) → list_any (bytes_eq q) (keys_of es) ≡ is_some (lookup (is_at (name_cmp q)) es)
any_item q [] = refl
any_item q (e ∷ es) = (λ i. sym (is_eq-slice_cmp q e.0) i || any_item q es i) ∙ by (is_at (name_cmp q) e.0)
  where
    by : (b : Bool) → (b || is_some (lookup (is_at (name_cmp q)) es)) ≡ is_some (cond b (Some e.1) (lookup (is_at (name_cmp q)) es))
    by true = refl
    by false = refl

-- ---- a directory

module _ (s : Slots Inode) (root : ℕ) (there : (q : Names) (c : ℕ) → walk (entry_at s) root q ≡ Some (target.Inode c) → IsSome (node_at s c)) (u : Tree) (shows : (q : Names) → stands (view_of s) root q ≡ at u q) (p : Names) (o : Option Target) (is : walk (entry_at s) root p ≡ o) where
  reached : (n : List ℕ) (x : Option Target) → lookup (is_at (name_cmp n)) (items_from s o) ≡ x → walk (entry_at s) root (p ++ n ∷ []) ≡ x
  reached n x e = by o is ∙ e
    where
      one : (x : Option Target) → follow x (λ d. walk (entry_at s) d []) [] ≡ x
      one None = refl
      one (Some target.Whiteout) = refl
      one (Some (target.Inode d)) = refl

      by : (y : Option Target) → walk (entry_at s) root p ≡ y → walk (entry_at s) root (p ++ n ∷ []) ≡ lookup (is_at (name_cmp n)) (items_from s y)
      by None f = walk_off (entry_at s) root p (n ∷ []) f
      by (Some target.Whiteout) f = walk_on (entry_at s) root p target.Whiteout (n ∷ []) f
      by (Some (target.Inode c)) f = walk_on (entry_at s) root p (target.Inode c) (n ∷ []) f ∙ one (entry_at s c n) ∙ sym (items_entry (get s c) n)

  at_name : (n : List ℕ) → at u (p ++ n ∷ []) ≡ node_shown (node_at s) (lookup (is_at (name_cmp n)) (items_from s o))
  at_name n = sym (shows (p ++ n ∷ [])) ∙ ap (node_shown (node_at s)) (reached n (lookup (is_at (name_cmp n)) (items_from s o)) refl)

  some_item : (n : List ℕ) → is_some (at u (p ++ n ∷ [])) ≡ is_some (lookup (is_at (name_cmp n)) (items_from s o))
  some_item n = ap is_some (at_name n) ∙ by (lookup (is_at (name_cmp n)) (items_from s o)) refl
    where
      by : (x : Option Target) → lookup (is_at (name_cmp n)) (items_from s o) ≡ x → is_some (node_shown (node_at s) x) ≡ is_some x
      by None e = refl
      by (Some target.Whiteout) e = refl
      by (Some (target.Inode c)) e = there (p ++ n ∷ []) c (reached n (Some (target.Inode c)) e)

  -- the names of the items are the names below the path
  pub names_are : IsStrictlySortedBy path_cmp (keys_of u.entries) → IsStrictlySortedBy name_cmp (keys_of (items_from s o)) → keys_of (items_from s o) ≡ names_below p u.entries
  names_are sorted order =
      same_names (keys_of (items_from s o)) (names_below p u.entries) order (sorted_below p u.entries sorted)
      (λ n. any_item n (items_from s o) ∙ sym (some_item n) ∙ sym (names_below_are u p n))

  -- where each item is a whiteout, nothing else stands in the directory
  pub clear_from : list_all targets_whiteout (values_of (items_from s o)) ≡ true → (n : List ℕ) → IsFree (at u (p ++ n ∷ []))
  clear_from all n = subst IsFree (sym (at_name n)) (by (items_from s o) all)
    where
      second : (a b : Bool) → (a && b) ≡ true → b ≡ true
      second true b e = e
      second false b e = absurd (cc)

      by : (es : Items) → list_all targets_whiteout (values_of es) ≡ true → IsFree (node_shown (node_at s) (lookup (is_at (name_cmp n)) es))
      by [] a = tt
      by (e ∷ es) a = choose (λ f. by es f) (is_at (name_cmp n) e.0) e.1 a
        where
          choose : (list_all targets_whiteout (values_of es) ≡ true → IsFree (node_shown (node_at s) (lookup (is_at (name_cmp n)) es))) → (b : Bool) (t : Target) → (targets_whiteout t && list_all targets_whiteout (values_of es)) ≡ true → IsFree (node_shown (node_at s) (cond b (Some t) (lookup (is_at (name_cmp n)) es)))
          choose later true target.Whiteout f = refl
          choose later true (target.Inode c) f = absurd (cc)
          choose later false t f = later (second (targets_whiteout t) (list_all targets_whiteout (values_of es)) f)

  -- and the other way
  pub all_clear : IsStrictlySortedBy name_cmp (keys_of (items_from s o)) → ((n : List ℕ) → IsFree (at u (p ++ n ∷ []))) → list_all targets_whiteout (values_of (items_from s o)) ≡ true
  all_clear order clear = by (items_from s o) (found_each nat_list_cmp_total (items_from s o) order)
    where
      leaf_apart : (k : ℕ) (b : Body) → is_whiteout (leaf_node k b) ≡ true → ⊥
      leaf_apart k (body_kinds.File meta content) e = cc
      leaf_apart k (body_kinds.Symlink goal) e = cc

      no_inode : (x : Option Inode) → IsSome (node_of x) → IsFree (node_of x) → ⊥
      no_inode None some free = cc
      no_inode (Some (Dir meta opaque entries)) some free = cc
      no_inode (Some (Leaf number links body)) some free = leaf_apart number body free

      item : (n : List ℕ) (t : Target) → lookup (is_at (name_cmp n)) (items_from s o) ≡ Some t → targets_whiteout t ≡ true
      item n target.Whiteout e = refl
      item n (target.Inode c) e = absurd (no_inode (get s c) (there (p ++ n ∷ []) c (reached n (Some (target.Inode c)) e)) (subst IsFree (at_name n ∙ ap (node_shown (node_at s)) e) (clear n)))

      by : (es : Items) → AllByRecursion (λ (e : List ℕ × Target). lookup (is_at (name_cmp e.0)) (items_from s o) ≡ Some e.1) es → list_all targets_whiteout (values_of es) ≡ true
      by [] a = refl
      by (e ∷ es) a = λ i. item e.0 e.1 a.0 i && by es a.1 i

-- ---- counts

pub inside_few : (u : Tree) → IsLayer u → (p : Names) → count_by is_dir (values_of (inside p u.entries)) + count_by is_whiteout (values_of (inside p u.entries)) ≤ most_inodes
inside_few u ok p = omega (arith, ok.few, ok.most.1, sum_by-filter (λ n. cond (is_dir n) 1 0) (λ e. begins p e.0) u.entries, sum_by-filter (λ n. cond (is_whiteout n) 1 0) (λ e. begins p e.0) u.entries)

-- a bool as a number
pub one_at_most : (b : Bool) → bool_byte b ≤ 1
one_at_most true = omega arith
one_at_most false = omega arith

-- one more entry counted
pub counted_more : (f : Node → Bool) (p : Names) (n : Node) (rest : Entries) (b : Bool) → b ≡ f n → bool_byte b + count_by f (values_of rest) ≡ count_by f (values_of ((p, n) ∷ rest))
counted_more f p n rest true is = ap (λ (x : Bool). cond x 1 0 + count_by f (values_of rest)) is ∙ sym (sum_by-cons (λ (x : Node). cond (f x) 1 0) n (values_of rest))
counted_more f p n rest false is = ap (λ (x : Bool). cond x 1 0 + count_by f (values_of rest)) is ∙ sym (sum_by-cons (λ (x : Node). cond (f x) 1 0) n (values_of rest))

-- below the root is everything
pub inside_root : (es : Entries) → inside [] es ≡ es
inside_root [] = refl
inside_root (e ∷ es) = ap (λ l. e ∷ l) (inside_root es)

-- two layers with the same root have the same entries where they have the same below it
pub same_rest : (a b : Entries) (o x : Option Node) (r s : Entries) → o ≡ x → inside [] a ≡ own [] o ++ r → inside [] b ≡ own [] x ++ s → (r ≡ s → a ≡ b) × (a ≡ b → r ≡ s)
same_rest a b o x r s same all others =
    let first : a ≡ own [] o ++ r = sym (inside_root a) ∙ all in
    let second : b ≡ own [] o ++ s = sym (inside_root b) ∙ others ∙ ap (λ y. own [] y ++ s) (sym same) in
    ((λ e. first ∙ ap (λ l. own [] o ++ l) e ∙ sym second), λ e. by o (sym first ∙ e ∙ second))
  where
    by : (y : Option Node) → own [] y ++ r ≡ own [] y ++ s → r ≡ s
    by None e = e
    by (Some v) e = cc

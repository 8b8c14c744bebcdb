-- A directory of a table, by its path.
use Rattle.std.proofs.Common.{◌≡◌, ℕ, Bool, true, false, List, [], ◌∷◌, ◌++◌, Option, Some, None, IsSome, refl, sym, ap, subst, ◌∙◌}
use Rattle.std.specs.Option.{option_map}
use Rattle.std.specs.Prelude.{T, ◌&&◌}
use Rattle.std.specs.declared.cmp.Ordering.{Ordering}
use Rattle.std.specs.declared.cmp.Ordering.TheVariants.{Less, Equal, Greater}
use Rattle.std.specs.Ordering.{is_lt}
use Rattle.std.specs.List.{AllByRecursion}
use Rattle.std.specs.List.Sorted.{IsStrictlySortedBy}
use Rattle.std.specs.Map.{lookup, keys_of}
use Rattle.std.specs.BTreeMap.{is_at}
use Rattle.std.specs.FinMap as map
use Rattle.std.specs.FinMap.Entries.{is_sorted, below_all}
use Rattle.slab.specs.Slab.{Slab as Slots}
use Rattle.snap_path.specs.Text.{Names}
use Rattle.snap_layer.specs.declared.node.Node.{Node}
use Rattle.snap_layer.specs.declared.node.Node.TheVariants.{Dir, File, Symlink, Whiteout}
use Rattle.snap_layer.specs.declared.inode.Inode.{Inode}
use Rattle.snap_layer.specs.declared.inode.Target.{Target}
use Rattle.snap_layer.specs.declared.inode.Target.TheVariants as target
use Rattle.snap_layer.specs.Tree.{path_cmp, Tree, at, is_dir, names_below, Entries, IsDirAt}
use Rattle.snap_layer.specs.Directory.{Directory, dir_of, entry}
use Rattle.snap_layer.specs.Walk.{walk, entry_at, node_at, node_shown, stands, view_of, IsTable}
use Rattle.snap_layer.specs.Holds.{Holds}
use Rattle.snap_layer.specs.Reached.{OnlyPath}
use Rattle.snap_layer.specs.Rows.{name_cmp, items_at}
use Rattle.snap_layer.proofs.Maps.{lookup_find}
use Rattle.snap_layer.proofs.Frames.{walk_push}
use Rattle.snap_layer.proofs.Listed.{names_are}

-- the root's path alone leads to it
unfoldable pub root_path : (s : Slots Inode) (root : ℕ) → IsTable (view_of s) root → OnlyPath s root root
root_path s root ok = ([], (refl, λ q to. ok.forest q [] root ok.root_dir to refl))

-- the directory's path and the name alone lead to a directory in it
unfoldable pub child_path : (s : Slots Inode) (root key c : ℕ) (p : OnlyPath s root key) (n : List ℕ) → IsTable (view_of s) root → entry_at s key n ≡ Some (target.Inode c) → IsDirAt (node_at s c) → OnlyPath s root c
child_path s root key c p n ok is dir =
    let leads : walk (entry_at s) root (p.0 ++ n ∷ []) ≡ Some (target.Inode c) = walk_push (entry_at s) root key p.0 n p.1.0 ∙ is in
    (p.0 ++ n ∷ [], (leads, λ q to. ok.forest q (p.0 ++ n ∷ []) c dir to leads))

no_dir : (t : Tree) (p : Names) (x : Node) → is_dir x ≡ false → dir_of t p x ≡ None
no_dir t p (Dir m o) e = absurd (cc)
no_dir t p (File k) e = refl
no_dir t p (Symlink k) e = refl
no_dir t p Whiteout e = refl

pub a_dir : (t : Tree) (p : Names) (x : Node) → is_dir x ≡ true → dir_of t p x ≡ Some (record { layer = t; path = p })
a_dir t p (Dir m o) e = refl
a_dir t p (File k) e = absurd (cc)
a_dir t p (Symlink k) e = absurd (cc)
a_dir t p Whiteout e = absurd (cc)

pub not_none : (o : Option Node) → IsSome o → o ≡ None → ⊥
not_none o some none = cc

pub dir_at : (o : Option Node) (x : Node) → o ≡ Some x → is_dir x ≡ true → IsDirAt o
dir_at o x is dir = subst IsDirAt (sym is) dir

-- ---- a map's entries are in order

each : (a b : Bool) → T (a && b) → T a × T b
each true b e = (tt, e)
each false b e = absurd e

is_less : (r : Ordering) → T (is_lt r) → r ≡ Less
is_less Less e = refl
is_less Equal e = absurd e
is_less Greater e = absurd e

rise_above : (k : Names) (es : Entries) → T (below_all path_cmp k es) → AllByRecursion (λ y. path_cmp k y ≡ Less) (keys_of es)
rise_above k [] a = tt
rise_above k (e ∷ es) a = let both = each (is_lt (path_cmp k e.0)) (below_all path_cmp k es) a in (is_less (path_cmp k e.0) both.0, rise_above k es both.1)

in_order : (es : Entries) → T (is_sorted path_cmp es) → IsStrictlySortedBy path_cmp (keys_of es)
unfolding IsStrictlySortedBy
in_order [] s = tt
in_order (e ∷ es) s = let both = each (below_all path_cmp e.0 es) (is_sorted path_cmp es) s in (rise_above e.0 es both.0, in_order es both.1)

-- ---- a directory

module _ (s : Slots Inode) (root key : ℕ) (h : Holds s root) (p : OnlyPath s root key) (t : Tree) (same : map.entries h.0 ≡ t.entries) (v : Directory) (view : ◌≡◌ {A = Directory} (record { layer = t; path = p.0 }) v) where
  pub stood : (q : Names) → at t q ≡ stands (view_of s) root q
  stood q = ap (lookup (is_at (path_cmp q))) (sym same) ∙ lookup_find path_cmp q (map.entries h.0) ∙ sym (map.get-entries h.0 q) ∙ h.1 q

  -- the directory's node is what stands at its path
  pub own_node : at v.layer v.path ≡ node_at s key
  own_node = ap (λ (d : Directory). at d.layer d.path) (sym view) ∙ stood p.0 ∙ ap (node_shown (node_at s)) p.1.0

  -- the names of its items are those below its path
  pub names_in : IsTable (view_of s) root → IsStrictlySortedBy name_cmp (keys_of (items_at s key)) → keys_of (items_at s key) ≡ names_below v.path v.layer.entries
  names_in ok order =
      names_are s root ok.there t (λ q. sym (stood q)) p.0 (Some (target.Inode key)) p.1.0 (subst (λ (es : Entries). IsStrictlySortedBy path_cmp (keys_of es)) same (in_order (map.entries h.0) (map.entries_sorted h.0))) order
      ∙ ap (λ (d : Directory). names_below d.path d.layer.entries) view

  module _ (n : List ℕ) where
    -- the entry's node is what stands at the path and the name
    name_node : at v.layer (v.path ++ n ∷ []) ≡ node_shown (node_at s) (entry_at s key n)
    name_node = ap (λ (d : Directory). at d.layer (d.path ++ n ∷ [])) (sym view) ∙ stood (p.0 ++ n ∷ []) ∙ ap (node_shown (node_at s)) (walk_push (entry_at s) root key p.0 n p.1.0)

    pub entry_none : entry_at s key n ≡ None → entry v n ≡ None
    entry_none none = ap (option_map (λ (x : Node). (x, dir_of v.layer (v.path ++ n ∷ []) x))) (name_node ∙ ap (node_shown (node_at s)) none)

    pub entry_leaf : (w : Target) (x : Node) → entry_at s key n ≡ Some w → node_shown (node_at s) (Some w) ≡ Some x → is_dir x ≡ false → entry v n ≡ Some (x, None)
    entry_leaf w x is node leaf =
        ap (option_map (λ (y : Node). (y, dir_of v.layer (v.path ++ n ∷ []) y))) (name_node ∙ ap (node_shown (node_at s)) is ∙ node)
        ∙ ap (λ (o : Option Directory). Some (x, o)) (no_dir v.layer (v.path ++ n ∷ []) x leaf)

    pub entry_dir : (c : ℕ) (x : Node) (q : OnlyPath s root c) → entry_at s key n ≡ Some (target.Inode c) → node_at s c ≡ Some x → is_dir x ≡ true → entry v n ≡ Some (x, Some (record { layer = t; path = q.0 }))
    entry_dir c x q is node dir =
        let leads : walk (entry_at s) root (p.0 ++ n ∷ []) ≡ Some (target.Inode c) = walk_push (entry_at s) root key p.0 n p.1.0 ∙ is in
        ap (option_map (λ (y : Node). (y, dir_of v.layer (v.path ++ n ∷ []) y))) (name_node ∙ ap (node_shown (node_at s)) is ∙ node)
        ∙ ap (λ (o : Option Directory). Some (x, o)) (a_dir v.layer (v.path ++ n ∷ []) x dir
        ∙ ap (λ (d : Directory). Some (record { layer = d.layer; path = d.path ++ n ∷ [] })) (sym view)
        ∙ ap (λ (y : Names). Some (record { layer = t; path = y })) (q.1.1 (p.0 ++ n ∷ []) leads))

    pub entry_there : (c : ℕ) → IsTable (view_of s) root → entry_at s key n ≡ Some (target.Inode c) → IsSome (node_at s c)
    entry_there c ok is = ok.there (p.0 ++ n ∷ []) c (walk_push (entry_at s) root key p.0 n p.1.0 ∙ is)

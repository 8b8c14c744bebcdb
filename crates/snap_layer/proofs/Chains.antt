-- Directories put one in the other, and taken back.
use Rattle.std.proofs.Common.{◌≡◌, ℕ, ◌+◌, ◌≤◌, ◌⊎◌, true, false, List, [], ◌∷◌, ◌++◌, length, take, drop, get_or, ◌<◌, Option, Some, None, refl, sym, ap, subst, ◌∙◌, inl, inr, arith, append_assoc, length-append, length-drop}
use Rattle.std.specs.Prelude.{nat_lt}
use Rattle.std.specs.List.{AllByRecursion}
use Rattle.std.specs.List.Sorted.{IsStrictlySortedBy}
use Rattle.std.specs.Map.{keys_of}
use Rattle.std.proofs.lemmas.Bool.Decides.{nat_tests}
use Rattle.std.proofs.lemmas.List.{at_drop_more, at_drop_all, take_more, take-append-drop}
use Rattle.slab.specs.Slab.{Slab as Slots, get, Updates}
use Rattle.snap_layer.specs.declared.node.Meta.{Meta}
use Rattle.snap_layer.specs.declared.node.Node.{Node}
use Rattle.snap_layer.specs.declared.node.Body.{Body}
use Rattle.snap_layer.specs.declared.inode.Inode.{Inode}
use Rattle.snap_layer.specs.declared.inode.Inode.TheVariants as inode
use Rattle.snap_layer.specs.Walk.{SlotView, view_of, node_at, entry_at, entry_of, node_of, body_of, links_of, Links, Same, Adds}
use Rattle.snap_path.specs.Text.{Names, IsPath}
use Rattle.snap_path.proofs.Texts.{IsPath-front}
use Rattle.snap_layer.specs.declared.node.Node.TheVariants as node
use Rattle.snap_layer.specs.declared.inode.Target.{Target}
use Rattle.snap_layer.specs.declared.inode.Target.TheVariants as target
use Rattle.snap_layer.specs.Tree.{Tree, IsDirAt, at, path_cmp}
use Rattle.snap_layer.specs.Counts.{inode_count, block_count, is_within}
use Rattle.snap_layer.specs.Totals.{path_count}
use Rattle.snap_layer.specs.Layers.{IsLayer, IsMeta}
use Rattle.snap_layer.specs.Edits.{with_entry, with_dirs, without, IsFree, HasRoom}
use Rattle.snap_layer.specs.Walk.{walk, node_shown, AddsDirs, IsOpen, IsVacantAt}
use Rattle.snap_layer.specs.Holds.{Places}
use Rattle.snap_layer.proofs.Paths.{snoc_same}
use Rattle.snap_layer.proofs.Looks.{Sets-with_entry}
use Rattle.snap_layer.proofs.Kept.{nothing_below}
use Rattle.snap_layer.proofs.Counting.{inodes_of, inode_count-with_entry}
use Rattle.snap_layer.proofs.Laws.{sorted-with_entry}
use Rattle.snap_layer.proofs.Replacing.{is_within_many, is_within_yes, with_node-free, without_nothing}
use Rattle.snap_layer.proofs.Totaling.{path_count-with_node}
use Rattle.snap_layer.proofs.Rooms.{Costs, dir_costs}
use Rattle.snap_layer.proofs.Makes.{Makes}
use Rattle.snap_layer.proofs.Putting.{no_some, none_some, makes_same, dir_makes, adds_beside}
use Rattle.snap_layer.proofs.Beside.{walk_here}
use Rattle.snap_layer.proofs.Frames.{split_ℕ, split_name, walk_push}

-- a slot without a node is vacant
empty_slot : (o : Option Inode) → node_of o ≡ None → o ≡ None
empty_slot None e = refl
empty_slot (Some (inode.Dir m o es)) e = absurd (cc)
empty_slot (Some (inode.Leaf k l b)) e = absurd (cc)

-- a directory that was put is taken back: its entry, and its slot
module _ (s : Slots Inode) (mid : SlotView) (cur un new : Slots Inode) (d : ℕ) (n : List ℕ) (k : ℕ) (v : Node) (b : Option Body) (l : ℕ)
    (none : entry_at s d n ≡ None) (adds : Adds (view_of s) mid d n k v b l) (same : Same mid (view_of cur)) (links : Links (view_of cur) (view_of un) d n None) (gone : Updates un new k None) where
  at_key : get new k ≡ get s k
  at_key = gone.changed ∙ sym (empty_slot (get s k) adds.vacant)

  entries : (c : ℕ) (m : List ℕ) → entry_at un c m ≡ entry_at s c m
  entries c m = elim (split_ℕ c d) [
    | inr other ↦ links.entries.dirs c m other ∙ same.entries c m ∙ adds.entries.dirs c m other
    | inl is ↦ elim (split_name m n) [
      | inr apart ↦ subst (λ (x : ℕ). entry_at un x m ≡ entry_at s x m) (sym is) (links.entries.names m apart ∙ same.entries d m ∙ adds.entries.names m apart)
      | inl named ↦ subst (λ (x : ℕ). entry_at un x m ≡ entry_at s x m) (sym is) (subst (λ (y : List ℕ). entry_at un d y ≡ entry_at s d y) (sym named) (links.entries.here ∙ sym none))
    ]
  ]

  pub put_back : Same (view_of s) (view_of new)
  put_back = record {
    entries = λ c m. elim (split_ℕ c k) [
      | inl is ↦ subst (λ (x : ℕ). entry_at new x m ≡ entry_at s x m) (sym is) (ap (λ o. entry_of o m) at_key)
      | inr other ↦ ap (λ o. entry_of o m) (gone.others c other) ∙ entries c m
    ];
    nodes = λ c. elim (split_ℕ c k) [
      | inl is ↦ subst (λ (x : ℕ). node_of (get new x) ≡ node_of (get s x)) (sym is) (ap node_of at_key)
      | inr other ↦ ap node_of (gone.others c other) ∙ links.nodes c ∙ same.nodes c ∙ adds.nodes c other
    ];
    bodies = λ c. elim (split_ℕ c k) [
      | inl is ↦ subst (λ (x : ℕ). body_of (get new x) ≡ body_of (get s x)) (sym is) (ap body_of at_key)
      | inr other ↦ ap body_of (gone.others c other) ∙ links.bodies c ∙ same.bodies c ∙ adds.bodies c other
    ];
    counts = λ c. elim (split_ℕ c k) [
      | inl is ↦ subst (λ (x : ℕ). links_of (get new x) ≡ links_of (get s x)) (sym is) (ap links_of at_key)
      | inr other ↦ ap links_of (gone.others c other) ∙ links.counts c ∙ same.counts c ∙ adds.counts c other
    ];
  }

-- ---- what it makes of the layer

-- nothing stands at the first of the names after the front, nor below it
abbrev pub IsVacant : Tree → Names → Names → Type 0
IsVacant u q [] = Unit {0}
IsVacant u q (n ∷ names) = (r : Names) → at u (q ++ n ∷ r) ≡ None

-- with a directory there, nothing stands at the next name
pub vacant_next : (u : Tree) (q : Names) (n : List ℕ) (names : Names) (meta : Meta) → IsVacant u q (n ∷ names) → IsVacant (with_entry u (q ++ n ∷ []) (node.Dir meta false)) (q ++ n ∷ []) names
vacant_next u q n [] meta vacant = tt
vacant_next u q n (m ∷ names) meta vacant = λ r.
    (Sets-with_entry u (q ++ n ∷ []) (node.Dir meta false)).others ((q ++ n ∷ []) ++ m ∷ r) (λ e. omega (arith, ap length e, length-append (q ++ n ∷ []) (m ∷ r)))
    ∙ ap (at u) (append_assoc q (n ∷ []) (m ∷ r)) ∙ vacant (m ∷ r)

-- each directory takes an inode
pub chain_inodes : (u : Tree) (q names : Names) (metas : List Meta) → IsStrictlySortedBy path_cmp (keys_of u.entries) → IsVacant u q names → length metas ≤ length names → inode_count (with_dirs u q names metas) ≡ inode_count u + length metas
chain_inodes u q [] [] sorted vacant few = omega arith
chain_inodes u q [] (meta ∷ metas) sorted vacant few = absurd (omega (arith, few))
chain_inodes u q (n ∷ names) [] sorted vacant few = omega arith
chain_inodes u q (n ∷ names) (meta ∷ metas) sorted vacant few =
    let p = q ++ n ∷ [] in
    let later = chain_inodes (with_entry u p (node.Dir meta false)) p names metas (sorted-with_entry u p (node.Dir meta false) sorted) (vacant_next u q n names meta vacant) (omega (arith, few)) in
    omega (arith, later, inode_count-with_entry u p (node.Dir meta false) sorted, ap inodes_of (vacant []))

pub chain_next : (u : Tree) (q names : Names) (metas : List Meta) → (with_dirs u q names metas).next ≡ u.next
chain_next u q [] metas = refl
chain_next u q (n ∷ names) [] = refl
chain_next u q (n ∷ names) (meta ∷ metas) = chain_next (with_entry u (q ++ n ∷ []) (node.Dir meta false)) (q ++ n ∷ []) names metas

pub chain_most : (u : Tree) (q names : Names) (metas : List Meta) → (with_dirs u q names metas).most ≡ u.most
chain_most u q [] metas = refl
chain_most u q (n ∷ names) [] = refl
chain_most u q (n ∷ names) (meta ∷ metas) = chain_most (with_entry u (q ++ n ∷ []) (node.Dir meta false)) (q ++ n ∷ []) names metas

-- the directories may be put there
pub record IsChain (u : Tree) (q names : Names) (metas : List Meta) : Type 0 where
  pub layer : IsLayer u
  pub dir : IsDirAt (at u q)
  pub vacant : IsVacant u q names
  pub path : IsPath (q ++ names)
  pub low : AllByRecursion IsMeta metas
  pub few : inode_count u + length metas ≤ u.most

module _ (u : Tree) (q : Names) (n : List ℕ) (names : Names) (meta : Meta) (metas : List Meta) (c : IsChain u q (n ∷ names) (meta ∷ metas)) where
  abbrev p : Names
  p = q ++ n ∷ []

  abbrev v : Tree
  v = with_entry u (q ++ n ∷ []) (node.Dir meta false)

  pub chain_free : at u (q ++ n ∷ []) ≡ None
  chain_free = c.vacant []

  free : IsFree (at u (q ++ n ∷ []))
  free = subst IsFree (sym chain_free) tt

  room : HasRoom u (q ++ n ∷ [])
  room = record { free = free; above = record { below_root = λ e. omega (arith, ap length e, length-append q (n ∷ [])); parent = λ r m e. subst (λ (x : Names). IsDirAt (at u x)) (snoc_same q r n m e) c.dir } }

  costs : Costs u (with_entry u (q ++ n ∷ []) (node.Dir meta false)) (q ++ n ∷ []) 0 1 1
  costs = dir_costs u c.layer (q ++ n ∷ []) (IsPath-front (q ++ n ∷ names) (q ++ n ∷ []) names c.path (sym (append_assoc q (n ∷ []) names))) meta false room c.low.0

  gone : without u (q ++ n ∷ []) ≡ u
  gone = without_nothing u c.layer (q ++ n ∷ []) chain_free

  one_more : inode_count (with_entry u (q ++ n ∷ []) (node.Dir meta false)) ≡ inode_count u + 1
  one_more = costs.inodes ∙ ap (λ (t : Tree). inode_count t + 1) gone

  pub block_more : block_count (with_entry u (q ++ n ∷ []) (node.Dir meta false)) ≡ block_count u + 1
  block_more = costs.blocks ∙ ap (λ (t : Tree). block_count t + 1) gone

  pub path_more : path_count (with_entry u (q ++ n ∷ []) (node.Dir meta false)) ≡ path_count u + 1
  path_more = omega (arith, path_count-with_node u p (node.Dir meta false) c.layer.sorted_paths, ap path_count (with_node-free u c.layer p (node.Dir meta false) free), ap path_count gone)

  pub chain_step : IsChain (with_entry u (q ++ n ∷ []) (node.Dir meta false)) (q ++ n ∷ []) names metas
  chain_step = record {
    layer = costs.layer (omega (arith, c.few, one_more)) (omega (arith, c.layer.next.1));
    dir = subst IsDirAt (sym (Sets-with_entry u p (node.Dir meta false)).here) refl;
    vacant = vacant_next u q n names meta c.vacant;
    path = subst IsPath (sym (append_assoc q (n ∷ []) names)) c.path;
    low = c.low.1;
    few = omega (arith, c.few, one_more);
  }

pub chain_layer : (u : Tree) (q names : Names) (metas : List Meta) → IsChain u q names metas → IsLayer (with_dirs u q names metas)
chain_layer u q [] metas c = c.layer
chain_layer u q (n ∷ names) [] c = c.layer
chain_layer u q (n ∷ names) (meta ∷ metas) c = chain_layer (with_entry u (q ++ n ∷ []) (node.Dir meta false)) (q ++ n ∷ []) names metas (chain_step u q n names meta metas c)

-- each directory takes a block, and has a path
pub chain_totals : (u : Tree) (q names : Names) (metas : List Meta) → IsChain u q names metas → length metas ≤ length names → (block_count (with_dirs u q names metas) ≡ block_count u + length metas) × (path_count (with_dirs u q names metas) ≡ path_count u + length metas)
chain_totals u q [] [] c few = (omega arith, omega arith)
chain_totals u q [] (meta ∷ metas) c few = absurd (omega (arith, few))
chain_totals u q (n ∷ names) [] c few = (omega arith, omega arith)
chain_totals u q (n ∷ names) (meta ∷ metas) c few =
    let later = chain_totals (with_entry u (q ++ n ∷ []) (node.Dir meta false)) (q ++ n ∷ []) names metas (chain_step u q n names meta metas c) (omega (arith, few)) in
    (omega (arith, later.0, block_more u q n names meta metas c), omega (arith, later.1, path_more u q n names meta metas c))

-- the slots have nothing at the first of the names then
pub slots_vacant : (s : SlotView) (root : ℕ) (ps : Places) (next : ℕ) (u : Tree) (q names : Names) (d : ℕ) → Makes s root ps next u → IsVacant u q names → walk s.entries root q ≡ Some (target.Inode d) → IsVacantAt s d names
slots_vacant s root ps next u q [] d m vacant leads = tt
slots_vacant s root ps next u q (n ∷ names) d m vacant leads = by (s.entries d n) refl
  where
    none_shown : (o : Option Target) → s.entries d n ≡ o → node_shown s.nodes o ≡ None
    none_shown o is = ap (node_shown s.nodes) (sym (walk_push s.entries root d q n leads ∙ is)) ∙ m.shows (q ++ n ∷ []) ∙ vacant []

    by : (o : Option Target) → s.entries d n ≡ o → s.entries d n ≡ None
    by None is = is
    by (Some target.Whiteout) is = absurd (no_some node.Whiteout (sym (none_shown (Some target.Whiteout) is)))
    by (Some (target.Inode c)) is = absurd (none_some (s.nodes c) (none_shown (Some (target.Inode c)) is) (m.table.there (q ++ n ∷ []) c (walk_push s.entries root d q n leads ∙ is)))

pub chain_makes : (s t : SlotView) (root : ℕ) (ps : Places) (next : ℕ) (u : Tree) (q names : Names) (metas : List Meta) (d : ℕ) → Makes s root ps next u → IsChain u q names metas → walk s.entries root q ≡ Some (target.Inode d) → IsDirAt (s.nodes d) → AddsDirs s t d names metas → Makes t root ps next (with_dirs u q names metas)
chain_makes s t root ps next u q [] metas d m c leads dir same = makes_same s t root same ps ps next u refl m
chain_makes s t root ps next u q (n ∷ names) [] d m c leads dir same = makes_same s t root same ps ps next u refl m
chain_makes s t root ps next u q (n ∷ names) (meta ∷ metas) d m c leads dir adds =
    let between = adds.0 in
    let k = adds.1 in
    let one = adds.2 in
    let beside = adds_beside s between root q n d m.table leads dir k (node.Dir meta false) None 0 one in
    chain_makes between t root ps next (with_entry u (q ++ n ∷ []) (node.Dir meta false)) (q ++ n ∷ []) names metas k
    (dir_makes s between root ps next u m c.layer q n d leads dir (subst IsFree (sym (chain_free u q n names meta metas c)) tt) (subst IsOpen (sym (slots_vacant s root ps next u q (n ∷ names) d m c.vacant leads)) tt) k (node.Dir meta false) None 0 one refl)
    (chain_step u q n names meta metas c)
    (walk_here s between root q n d (Some (target.Inode k)) beside)
    (subst IsDirAt (sym one.node) refl)
    adds.3

-- ---- where a call puts them

split_lt : (a b : ℕ) → (a < b) ⊎ (b ≤ a)
split_lt a b = elim (nat_lt a b) as (λ t. nat_lt a b ≡ t → (a < b) ⊎ (b ≤ a)) [ true ↦ λ e. inl (grind (arith, nat_tests)) | false ↦ λ e. inr (grind (arith, nat_tests)) ] refl

-- nothing stands at the next name, nor below it
pub vacant_after : (u : Tree) (p : Names) (k : ℕ) → IsLayer u → (k < length p → at u (take (k + 1) p) ≡ None) → IsVacant u (take k p) (drop k p)
vacant_after u p k layer bare = elim (split_lt k (length p)) [
  | inr all ↦ subst (IsVacant u (take k p)) (sym (at_drop_all (λ (r : Names). r) p k all)) tt
  | inl more ↦
      let n = get_or p k [] in
      let none : at u (take k p ++ n ∷ []) ≡ None = ap (at u) (sym (take_more p k [] more)) ∙ bare more in
      subst (IsVacant u (take k p)) (sym (at_drop_more (λ (r : Names). r) p k [] more)) (below n none)
]
  where
    below : (n : List ℕ) → at u (take k p ++ n ∷ []) ≡ None → (r : Names) → at u (take k p ++ n ∷ r) ≡ None
    below n none [] = none
    below n none (m ∷ r) = ap (at u) (sym (append_assoc (take k p) (n ∷ []) (m ∷ r))) ∙ nothing_below u layer (take k p ++ n ∷ []) (λ is. subst IsDirAt none is) m r

pub chain_after : (u : Tree) (p : Names) (k : ℕ) (metas : List Meta) → IsLayer u → IsPath p → IsDirAt (at u (take k p)) → (k < length p → at u (take (k + 1) p) ≡ None) → AllByRecursion IsMeta metas → inode_count u + length metas ≤ u.most → IsChain u (take k p) (drop k p) metas
chain_after u p k metas layer path dir bare low few = record { layer = layer; dir = dir; vacant = vacant_after u p k layer bare; path = subst IsPath (sym (take-append-drop k p)) path; low = low; few = few }

-- ---- what the layer takes then

pub record IsChained (u w : Tree) (k : ℕ) : Type 0 where
  pub layer : IsLayer w
  pub inodes : inode_count w ≡ inode_count u + k
  pub blocks : block_count w ≡ block_count u + k
  pub paths : path_count w ≡ path_count u + k
  pub within : is_within w ≡ true

module _ (u : Tree) (p : Names) (k : ℕ) (metas : List Meta) (layer : IsLayer u) (bare : k < length p → at u (take (k + 1) p) ≡ None) (long : k + length metas ≤ length p) where
  short : length metas ≤ length (drop k p)
  short = omega (arith, long, length-drop k p)

  count : inode_count (with_dirs u (take k p) (drop k p) metas) ≡ inode_count u + length metas
  count = chain_inodes u (take k p) (drop k p) metas layer.sorted_paths (vacant_after u p k layer bare) short

  pub chained : IsPath p → IsDirAt (at u (take k p)) → AllByRecursion IsMeta metas → inode_count u + length metas ≤ u.most → IsChained u (with_dirs u (take k p) (drop k p) metas) (length metas)
  chained path dir low few =
      let chain = chain_after u p k metas layer path dir bare low few in
      let whole = chain_layer u (take k p) (drop k p) metas chain in
      let totals = chain_totals u (take k p) (drop k p) metas chain short in
      record { layer = whole; inodes = count; blocks = totals.0; paths = totals.1; within = is_within_yes (with_dirs u (take k p) (drop k p) metas) whole.few whole.next.1 }

  pub chain_full : u.most < inode_count u + length metas → is_within (with_dirs u (take k p) (drop k p) metas) ≡ false
  chain_full many = is_within_many (with_dirs u (take k p) (drop k p) metas) (omega (arith, many, count, chain_most u (take k p) (drop k p) metas))

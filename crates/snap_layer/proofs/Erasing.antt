-- A state between two edits: what stood at an entry is gone, and nothing stands there yet.
use Rattle.std.proofs.Common.{◌≡◌, ℕ, ◌<◌, ◌≤◌, Bool, true, false, List, [], ◌∷◌, ◌++◌, Option, Some, None, IsSome, refl, sym, ap, subst, ◌∙◌, ◌⊎◌, inl, inr, arith}
use Rattle.std.specs.Prelude.{option_and_then, if◌then◌else◌}
use Rattle.std.specs.Ordering.{nat_cmp}
use Rattle.std.specs.Cmp.{nat_cmp_total}
use Rattle.std.specs.FinMap.{nat_cmp-IsAntisymmetric}
use Rattle.std.specs.List.Sorted.{IsStrictlySortedBy}
use Rattle.std.specs.Map.{remove_entry, keys_of}
use Rattle.std.specs.BTreeMap.{is_at}
use Rattle.std.proofs.lemmas.Bool.{cond-false}
use Rattle.snap_path.specs.Text.{Names, begins}
use Rattle.snap_layer.specs.declared.node.Node.TheVariants as node
use Rattle.snap_layer.specs.declared.node.Body.{Body}
use Rattle.snap_layer.specs.Tree.{Tree, at, body, number_of, number_at, IsDirAt, leaf_node}
use Rattle.snap_layer.specs.Layers.{IsLayer}
use Rattle.snap_layer.specs.Edits.{with_entry, with_node, with_moved, moved, without, HasPlace, IsFree, IsMovable}
use Rattle.snap_layer.proofs.Lists.{lookup-remove_entry, apart_from}
use Rattle.snap_layer.proofs.Paths.{begins_from}
use Rattle.snap_layer.proofs.Laws.{Takes-without}
use Rattle.snap_layer.proofs.Moves.{apart_below, not_of_parent, HasParent-without}
use Rattle.snap_layer.proofs.Replacing.{clears_place, with_node-free, without_nothing}
use Rattle.snap_layer.specs.declared.inode.Target.{Target}
use Rattle.snap_layer.specs.declared.inode.Target.TheVariants as target
use Rattle.snap_layer.specs.Walk.{SlotView, Table, walk, node_shown, IsOpen, Links, Frees, Releases, Drops, LeavesWhiteout, Gains, Shifted, Renames, Relocates}
use Rattle.snap_layer.specs.Walk as tables
use Rattle.snap_layer.specs.Holds.{Places, place}
use Rattle.snap_layer.proofs.Frames.{split_ℕ, split_name, walk_push}
use Rattle.snap_layer.proofs.Makes.{Makes}
use Rattle.snap_layer.proofs.Putting.{Spot, makes_same, white_made}
use Rattle.snap_layer.proofs.Files.{leaf_number, nothing_there, moved_made}
use Rattle.snap_layer.proofs.Covering.{covered_made, dropped_made, nothing_closed, left_taken}
use Rattle.snap_layer.proofs.Changing.{name_made, node_found}

no_some : {A : Type 0} (x : A) → None ≡ Some x → ⊥
no_some x e = cc

-- the first where the test holds, and else the second
pick : {P : Type 0} → P ⊎ (P → ⊥) → Option Target → Option Target → Option Target
pick (inl yes_) a b = a
pick (inr no_) a b = b

pick_yes : {P : Type 0} (x : P ⊎ (P → ⊥)) (a b : Option Target) → P → pick x a b ≡ a
unfolding pick
pick_yes (inl yes_) a b holds = refl
pick_yes (inr no_) a b holds = absurd (no_ holds)

pick_no : {P : Type 0} (x : P ⊎ (P → ⊥)) (a b : Option Target) → (P → ⊥) → pick x a b ≡ b
unfolding pick
pick_no (inl yes_) a b fails = absurd (fails yes_)
pick_no (inr no_) a b fails = refl

-- one entry read as none
pub erased : Table → ℕ → List ℕ → Table
erased e d n c m = pick (split_ℕ c d) (pick (split_name m n) None (e c m)) (e c m)

erased_here : (e : Table) (d : ℕ) (n : List ℕ) → erased e d n d n ≡ None
unfolding erased
erased_here e d n = pick_yes (split_ℕ d d) _ _ refl ∙ pick_yes (split_name n n) None (e d n) refl

erased_else : (e : Table) (d : ℕ) (n : List ℕ) (c : ℕ) (m : List ℕ) → (c ≡ d → m ≡ n → ⊥) → erased e d n c m ≡ e c m
unfolding erased
erased_else e d n c m apart = elim (split_ℕ c d) [
  | inl same ↦ pick_yes (split_ℕ c d) _ _ same ∙ pick_no (split_name m n) None (e c m) (apart same)
  | inr other ↦ pick_no (split_ℕ c d) _ _ other
]

-- both read alike, so they do with the entry erased
erased_same : (e f : Table) (d : ℕ) (n : List ℕ) (c : ℕ) (m : List ℕ) → f c m ≡ e c m → erased f d n c m ≡ erased e d n c m
unfolding erased
erased_same e f d n c m same = λ i. pick (split_ℕ c d) (pick (split_name m n) None (same i)) (same i)

abbrev erase : SlotView → ℕ → List ℕ → SlotView
erase v d n = record v { entries = erased v.entries d n }

module _ (d : ℕ) (n : List ℕ) where
  erase_links : (s b : SlotView) (w : Option Target) → Links s b d n w → Links s (erase b d n) d n None
  erase_links s b w links = record {
    entries = record {
      here = erased_here b.entries d n;
      names = λ m apart. erased_else b.entries d n d m (λ same here. apart here) ∙ links.entries.names m apart;
      dirs = λ c m apart. erased_else b.entries d n c m (λ same here. apart same) ∙ links.entries.dirs c m apart;
    };
    nodes = links.nodes;
    bodies = links.bodies;
    counts = links.counts;
  }

  erase_releases : (b t : SlotView) (ps qs : Places) (o : Option Target) → Releases b t ps qs o → Releases (erase b d n) (erase t d n) ps qs o
  erase_releases b t ps qs None r = (record { entries = λ c m. erased_same b.entries t.entries d n c m (r.0.entries c m); nodes = r.0.nodes; bodies = r.0.bodies; counts = r.0.counts }, r.1)
  erase_releases b t ps qs (Some target.Whiteout) r = (record { entries = λ c m. erased_same b.entries t.entries d n c m (r.0.entries c m); nodes = r.0.nodes; bodies = r.0.bodies; counts = r.0.counts }, r.1)
  erase_releases b t ps qs (Some (target.Inode k)) r = record {
    entries = λ c m apart. erased_same b.entries t.entries d n c m (r.entries c m apart);
    nodes = r.nodes;
    bodies = r.bodies;
    counts = r.counts;
    leaf = λ j m is. erased_same b.entries t.entries d n k m (r.leaf j m is);
    more = r.more;
    last = r.last;
    dir = r.dir;
    last_slot = r.last_slot;
    dir_slot = r.dir_slot;
  }

  -- what was covered is dropped
  pub erase_covers : (s t : SlotView) (ps qs : Places) → LeavesWhiteout s t ps qs d n → Drops s (erase t d n) ps qs d n None
  erase_covers s t ps qs covers = record {
    between = erase covers.between d n;
    links = erase_links s covers.between (Some target.Whiteout) covers.links;
    releases = erase_releases covers.between t ps qs (s.entries d n) covers.releases;
  }

  pub erase_gains : (s t : SlotView) (k : ℕ) → Gains s t d n k → Gains (erase s d n) t d n k
  erase_gains s t k gains = record {
    entries = record {
      here = gains.entries.here;
      names = λ m apart. gains.entries.names m apart ∙ sym (erased_else s.entries d n d m (λ same here. apart here));
      dirs = λ c m apart. gains.entries.dirs c m apart ∙ sym (erased_else s.entries d n c m (λ same here. apart same));
    };
    bare = gains.bare;
    nodes = gains.nodes;
    bodies = gains.bodies;
    counts = gains.counts;
    count = gains.count;
  }

  pub erase_shifted : (s t : SlotView) (df : ℕ) (nf : List ℕ) (leaves : Bool) → (df ≡ d → nf ≡ n → ⊥) → Shifted s t df nf d n leaves → Shifted (erase s d n) t df nf d n leaves
  erase_shifted s t df nf leaves apart sh = record {
    to = sh.to ∙ sym (erased_else s.entries d n df nf apart);
    from = sh.from;
    others = λ c m not_from not_to. sh.others c m not_from not_to ∙ sym (erased_else s.entries d n c m not_to);
    nodes = sh.nodes;
    bodies = sh.bodies;
    counts = sh.counts;
  }

-- ---- what is cleared stays elsewhere

-- another number keeps its place
pub clears_place_of : (s t : SlotView) (ps qs : Places) (d : ℕ) (n : List ℕ) (j k : ℕ) → IsStrictlySortedBy nat_cmp (keys_of ps) → (option_and_then number_of (node_shown s.nodes (s.entries d n)) ≡ Some j → ⊥) → place ps j ≡ Some k → tables.Clears s t ps qs d n (s.entries d n) → place qs j ≡ Some k
clears_place_of s t ps qs d n j k sorted apart found clears = by (s.entries d n) refl clears
  where
    same_place : qs ≡ ps → place qs j ≡ Some k
    same_place e = ap (λ (z : Places). place z j) e ∙ found

    taken : (i : ℕ) → (i ≡ j → ⊥) → qs ≡ remove_entry (is_at (nat_cmp i)) ps → place qs j ≡ Some k
    taken i out e = ap (λ (z : Places). place z j) e ∙ lookup-remove_entry nat_cmp_total nat_cmp-IsAntisymmetric i j ps sorted ∙ cond-false (is_at (nat_cmp j) i) None (place ps j) (apart_from nat_cmp_total nat_cmp-IsAntisymmetric j i out) ∙ found

    freed : (b : SlotView) (c : ℕ) → s.entries d n ≡ Some (target.Inode c) → b.nodes c ≡ s.nodes c → Frees b t ps qs c → place qs j ≡ Some k
    freed b c is node_same f = at_number (option_and_then number_of (b.nodes c)) refl
      where
        at_number : (o : Option ℕ) → option_and_then number_of (b.nodes c) ≡ o → place qs j ≡ Some k
        at_number None none = same_place (f.dir none)
        at_number (Some i) number = elim (split_more (b.counts c)) [ inl many ↦ same_place (f.more i number many).3 | inr few ↦ taken i out (f.last i number few) ]
          where
            split_more : (l : ℕ) → (1 < l) ⊎ (l ≤ 1)
            split_more l = elim (split_ℕ l 0) [ inl none ↦ inr (omega (arith, none)) | inr some ↦ elim (split_ℕ l 1) [ inl one ↦ inr (omega (arith, one)) | inr more ↦ inl (omega (arith, some, more)) ] ]

            out : i ≡ j → ⊥
            out e = apart (ap (λ o. option_and_then number_of (node_shown s.nodes o)) is ∙ ap (option_and_then number_of) (sym node_same) ∙ number ∙ ap (λ (y : ℕ). Some y) e)

    by : (o : Option Target) → s.entries d n ≡ o → tables.Clears s t ps qs d n o → place qs j ≡ Some k
    by None is r = same_place r.1
    by (Some target.Whiteout) is r = same_place (subst (Releases r.between t ps qs) is r.releases).1
    by (Some (target.Inode c)) is r = freed r.between c is (r.links.nodes c) (subst (Releases r.between t ps qs) is r.releases)

-- ---- at a path

spot_number : (s : SlotView) (root : ℕ) (ps : Places) (next : ℕ) (u : Tree) (path q : Names) (n : List ℕ) (d : ℕ) → Spot s root ps next u path q n d → option_and_then number_of (node_shown s.nodes (s.entries d n)) ≡ number_at u path
spot_number s root ps next u path q n d spot = ap (option_and_then number_of) (sym (walk_seen (walk_push s.entries root d q n spot.leads)) ∙ spot.makes.shows (q ++ n ∷ []) ∙ ap (at u) (sym spot.splits))
  where
    walk_seen : walk s.entries root (q ++ n ∷ []) ≡ s.entries d n → node_shown s.nodes (walk s.entries root (q ++ n ∷ [])) ≡ node_shown s.nodes (s.entries d n)
    walk_seen e = ap (node_shown s.nodes) e

shown : (s : SlotView) (root : ℕ) (ps : Places) (next : ℕ) (u : Tree) (path q : Names) (n : List ℕ) (d : ℕ) → Spot s root ps next u path q n d → (y : Target) → s.entries d n ≡ Some y → IsSome (at u path)
shown s root ps next u path q n d spot y is = subst IsSome (sym (ap (at u) spot.splits ∙ sym (spot.makes.shows (q ++ n ∷ [])) ∙ ap (node_shown s.nodes) (walk_push s.entries root d q n spot.leads ∙ is))) (by y is)
  where
    by : (z : Target) → s.entries d n ≡ Some z → IsSome (node_shown s.nodes (Some z))
    by target.Whiteout at_z = refl
    by (target.Inode c) at_z = spot.makes.table.there (q ++ n ∷ []) c (walk_push s.entries root d q n spot.leads ∙ at_z)

-- a whiteout in place of what stood at a path
pub whitened_made : (s t : SlotView) (root : ℕ) (ps qs : Places) (next : ℕ) (u : Tree) (path q : Names) (n : List ℕ) (d : ℕ) → Spot s root ps next u path q n d → HasPlace u path → ((c : ℕ) → s.nodes c ≡ Some node.Whiteout → ⊥) → LeavesWhiteout s t ps qs d n → Makes t root qs next (with_node u path node.Whiteout)
whitened_made s t root ps qs next u path q n d spot fits plain covers = by (s.entries d n) refl
  where
    by : (o : Option Target) → s.entries d n ≡ o → Makes t root qs next (with_node u path node.Whiteout)
    by None at_o =
        let free : IsFree (at u path) = subst IsFree (sym (nothing_there s root ps next u path q n d spot.makes spot.splits spot.leads at_o)) tt in
        let same = subst (Releases covers.between t ps qs) at_o covers.releases in
        let made = white_made s covers.between root ps next u path q n d spot free (subst IsOpen (sym at_o) tt) covers.links in
        subst (λ (z : Tree). Makes t root qs next z) (sym (with_node-free u spot.layer path node.Whiteout free)) (makes_same covers.between t root same.0 ps qs next (with_entry u path node.Whiteout) same.1 made)
    by (Some y) at_o = covered_made s t root ps qs next u path q n d spot fits (shown s root ps next u path q n d spot y at_o) plain covers

-- one more name in place of what stood at a path
pub renamed_made : (s t : SlotView) (root : ℕ) (ps qs : Places) (next : ℕ) (u : Tree) (path q : Names) (n : List ℕ) (d : ℕ) → Spot s root ps next u path q n d → HasPlace u path → ((c : ℕ) → s.nodes c ≡ Some node.Whiteout → ⊥)
    → (j k : ℕ) (b : Body) → (number_at u path ≡ Some j → ⊥) → place ps j ≡ Some k → body u j ≡ Some b → body (without u path) j ≡ Some b → Renames s t ps qs d n k → Makes t root qs next (with_node u path (leaf_node j b))
renamed_made s t root ps qs next u path q n d spot fits plain j k b apart found is left re = by (s.entries d n) refl re.clears
  where
    layer : IsLayer (without u path)
    layer = (clears_place u path spot.layer fits).layer

    gone : at (without u path) path ≡ None
    gone = (clears_place u path spot.layer fits).empty

    by : (o : Option Target) → s.entries d n ≡ o → tables.Clears s re.cleared ps qs d n o → Makes t root qs next (with_node u path (leaf_node j b))
    by None at_o same =
        let none : at u path ≡ None = nothing_there s root ps next u path q n d spot.makes spot.splits spot.leads at_o in
        let m = makes_same s re.cleared root same.0 ps qs next u same.1 spot.makes in
        let way : walk re.cleared.entries root q ≡ Some (target.Inode d) = ap (λ f. walk f root q) (λ i c y. same.0.entries c y i) ∙ spot.leads in
        let here : Spot re.cleared root qs next u path q n d = record { makes = m; layer = spot.layer; splits = spot.splits; leads = way; dir = subst IsDirAt (sym (same.0.nodes d)) spot.dir } in
        let made = name_made re.cleared t root qs next u path q n d here (subst IsFree (sym none) tt) (subst IsOpen (sym (same.0.entries d n ∙ at_o)) tt) k j b (ap (λ (z : Places). place z j) same.1 ∙ found) is re.gains in
        subst (λ (z : Tree). Makes t root qs next (with_entry z path (leaf_node j b))) (sym (without_nothing u spot.layer path none)) made
    by (Some y) at_o covers =
        let drops = erase_covers d n s re.cleared ps qs covers in
        let c = dropped_made s (erase re.cleared d n) root ps qs next u path q n d spot fits.clear (shown s root ps next u path q n d spot y at_o) plain None nothing_closed (without u path) (left_taken u path) drops in
        let here : Spot (erase re.cleared d n) root qs next (without u path) path q n d = record { makes = c.makes; layer = layer; splits = spot.splits; leads = c.leads; dir = c.dir } in
        let kept = clears_place_of s re.cleared ps qs d n j k spot.makes.filed.sorted (λ e. apart (sym (spot_number s root ps next u path q n d spot) ∙ e)) found re.clears in
        name_made (erase re.cleared d n) t root qs next (without u path) path q n d here (subst IsFree (sym gone) tt) (subst IsOpen (sym (erased_here re.cleared.entries d n)) tt) k j b kept left (erase_gains d n re.cleared t k re.gains)

-- a subtree moved in place of what stood at a path
pub relocated_made : (s t : SlotView) (root : ℕ) (ps qs : Places) (next : ℕ) (u : Tree) (from to qf : Names) (nf : List ℕ) (df : ℕ) (qt : Names) (nt : List ℕ) (dt : ℕ) (leaves : Bool) → Spot s root ps next u from qf nf df → Spot s root ps next u to qt nt dt
    → IsMovable u from to → ((c : ℕ) → s.nodes c ≡ Some node.Whiteout → ⊥) → (df ≡ dt → nf ≡ nt → ⊥) → Relocates s t ps qs df nf dt nt leaves → Makes t root qs next (with_moved u from to leaves)
relocated_made s t root ps qs next u from to qf nf df qt nt dt leaves one two movable plain apart re = by (s.entries dt nt) refl re.clears
  where
    layer : IsLayer (without u to)
    layer = (clears_place u to two.layer movable.place).layer

    gone : at (without u to) to ≡ None
    gone = (clears_place u to two.layer movable.place).empty

    -- where nothing stands at `to` already
    again : with_moved (without u to) from to leaves ≡ with_moved u from to leaves
    again = ap (λ (z : Tree). if leaves then with_entry (moved z from to) from node.Whiteout else moved z from to) (without_nothing (without u to) layer to gone)

    same_at : (x : Names) → begins to x ≡ false → at (without u to) x ≡ at u x
    same_at = (Takes-without u to).others

    -- what stands at `from` may still move
    movable_left : IsMovable (without u to) from to
    movable_left = record {
      there = subst IsSome (sym (same_at from movable.not_around)) movable.there;
      place = record { clear = λ y. subst IsFree (sym ((Takes-without u to).below y [])) tt; above = HasParent-without u to movable.place.above };
      not_inside = movable.not_inside;
      not_around = movable.not_around;
      fits = λ r there. movable.fits r (subst IsSome (same_at (from ++ r) (apart_below to from r movable.not_around movable.not_inside)) there);
    }

    by : (o : Option Target) → s.entries dt nt ≡ o → tables.Clears s re.cleared ps qs dt nt o → Makes t root qs next (with_moved u from to leaves)
    by None at_o same =
        let none : at u to ≡ None = nothing_there s root ps next u to qt nt dt two.makes two.splits two.leads at_o in
        let m = makes_same s re.cleared root same.0 ps qs next u same.1 one.makes in
        let way : (x : Names) → walk re.cleared.entries root x ≡ walk s.entries root x = λ x. ap (λ f. walk f root x) (λ i c y. same.0.entries c y i) in
        let first : Spot re.cleared root qs next u from qf nf df = record { makes = m; layer = one.layer; splits = one.splits; leads = way qf ∙ one.leads; dir = subst IsDirAt (sym (same.0.nodes df)) one.dir } in
        let second : Spot re.cleared root qs next u to qt nt dt = record { makes = m; layer = two.layer; splits = two.splits; leads = way qt ∙ two.leads; dir = subst IsDirAt (sym (same.0.nodes dt)) two.dir } in
        moved_made re.cleared t root qs next u from to qf nf df qt nt dt leaves first second movable (subst IsFree (sym none) tt) (subst IsOpen (sym (same.0.entries dt nt ∙ at_o)) tt) re.shifted
    by (Some y) at_o covers =
        let drops = erase_covers dt nt s re.cleared ps qs covers in
        let state = erase re.cleared dt nt in
        let c = dropped_made s state root ps qs next u to qt nt dt two movable.place.clear (shown s root ps next u to qt nt dt two y at_o) plain None nothing_closed (without u to) (left_taken u to) drops in
        let out : begins to qf ≡ false = not_of_parent to qf nf (subst (λ (z : Names). begins to z ≡ false) one.splits movable.not_around) in
        let way = c.ways qf df (subst (λ (z : Names). begins z qf ≡ false) two.splits out) one.leads in
        let first : Spot state root qs next (without u to) from qf nf df = record { makes = c.makes; layer = layer; splits = one.splits; leads = way.0; dir = subst IsDirAt (sym way.1) one.dir } in
        let second : Spot state root qs next (without u to) to qt nt dt = record { makes = c.makes; layer = layer; splits = two.splits; leads = c.leads; dir = c.dir } in
        subst (λ (z : Tree). Makes t root qs next z) again
        (moved_made state t root qs next (without u to) from to qf nf df qt nt dt leaves first second movable_left (subst IsFree (sym gone) tt) (subst IsOpen (sym (erased_here re.cleared.entries dt nt)) tt) (erase_shifted dt nt re.cleared t df nf leaves apart re.shifted))

-- ---- what an entry is not

-- the directory of an entry is not what stands there
pub not_from : (s : SlotView) (root : ℕ) (ps : Places) (next : ℕ) (u : Tree) (from to qf : Names) (nf : List ℕ) (df : ℕ) (qt : Names) (nt : List ℕ) (dt : ℕ) → Spot s root ps next u from qf nf df → Spot s root ps next u to qt nt dt → IsMovable u from to → s.entries dt nt ≡ Some (target.Inode df) → ⊥
not_from s root ps next u from to qf nf df qt nt dt one two movable is =
    let whole : qt ++ nt ∷ [] ≡ qf = one.makes.table.forest (qt ++ nt ∷ []) qf df one.dir (walk_push s.entries root dt qt nt two.leads ∙ is) one.leads in
    let within : begins to from ≡ true = begins_from to from (nf ∷ []) (one.splits ∙ ap (λ (z : Names). z ++ nf ∷ []) (sym whole ∙ sym two.splits)) in
    no_bool (sym within ∙ movable.not_around)
  where
    no_bool : true ≡ false → ⊥
    no_bool e = cc

-- a file's inode stands at no name of another number
pub not_key : (s : SlotView) (root : ℕ) (ps : Places) (next : ℕ) (u : Tree) (path q : Names) (n : List ℕ) (d : ℕ) → Spot s root ps next u path q n d → (j k : ℕ) (b : Body) → place ps j ≡ Some k → body u j ≡ Some b → (number_at u path ≡ Some j → ⊥) → s.entries d n ≡ Some (target.Inode k) → ⊥
not_key s root ps next u path q n d spot j k b found is apart here =
    apart (sym (spot_number s root ps next u path q n d spot) ∙ ap (λ o. option_and_then number_of (node_shown s.nodes o)) here ∙ ap (option_and_then number_of) (node_found s root ps next u spot.makes j k found b is) ∙ leaf_number j b)

-- where nothing stands at an entry nothing stands at its path
pub nothing_at : (s : SlotView) (root : ℕ) (ps : Places) (next : ℕ) (u : Tree) (path q : Names) (n : List ℕ) (d : ℕ) → Spot s root ps next u path q n d → s.entries d n ≡ None → at u path ≡ None
nothing_at s root ps next u path q n d spot none = nothing_there s root ps next u path q n d spot.makes spot.splits spot.leads none

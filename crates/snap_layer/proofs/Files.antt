-- Files: a new one put, and a subtree moved with the files in it.
use Rattle.std.proofs.Common.{◌≡◌, ℕ, ◌+◌, Bool, true, false, cond, List, [], ◌∷◌, ◌++◌, Option, Some, None, IsSome, refl, sym, ap, subst, ◌∙◌, inl, inr, arith}
use Rattle.std.specs.Prelude.{option_and_then}
use Rattle.std.specs.Ordering.{nat_cmp}
use Rattle.std.specs.Cmp.{nat_cmp_total}
use Rattle.std.specs.FinMap.{nat_cmp-IsAntisymmetric}
use Rattle.std.specs.Map.{lookup}
use Rattle.std.specs.BTreeMap.{is_at, insert_entry}
use Rattle.std.proofs.lemmas.Bool.{cond-true, cond-false}
use Rattle.snap_path.specs.Text.{Names, begins}
use Rattle.snap_layer.specs.declared.node.Node.{Node}
use Rattle.snap_layer.specs.declared.node.Node.TheVariants as node
use Rattle.snap_layer.specs.declared.node.Body.{Body}
use Rattle.snap_layer.specs.declared.node.Body.TheVariants as body_kinds
use Rattle.snap_layer.specs.Tree.{Tree, at, body, number_of, has_number, IsDirAt, leaf_node}
use Rattle.snap_layer.specs.Counts.{name_count}
use Rattle.snap_layer.specs.Layers.{IsLayer}
use Rattle.snap_layer.specs.Edits.{with_entry, with_new, with_moved, without, outside, bodies_without, IsFree, IsMovable}
use Rattle.snap_layer.proofs.Paths.{begins_itself}
use Rattle.snap_layer.proofs.Lists.{lookup-insert_entry, sorted-insert_entry}
use Rattle.snap_layer.proofs.Looks.{split_number, SetsBody, name_found, has_its_number}
use Rattle.snap_layer.proofs.Counting.{weight, name_count-insert_entry}
use Rattle.snap_layer.proofs.Kept.{free_has_no_number, has_body, next_is_fresh}
use Rattle.snap_layer.proofs.Replacing.{with_node-free, other_name, at_taken}
use Rattle.snap_layer.proofs.Laws.{SetsBody-with_new}
use Rattle.snap_layer.proofs.Moves.{name_count-with_moved, sorted-without}
use Rattle.snap_layer.specs.declared.inode.Target.TheVariants as target
use Rattle.snap_layer.specs.Walk.{SlotView, walk, node_shown, stands, IsOpen, Adds, Shifted}
use Rattle.snap_layer.specs.Holds.{Places, place, IsLeafOf}
use Rattle.snap_layer.proofs.Frames.{split_ℕ, walk_push}
use Rattle.snap_layer.proofs.Makes.{Makes}
use Rattle.snap_layer.proofs.Beside.{Beside, Leaves, by_walk, table, shows}
use Rattle.snap_layer.proofs.Putting.{Spot, adds_beside, adds_fresh, adds_left, not_new, entry_leaves, entry_names, housed_some}
use Rattle.snap_layer.proofs.Shifting as shifting
use Rattle.snap_layer.proofs.Shifting.{shifts}

no_some : {A : Type 0} (x : A) → None ≡ Some x → ⊥
no_some x e = cc

some_same : {A : Type 0} (x y : A) → Some x ≡ Some y → x ≡ y
some_same x y e = cc

abbrev one_if : Bool → ℕ
one_if b = cond b 1 0

module _ (s : SlotView) (root : ℕ) (ps : Places) (next : ℕ) (u : Tree) (m : Makes s root ps next u) (layer : IsLayer u) where
  -- the next number has no place and no name
  pub fresh_place : place ps u.next ≡ None
  fresh_place = by (place ps u.next) refl
    where
      by : (o : Option ℕ) → place ps u.next ≡ o → o ≡ None
      by None is = refl
      by (Some c) is =
          let leaf = m.filed.housed u.next c is in
          absurd (no_some leaf.0 (sym (next_is_fresh u layer) ∙ sym (m.bodies u.next) ∙ ap (option_and_then s.bodies) is ∙ leaf.1))

  no_names : name_count u.next u.entries ≡ 0
  no_names = elim (split_ℕ (name_count u.next u.entries) 0) [
    | inl is ↦ is
    | inr some ↦
        let f = name_found u.next u.entries layer.sorted_paths some in
        absurd (none (subst IsSome (next_is_fresh u layer) (has_body u layer f.0 u.next (ap (option_and_then number_of) f.2 ∙ f.3))))
  ]
    where
      none : IsSome {T = Body} None → ⊥
      none e = cc

  -- a new file or symlink over a free place
  pub leaf_makes : (t : SlotView) (q : Names) (n : List ℕ) (d : ℕ) → walk s.entries root q ≡ Some (target.Inode d) → IsDirAt (s.nodes d) → IsFree (at u (q ++ n ∷ [])) → IsOpen (s.entries d n)
      → (k last : ℕ) (b : Body) → Adds s t d n k (leaf_node u.next b) (Some b) 1 → number_of (leaf_node u.next b) ≡ Some u.next → last ≡ u.next + 1 → Makes t root (insert_entry nat_cmp ps u.next k) last (with_new u (q ++ n ∷ []) (leaf_node u.next b) b)
  leaf_makes t q n d leads dir free open_entry k last b adds named after = record {
    table = table s t root q n d (Some (target.Inode k)) beside m.table (adds_fresh s t root q n d m.table leads dir k v (Some b) 1 adds) (adds_left s t root q n d m.table leads dir k v (Some b) 1 adds open_entry);
    filed = record {
      placed = λ x c j to number. by_walk s t root q n d (Some (target.Inode k)) beside x c to
          (λ out was. kept_place j c (m.filed.placed x c j was (ap (option_and_then number_of) (sym (beside.nodes x c was out)) ∙ number)))
          (λ is new.
          let same : k ≡ c = cc in
          let number_is : u.next ≡ j = some_same u.next j (sym named ∙ ap (option_and_then number_of) (sym adds.node) ∙ ap (λ (y : ℕ). option_and_then number_of (t.nodes y)) same ∙ number) in
          at_place j ∙ cond-true _ _ _ (elim (split_number j u.next) [ inl is ↦ is.1 | inr apart ↦ absurd (apart.0 number_is) ]) ∙ ap (λ (y : ℕ). Some y) same);
      housed = λ j c is. elim (split_number j u.next) [
        | inl same ↦
            let here : k ≡ c = some_same k c (sym (at_place j ∙ cond-true _ _ _ same.1) ∙ is) in
            subst (λ (y : ℕ). IsLeafOf t j y) here (b, adds.body, adds.node ∙ ap (λ (y : ℕ). Some (leaf_node y b)) (sym same.0))
        | inr apart ↦
            let was : place ps j ≡ Some c = sym (at_place j ∙ cond-false _ _ _ apart.1) ∙ is in
            let leaf = m.filed.housed j c was in
            (leaf.0, adds.bodies c (old j c was) ∙ leaf.1, adds.nodes c (old j c was) ∙ leaf.2)
      ];
      counted = λ j c is. elim (split_number j u.next) [
        | inl same ↦
            let here : k ≡ c = some_same k c (sym (at_place j ∙ cond-true _ _ _ same.1) ∙ is) in
            let has : has_number j v ≡ true = ap (λ (y : ℕ). has_number y v) same.0 ∙ has_its_number u.next v named in
            let none : name_count j u.entries ≡ 0 = ap (λ (y : ℕ). name_count y u.entries) same.0 ∙ no_names in
            ap t.counts (sym here) ∙ adds.count ∙ one (name_count j u.entries) none ∙ ap (λ x. name_count j u.entries + one_if x) (sym has) ∙ sym (names j)
        | inr apart ↦
            let was : place ps j ≡ Some c = sym (at_place j ∙ cond-false _ _ _ apart.1) ∙ is in
            let has : has_number j v ≡ false = other_name j u.next v named (λ e. apart.0 (sym e)) in
            adds.counts c (old j c was) ∙ m.filed.counted j c was ∙ nil (name_count j u.entries) ∙ ap (λ x. name_count j u.entries + one_if x) (sym has) ∙ sym (names j)
      ];
      sorted = sorted-insert_entry nat_cmp_total ps u.next k m.filed.sorted;
    };
    shows = shows s t root q n d (Some (target.Inode k)) beside u w m.shows (record { here = ap (λ x. at x p) same_entries ∙ laws.here ∙ sym adds.node; below = λ y r. ap (λ x. at x (p ++ y ∷ r)) same_entries ∙ laws.below y r; others = λ x out. ap (λ y. at y x) same_entries ∙ laws.others x out });
    bodies = λ j. elim (split_number j u.next) [
      | inl same ↦ ap (option_and_then t.bodies) (at_place j ∙ cond-true _ _ _ same.1) ∙ adds.body ∙ sym (ap (body w) same.0 ∙ sets.here)
      | inr apart ↦ ap (option_and_then t.bodies) (at_place j ∙ cond-false _ _ _ apart.1) ∙ stay (place ps j) (λ c is. old j c is) ∙ m.bodies j ∙ sym (sets.others j (λ e. apart.0 (sym e)) ∙ ap (λ o. lookup (is_at (nat_cmp j)) (bodies_without o (outside p u.entries) u.bodies)) (free_has_no_number (at u p) free))
    ];
    last = after;
  }
    where
      p : Names
      p = q ++ n ∷ []

      v : Node
      v = leaf_node u.next b

      w : Tree
      w = with_new u p v b

      beside : Beside s t root q n d (Some (target.Inode k))
      beside = adds_beside s t root q n d m.table leads dir k v (Some b) 1 adds

      laws : Leaves u (with_entry u p v) p (Some v)
      laws = entry_leaves u layer p v free

      sets : SetsBody (without u p) w u.next (Some b)
      sets = SetsBody-with_new u p v b

      -- the entries are those of the node put
      same_entries : ◌≡◌ {A = Tree} (record { entries = w.entries; bodies = []; next = 0; most = 0 }) (record { entries = (with_entry u p v).entries; bodies = []; next = 0; most = 0 })
      same_entries = ap (λ (x : Tree). record { entries = x.entries; bodies = []; next = 0; most = 0 }) (with_node-free u layer p v free)

      names : (j : ℕ) → name_count j w.entries ≡ name_count j u.entries + one_if (has_number j v)
      names j = ap (λ (x : Tree). name_count j x.entries) same_entries ∙ entry_names u layer p v free j

      at_place : (j : ℕ) → place (insert_entry nat_cmp ps u.next k) j ≡ cond (is_at (nat_cmp j) u.next) (Some k) (place ps j)
      at_place j = lookup-insert_entry nat_cmp_total nat_cmp-IsAntisymmetric ps u.next k j

      old : (j c : ℕ) → place ps j ≡ Some c → c ≡ k → ⊥
      old j c is = not_new s t root q n d m.table leads dir k v (Some b) 1 adds c (housed_some s root ps u m.filed j c is)

      kept_place : (j c : ℕ) → place ps j ≡ Some c → place (insert_entry nat_cmp ps u.next k) j ≡ Some c
      kept_place j c is = elim (split_number j u.next) [
        | inl same ↦ absurd (no_some c (sym (ap (place ps) same.0 ∙ fresh_place) ∙ is))
        | inr apart ↦ at_place j ∙ cond-false _ _ _ apart.1 ∙ is
      ]

      stay : (o : Option ℕ) → ((c : ℕ) → o ≡ Some c → c ≡ k → ⊥) → option_and_then t.bodies o ≡ option_and_then s.bodies o
      stay None other = refl
      stay (Some c) other = adds.bodies c (other c refl)

      one : (x : ℕ) → x ≡ 0 → 1 ≡ x + 1
      one x e = omega arith

      nil : (x : ℕ) → x ≡ x + 0
      nil x = omega arith

-- over a free place the names that are left are all of them
pub free_names : (u : Tree) → IsLayer u → (p : Names) → IsFree (at u p) → (k : ℕ) → name_count k (without u p).entries ≡ name_count k u.entries
free_names u layer p free k =
    let put = name_count-insert_entry k (without u p).entries p node.Whiteout (sorted-without u p layer.sorted_paths) in
    let same = ap (λ (x : Tree). name_count k x.entries) (with_node-free u layer p node.Whiteout free) in
    omega (arith, put, ap (weight (λ n. cond (has_number k n) 1 0)) (at_taken u p), same, entry_names u layer p node.Whiteout free k)

next_moved : (u : Tree) (from to : Names) (b : Bool) → (with_moved u from to b).next ≡ u.next
next_moved u from to true = refl
next_moved u from to false = refl

bodies_moved : (u : Tree) (from to : Names) (b : Bool) → IsFree (at u to) → (with_moved u from to b).bodies ≡ u.bodies
bodies_moved u from to true free = ap (λ o. bodies_without o (outside to u.entries) u.bodies) (free_has_no_number (at u to) free)
bodies_moved u from to false free = ap (λ o. bodies_without o (outside to u.entries) u.bodies) (free_has_no_number (at u to) free)

-- a subtree moved to a free place
pub shift_makes : (s t : SlotView) (root : ℕ) (ps : Places) (next : ℕ) (u : Tree) → Makes s root ps next u → IsLayer u → (qf : Names) (nf : List ℕ) (df : ℕ) (qt : Names) (nt : List ℕ) (dt : ℕ) (leaves : Bool)
    → walk s.entries root qf ≡ Some (target.Inode df) → walk s.entries root qt ≡ Some (target.Inode dt) → IsDirAt (s.nodes df) → IsDirAt (s.nodes dt)
    → begins (qf ++ nf ∷ []) (qt ++ nt ∷ []) ≡ false → begins (qt ++ nt ∷ []) (qf ++ nf ∷ []) ≡ false → IsFree (at u (qt ++ nt ∷ [])) → IsOpen (s.entries dt nt)
    → Shifted s t df nf dt nt leaves → Makes t root ps next (with_moved u (qf ++ nf ∷ []) (qt ++ nt ∷ []) leaves)
shift_makes s t root ps next u m layer qf nf df qt nt dt leaves to_f to_t dir_f dir_t not_inside not_around free open_to sd =
    let sh = shifts s t root qf nf df qt nt dt leaves m.table to_f to_t dir_f dir_t not_inside sd in
    let from = qf ++ nf ∷ [] in
    let to = qt ++ nt ∷ [] in
    record {
      table = shifting.table s t root qf nf df qt nt dt leaves sh not_inside not_around m.table open_to (λ c some. subst IsSome (sd.nodes c) some);
      filed = record {
        placed = λ x c k leads number. let y = shifting.came s t root qf nf df qt nt dt leaves sh not_inside not_around x c leads in m.filed.placed y.0 c k y.1 (ap (option_and_then number_of) (sym (sd.nodes c)) ∙ number);
        housed = λ k c is. let leaf = m.filed.housed k c is in (leaf.0, sd.bodies c ∙ leaf.1, sd.nodes c ∙ leaf.2);
        counted = λ k c is. sd.counts c ∙ m.filed.counted k c is ∙ sym (name_count-with_moved u from to layer.sorted_paths not_around k leaves ∙ free_names u layer to free k);
        sorted = m.filed.sorted;
      };
      shows = shifting.shows s t root qf nf df qt nt dt leaves sh not_inside not_around u m.shows;
      bodies = λ j. ap (λ (f : ℕ → Option Body). option_and_then f (place ps j)) (λ i c. sd.bodies c i) ∙ m.bodies j ∙ ap (lookup (is_at (nat_cmp j))) (sym (bodies_moved u from to leaves free));
      last = m.last ∙ sym (next_moved u from to leaves);
    }

-- ---- the inodes that are left of a free place

-- ---- a new file, at a path

pub leaf_number : (k : ℕ) (b : Body) → number_of (leaf_node k b) ≡ Some k
leaf_number k (body_kinds.File m content) = refl
leaf_number k (body_kinds.Symlink t) = refl

-- ---- a move, at its paths

pub moved_made : (s t : SlotView) (root : ℕ) (ps : Places) (next : ℕ) (u : Tree) (from to qf : Names) (nf : List ℕ) (df : ℕ) (qt : Names) (nt : List ℕ) (dt : ℕ) (leaves : Bool) → Spot s root ps next u from qf nf df → Spot s root ps next u to qt nt dt
    → IsMovable u from to → IsFree (at u to) → IsOpen (s.entries dt nt) → Shifted s t df nf dt nt leaves → Makes t root ps next (with_moved u from to leaves)
moved_made s t root ps next u from to qf nf df qt nt dt leaves one two movable free open_to sd =
    let inside : begins (qf ++ nf ∷ []) (qt ++ nt ∷ []) ≡ false = (λ i. begins (sym one.splits i) (sym two.splits i)) ∙ movable.not_inside in
    let around : begins (qt ++ nt ∷ []) (qf ++ nf ∷ []) ≡ false = (λ i. begins (sym two.splits i) (sym one.splits i)) ∙ movable.not_around in
    let made = shift_makes s t root ps next u one.makes one.layer qf nf df qt nt dt leaves one.leads two.leads one.dir two.dir inside around (subst (λ (p : Names). IsFree (at u p)) two.splits free) open_to sd in
    subst (λ (x : Tree). Makes t root ps next x) (λ i. with_moved u (sym one.splits i) (sym two.splits i) leaves) made

-- what is at the source
pub source_stands : (s : SlotView) (root : ℕ) (ps : Places) (next : ℕ) (u : Tree) (from q : Names) (n : List ℕ) → Makes s root ps next u → IsLayer u → from ≡ q ++ n ∷ [] → IsSome (at u from) → IsDirAt (stands s root q)
source_stands s root ps next u from q n m layer splits there = subst IsDirAt (sym (m.shows q)) (layer.parents q n (subst (λ (p : Names). IsSome (at u p)) splits there))

pub source_entry : (s : SlotView) (root : ℕ) (ps : Places) (next : ℕ) (u : Tree) (from q : Names) (n : List ℕ) (d : ℕ) → Spot s root ps next u from q n d → IsSome (at u from) → s.entries d n ≡ None → ⊥
source_entry s root ps next u from q n d spot there none =
    let e : at u from ≡ None = ap (at u) spot.splits ∙ sym (spot.makes.shows (q ++ n ∷ [])) ∙ ap (node_shown s.nodes) (walk_push s.entries root d q n spot.leads ∙ none) in
    no_node (subst IsSome e there)
  where
    no_node : IsSome {T = Node} None → ⊥
    no_node e = cc

-- the two entries differ
pub entries_apart : (s : SlotView) (root : ℕ) (ps : Places) (next : ℕ) (u : Tree) (from to qf : Names) (nf : List ℕ) (df : ℕ) (qt : Names) (nt : List ℕ) (dt : ℕ) → Spot s root ps next u from qf nf df → Spot s root ps next u to qt nt dt → IsMovable u from to → df ≡ dt → nf ≡ nt → ⊥
entries_apart s root ps next u from to qf nf df qt nt dt one two movable dirs names =
    let front : qf ≡ qt = one.makes.table.forest qf qt dt two.dir (one.leads ∙ ap (λ (k : ℕ). Some (target.Inode k)) dirs) two.leads in
    let same : from ≡ to = one.splits ∙ (λ i. front i ++ names i ∷ []) ∙ sym two.splits in
    no_bool (sym (subst (λ (p : Names). begins from p ≡ true) same (begins_itself from)) ∙ movable.not_inside)
  where
    no_bool : true ≡ false → ⊥
    no_bool e = cc

-- where the directory has no entry nothing stands
pub nothing_there : (s : SlotView) (root : ℕ) (ps : Places) (next : ℕ) (u : Tree) (path q : Names) (n : List ℕ) (d : ℕ) → Makes s root ps next u → path ≡ q ++ n ∷ [] → walk s.entries root q ≡ Some (target.Inode d) → s.entries d n ≡ None → at u path ≡ None
nothing_there s root ps next u path q n d m splits leads none = ap (at u) splits ∙ sym (m.shows (q ++ n ∷ [])) ∙ ap (node_shown s.nodes) (walk_push s.entries root d q n leads ∙ none)

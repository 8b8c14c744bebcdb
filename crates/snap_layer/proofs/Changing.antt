-- One more name of a file; a directory's node and a file's body set in place.
use Rattle.std.proofs.Common.{◌≡◌, ℕ, ◌+◌, Bool, true, cond, List, [], ◌∷◌, ◌++◌, Option, Some, None, IsSome, refl, sym, ap, subst, ◌∙◌, inl, inr, arith}
use Rattle.std.specs.Prelude.{option_and_then, is_some}
use Rattle.snap_path.specs.Text.{Names}
use Rattle.snap_layer.specs.declared.node.Meta.{Meta}
use Rattle.snap_layer.specs.declared.node.Node.{Node}
use Rattle.snap_layer.specs.declared.node.Node.TheVariants as node
use Rattle.snap_layer.specs.declared.node.Body.{Body}
use Rattle.snap_layer.specs.declared.node.Body.TheVariants as body_kinds
use Rattle.snap_layer.specs.Tree.{Tree, at, body, number_of, has_number, IsDirAt, leaf_node}
use Rattle.snap_layer.specs.Counts.{name_count}
use Rattle.snap_layer.specs.Layers.{IsLayer}
use Rattle.snap_layer.specs.Edits.{with_entry, with_body, body_with_mode, IsFree}
use Rattle.snap_layer.proofs.Looks.{split_path, Sets-with_entry, SetsBody-with_body, has_its_number, name_found}
use Rattle.snap_layer.proofs.Counting.{weight, name_count-insert_entry}
use Rattle.snap_layer.proofs.Kept.{has_body}
use Rattle.snap_layer.proofs.Replacing.{other_name}
use Rattle.snap_layer.specs.declared.inode.Target.TheVariants as target
use Rattle.snap_layer.specs.Walk.{SlotView, walk, node_shown, stands, IsOpen, Gains, Renodes, Rebodies}
use Rattle.snap_layer.specs.Holds.{Places, place, IsLeafOf}
use Rattle.snap_layer.proofs.Frames.{split_ℕ}
use Rattle.snap_layer.proofs.Makes.{Makes}
use Rattle.snap_layer.proofs.Beside.{Beside, by_walk, table, shows, seen_agree}
use Rattle.snap_layer.proofs.Putting.{Spot, puts_out, reached_out, entry_leaves, entry_names}
use Rattle.snap_layer.proofs.Files.{leaf_number}

no_some : {A : Type 0} (x : A) → None ≡ Some x → ⊥
no_some x e = cc

pub some_same : {A : Type 0} (x y : A) → Some x ≡ Some y → x ≡ y
some_same x y e = cc

abbrev one_if : Bool → ℕ
one_if b = cond b 1 0

no_dir : (v : Node) (j : ℕ) → number_of v ≡ Some j → IsDirAt (Some v) → ⊥
no_dir (node.Dir m o) j e dir = cc
no_dir (node.File k) j e dir = cc
no_dir (node.Symlink k) j e dir = cc
no_dir node.Whiteout j e dir = cc

-- one more name over a free place
pub name_makes : (s t : SlotView) (root : ℕ) (ps : Places) (next : ℕ) (u : Tree) → Makes s root ps next u → IsLayer u → (q : Names) (n : List ℕ) (d : ℕ) → walk s.entries root q ≡ Some (target.Inode d) → IsDirAt (s.nodes d) → IsFree (at u (q ++ n ∷ [])) → IsOpen (s.entries d n)
    → (k j : ℕ) (v : Node) → place ps j ≡ Some k → s.nodes k ≡ Some v → number_of v ≡ Some j → Gains s t d n k → Makes t root ps next (with_entry u (q ++ n ∷ []) v)
name_makes s t root ps next u m layer q n d leads dir free open_entry k j v found node_is named nm =
    let b : Beside s t root q n d (Some (target.Inode k)) = record { leads = leads; entries = puts_out s t root q n d (Some (target.Inode k)) m.table leads dir nm.entries; here = nm.entries.here; bare = nm.bare; nodes = λ x c to out. nm.nodes c } in
    let laws = entry_leaves u layer (q ++ n ∷ []) v free in
    let new : t.nodes k ≡ Some v = nm.nodes k ∙ node_is in
    record {
      table = table s t root q n d (Some (target.Inode k)) b m.table (λ c same.
          let key : k ≡ c = cc in (
            subst (λ (x : ℕ). IsSome (t.nodes x)) key (ap is_some new),
            λ dir_c x out to. no_dir v j named (subst IsDirAt (ap t.nodes (sym key) ∙ new) dir_c),
          ))
          (λ c some. inr (reached_out s root q n d m.table leads open_entry c (subst IsSome (nm.nodes c) some)));
      filed = record {
        placed = λ x c i to number. by_walk s t root q n d (Some (target.Inode k)) b x c to
            (λ out was. m.filed.placed x c i was (ap (option_and_then number_of) (sym (nm.nodes c)) ∙ number))
            (λ is same.
            let key : k ≡ c = cc in
            let number_is : i ≡ j = some_same i j (sym number ∙ ap (λ (y : ℕ). option_and_then number_of (t.nodes y)) (sym key) ∙ ap (option_and_then number_of) new ∙ named) in
            ap (place ps) number_is ∙ found ∙ ap (λ (y : ℕ). Some y) key);
        housed = λ i c at_i. let leaf = m.filed.housed i c at_i in (leaf.0, nm.bodies c ∙ leaf.1, nm.nodes c ∙ leaf.2);
        counted = λ i c at_i. elim (split_ℕ i j) [
          | inl same ↦
              let key : c ≡ k = some_same c k (sym at_i ∙ ap (place ps) same ∙ found) in
              let has : has_number i v ≡ true = ap (λ (y : ℕ). has_number y v) same ∙ has_its_number j v named in
              ap t.counts key ∙ nm.count ∙ ap (λ (x : ℕ). x + 1) (ap s.counts (sym key) ∙ m.filed.counted i c at_i) ∙ ap (λ x. name_count i u.entries + one_if x) (sym has) ∙ sym (entry_names u layer (q ++ n ∷ []) v free i)
          | inr apart ↦
              let other : c ≡ k → ⊥ = λ key. let leaf = m.filed.housed i c at_i in apart (some_same i j (sym (leaf_number i leaf.0) ∙ sym (ap (option_and_then number_of) leaf.2) ∙ ap (λ (y : ℕ). option_and_then number_of (s.nodes y)) key ∙ ap (option_and_then number_of) node_is ∙ named)) in
              nm.counts c other ∙ m.filed.counted i c at_i ∙ nil (name_count i u.entries) ∙ ap (λ x. name_count i u.entries + one_if x) (sym (other_name i j v named apart)) ∙ sym (entry_names u layer (q ++ n ∷ []) v free i)
        ];
        sorted = m.filed.sorted;
      };
      shows = shows s t root q n d (Some (target.Inode k)) b u (with_entry u (q ++ n ∷ []) v) m.shows (record { here = laws.here ∙ sym new; below = laws.below; others = laws.others });
      bodies = λ i. ap (λ (f : ℕ → Option Body). option_and_then f (place ps i)) (λ l c. nm.bodies c l) ∙ m.bodies i;
      last = m.last;
    }
  where
    nil : (x : ℕ) → x ≡ x + 0
    nil x = omega arith

-- a directory's meta or mark set
pub dir_set_makes : (s t : SlotView) (root : ℕ) (ps : Places) (next : ℕ) (u : Tree) → Makes s root ps next u → IsLayer u → (q : Names) (k : ℕ) (m0 m1 : Meta) (o0 o1 : Bool) → walk s.entries root q ≡ Some (target.Inode k) → at u q ≡ Some (node.Dir m0 o0) → Renodes s t k (node.Dir m1 o1) → Makes t root ps next (with_entry u q (node.Dir m1 o1))
dir_set_makes s t root ps next u m layer q k m0 m1 o0 o1 leads is re = record {
  table = record {
    root_dir = elim (split_ℕ root k) [ inl same ↦ subst IsDirAt (sym (ap t.nodes same ∙ re.node)) refl | inr other ↦ subst IsDirAt (sym (re.nodes root other)) m.table.root_dir ];
    there = λ p c to. elim (split_ℕ c k) [ inl same ↦ subst IsSome (sym (ap t.nodes same ∙ re.node)) refl | inr other ↦ subst IsSome (sym (re.nodes c other)) (m.table.there p c (sym (walk_same p) ∙ to)) ];
    forest = λ p r c dir to_p to_r. m.table.forest p r c (elim (split_ℕ c k) [ inl same ↦ subst IsDirAt (sym (ap s.nodes same ∙ was)) refl | inr other ↦ subst IsDirAt (re.nodes c other) dir ]) (sym (walk_same p) ∙ to_p) (sym (walk_same r) ∙ to_r);
    reached = λ c some. let y = m.table.reached c (elim (split_ℕ c k) [ inl same ↦ subst IsSome (sym (ap s.nodes same ∙ was)) refl | inr other ↦ subst IsSome (re.nodes c other) some ]) in (y.0, walk_same y.0 ∙ y.1);
  };
  filed = record {
    placed = λ p c i to number. elim (split_ℕ c k) [
      | inl same ↦ absurd (no_some i (sym (ap (λ (y : ℕ). option_and_then number_of (t.nodes y)) same ∙ ap (option_and_then number_of) re.node) ∙ number))
      | inr other ↦ m.filed.placed p c i (sym (walk_same p) ∙ to) (ap (option_and_then number_of) (sym (re.nodes c other)) ∙ number)
    ];
    housed = λ i c found. let leaf = m.filed.housed i c found in (leaf.0, re.bodies c ∙ leaf.1, re.nodes c (not_leaf i c leaf) ∙ leaf.2);
    counted = λ i c found. re.counts c ∙ m.filed.counted i c found ∙ sym (names i);
    sorted = m.filed.sorted;
  };
  shows = λ x. elim (split_path q x) [
    | inl same ↦ ap (stands t root) (sym same.0) ∙ ap (node_shown t.nodes) (walk_same q ∙ leads) ∙ re.node ∙ sym (ap (at (with_entry u q (node.Dir m1 o1))) (sym same.0) ∙ (Sets-with_entry u q (node.Dir m1 o1)).here)
    | inr apart ↦
        ap (node_shown t.nodes) (walk_same x) ∙ seen_agree t.nodes s.nodes (walk s.entries root x) (λ c to. re.nodes c (λ same. apart.0 (m.table.forest x q k (subst IsDirAt (sym was) refl) (to ∙ ap (λ (y : ℕ). Some (target.Inode y)) same) leads)))
        ∙ m.shows x ∙ sym ((Sets-with_entry u q (node.Dir m1 o1)).others x apart.0)
  ];
  bodies = λ j. ap (λ (f : ℕ → Option Body). option_and_then f (place ps j)) (λ i c. re.bodies c i) ∙ m.bodies j;
  last = m.last;
}
  where
    walk_same : (p : Names) → walk t.entries root p ≡ walk s.entries root p
    walk_same p = let e : t.entries ≡ s.entries = λ i c n. re.entries c n i in ap (λ f. walk f root p) e

    was : s.nodes k ≡ Some (node.Dir m0 o0)
    was = sym (ap (node_shown s.nodes) leads) ∙ m.shows q ∙ is

    not_leaf : (i c : ℕ) → IsLeafOf s i c → c ≡ k → ⊥
    not_leaf i c leaf same = no_some i (ap (option_and_then number_of) (sym was) ∙ ap (λ (y : ℕ). option_and_then number_of (s.nodes y)) (sym same) ∙ ap (option_and_then number_of) leaf.2 ∙ leaf_number i leaf.0)

    names : (i : ℕ) → name_count i (with_entry u q (node.Dir m1 o1)).entries ≡ name_count i u.entries
    names i = omega (arith, name_count-insert_entry i u.entries q (node.Dir m1 o1) layer.sorted_paths, ap (weight (λ n. cond (has_number i n) 1 0)) is)

-- a file's content or meta set
pub body_set_makes : (s t : SlotView) (root : ℕ) (ps : Places) (next : ℕ) (u : Tree) → Makes s root ps next u → (j k : ℕ) (b : Body) → place ps j ≡ Some k → s.nodes k ≡ Some (leaf_node j b) → Rebodies s t k b → Makes t root ps next (with_body u j b)
body_set_makes s t root ps next u m j k b found kind re = record {
  table = record {
    root_dir = subst IsDirAt (sym (re.nodes root)) m.table.root_dir;
    there = λ p c to. subst IsSome (sym (re.nodes c)) (m.table.there p c (sym (walk_same p) ∙ to));
    forest = λ p r c dir to_p to_r. m.table.forest p r c (subst IsDirAt (re.nodes c) dir) (sym (walk_same p) ∙ to_p) (sym (walk_same r) ∙ to_r);
    reached = λ c some. let y = m.table.reached c (subst IsSome (re.nodes c) some) in (y.0, walk_same y.0 ∙ y.1);
  };
  filed = record {
    placed = λ p c i to number. m.filed.placed p c i (sym (walk_same p) ∙ to) (ap (option_and_then number_of) (sym (re.nodes c)) ∙ number);
    housed = λ i c at_i. elim (split_ℕ c k) [
      | inl same ↦
          let leaf = m.filed.housed i c at_i in
          let number : i ≡ j = some_same i j (sym (leaf_number i leaf.0) ∙ sym (ap (option_and_then number_of) leaf.2) ∙ ap (λ (y : ℕ). option_and_then number_of (s.nodes y)) same ∙ ap (option_and_then number_of) kind ∙ leaf_number j b) in
          (b, ap t.bodies same ∙ re.body, ap t.nodes same ∙ re.nodes k ∙ kind ∙ ap (λ (y : ℕ). Some (leaf_node y b)) (sym number))
      | inr other ↦ let leaf = m.filed.housed i c at_i in (leaf.0, re.bodies c other ∙ leaf.1, re.nodes c ∙ leaf.2)
    ];
    counted = λ i c at_i. re.counts c ∙ m.filed.counted i c at_i;
    sorted = m.filed.sorted;
  };
  shows = λ x. ap (node_shown t.nodes) (walk_same x) ∙ ap (λ f. node_shown f (walk s.entries root x)) (λ i c. re.nodes c i) ∙ m.shows x;
  bodies = λ i. elim (split_ℕ i j) [
    | inl same ↦ ap (option_and_then t.bodies) (ap (place ps) same ∙ found) ∙ re.body ∙ sym (ap (body (with_body u j b)) same ∙ (SetsBody-with_body u j b).here)
    | inr apart ↦ stay i apart (place ps i) refl ∙ m.bodies i ∙ sym ((SetsBody-with_body u j b).others i apart)
  ];
  last = m.last;
}
  where
    walk_same : (p : Names) → walk t.entries root p ≡ walk s.entries root p
    walk_same p = let e : t.entries ≡ s.entries = λ i c n. re.entries c n i in ap (λ f. walk f root p) e

    stay : (i : ℕ) → (i ≡ j → ⊥) → (o : Option ℕ) → place ps i ≡ o → option_and_then t.bodies o ≡ option_and_then s.bodies o
    stay i apart None is = refl
    stay i apart (Some c) is = re.bodies c (λ same.
        let leaf = m.filed.housed i c is in
        apart (some_same i j (sym (leaf_number i leaf.0) ∙ sym (ap (option_and_then number_of) leaf.2) ∙ ap (λ (y : ℕ). option_and_then number_of (s.nodes y)) same ∙ ap (option_and_then number_of) kind ∙ leaf_number j b)))

pub dir_set_made : (s t : SlotView) (root : ℕ) (ps : Places) (next : ℕ) (u : Tree) → Makes s root ps next u → IsLayer u → (q : Names) (k : ℕ) (meta : Meta) (opaque : Bool) → walk s.entries root q ≡ Some (target.Inode k) → IsDirAt (at u q) → Renodes s t k (node.Dir meta opaque) → Makes t root ps next (with_entry u q (node.Dir meta opaque))
dir_set_made s t root ps next u m layer q k meta opaque leads dir re = by (at u q) refl dir
  where
    by : (o : Option Node) → at u q ≡ o → IsDirAt o → Makes t root ps next (with_entry u q (node.Dir meta opaque))
    by None is dir_o = absurd dir_o
    by (Some (node.Dir m0 o0)) is dir_o = dir_set_makes s t root ps next u m layer q k m0 meta o0 opaque leads is re
    by (Some (node.File j)) is dir_o = absurd (cc)
    by (Some (node.Symlink j)) is dir_o = absurd (cc)
    by (Some node.Whiteout) is dir_o = absurd (cc)

-- ---- a body and its place

pub no_body : IsSome {T = Body} None → ⊥
no_body e = cc

pub body_some : (u : Tree) (j : ℕ) → IsSome (body u j) → (b : Body) × (body u j ≡ Some b)
body_some u j there = by (body u j) refl there
  where
    by : (o : Option Body) → body u j ≡ o → IsSome o → (b : Body) × (body u j ≡ Some b)
    by None is some = absurd (no_body some)
    by (Some b) is some = (b, is)

module _ (s : SlotView) (root : ℕ) (ps : Places) (next : ℕ) (u : Tree) (m : Makes s root ps next u) where
  -- where a number has a body it has a place
  pub place_there : (j : ℕ) → IsSome (body u j) → place ps j ≡ None → ⊥
  place_there j there none = no_body (subst IsSome (sym (m.bodies j) ∙ ap (option_and_then s.bodies) none) there)

  -- and else none, and no name
  pub nameless : IsLayer u → (j : ℕ) → place ps j ≡ None → name_count j u.entries ≡ 0
  nameless layer j none = elim (split_ℕ (name_count j u.entries) 0) [
    | inl is ↦ is
    | inr some ↦
        let f = name_found j u.entries layer.sorted_paths some in
        absurd (place_there j (has_body u layer f.0 j (ap (option_and_then number_of) f.2 ∙ f.3)) none)
  ]

  module _ (j k : ℕ) (found : place ps j ≡ Some k) where
    pub body_found : s.bodies k ≡ body u j
    body_found = sym (ap (option_and_then s.bodies) found) ∙ m.bodies j

    -- the inode of a number shows its body's kind
    pub node_found : (b : Body) → body u j ≡ Some b → s.nodes k ≡ Some (leaf_node j b)
    node_found b is =
        let leaf = m.filed.housed j k found in
        let same : leaf.0 ≡ b = some_same leaf.0 b (sym leaf.1 ∙ body_found ∙ is) in
        leaf.2 ∙ ap (λ (x : Body). Some (leaf_node j x)) same

    pub count_found : s.counts k ≡ name_count j u.entries
    count_found = m.filed.counted j k found

-- ---- at a path

pub name_made : (s t : SlotView) (root : ℕ) (ps : Places) (next : ℕ) (u : Tree) (path q : Names) (n : List ℕ) (d : ℕ) → Spot s root ps next u path q n d → IsFree (at u path) → IsOpen (s.entries d n) → (k j : ℕ) (b : Body) → place ps j ≡ Some k → body u j ≡ Some b → Gains s t d n k → Makes t root ps next (with_entry u path (leaf_node j b))
name_made s t root ps next u path q n d spot free open_entry k j b found is gains =
    subst (λ (p : Names). Makes t root ps next (with_entry u p (leaf_node j b))) (sym spot.splits)
    (name_makes s t root ps next u spot.makes spot.layer q n d spot.leads spot.dir (subst (λ (p : Names). IsFree (at u p)) spot.splits free) open_entry k j (leaf_node j b) found (node_found s root ps next u spot.makes j k found b is) (leaf_number j b) gains)

pub body_set_made : (s t : SlotView) (root : ℕ) (ps : Places) (next : ℕ) (u : Tree) → Makes s root ps next u → (j k : ℕ) (b : Body) → place ps j ≡ Some k → IsSome (body u j) → ((x : Body) → body u j ≡ Some x → leaf_node j x ≡ leaf_node j b) → Rebodies s t k b → Makes t root ps next (with_body u j b)
body_set_made s t root ps next u m j k b found there kind re =
    let old = body_some u j there in
    body_set_makes s t root ps next u m j k b found (node_found s root ps next u m j k found old.0 old.1 ∙ ap (λ (x : Node). Some x) (kind old.0 old.1)) re

-- two bodies of one kind name alike
pub same_kind : (j k : ℕ) (a b : Body) → leaf_node j a ≡ leaf_node j b → leaf_node k b ≡ leaf_node k a
same_kind j k (body_kinds.File m x) (body_kinds.File n y) e = refl
same_kind j k (body_kinds.File m x) (body_kinds.Symlink y) e = absurd (cc)
same_kind j k (body_kinds.Symlink x) (body_kinds.File n y) e = absurd (cc)
same_kind j k (body_kinds.Symlink x) (body_kinds.Symlink y) e = refl

-- a file's mode set
pub mode_set_made : (s t : SlotView) (root : ℕ) (ps : Places) (next : ℕ) (u : Tree) → Makes s root ps next u → (j k mode : ℕ) (b : Body) → place ps j ≡ Some k → body u j ≡ Some b → Rebodies s t k (body_with_mode b mode) → Makes t root ps next (with_body u j (body_with_mode b mode))
mode_set_made s t root ps next u m j k mode b found is re =
    body_set_makes s t root ps next u m j k (body_with_mode b mode) found (node_found s root ps next u m j k found b is ∙ ap (λ (x : Node). Some x) (same_leaf b)) re
  where
    same_leaf : (x : Body) → leaf_node j x ≡ leaf_node j (body_with_mode x mode)
    same_leaf (body_kinds.File old content) = refl
    same_leaf (body_kinds.Symlink target) = refl

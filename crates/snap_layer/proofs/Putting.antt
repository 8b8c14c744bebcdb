-- What each edit of the slots makes of the layer.
use Rattle.std.proofs.Common.{◌≡◌, ℕ, ◌+◌, Bool, true, false, cond, List, [], ◌∷◌, ◌++◌, Option, Some, None, IsSome, refl, sym, ap, subst, ◌∙◌, inl, inr, arith}
use Rattle.std.specs.Prelude.{option_and_then, is_some}
use Rattle.snap_path.specs.Text.{Names, begins}
use Rattle.snap_layer.specs.declared.node.Node.{Node}
use Rattle.snap_layer.specs.declared.node.Node.TheVariants as node
use Rattle.snap_layer.specs.declared.node.Body.{Body}
use Rattle.snap_layer.specs.Tree.{Tree, at, body, number_of, has_number, IsDirAt}
use Rattle.snap_layer.specs.Counts.{name_count}
use Rattle.snap_layer.specs.Layers.{IsLayer}
use Rattle.snap_layer.specs.Edits.{with_entry, IsFree}
use Rattle.snap_layer.proofs.Paths.{begins_itself}
use Rattle.snap_layer.proofs.Counting.{weight, name_count-insert_entry}
use Rattle.snap_layer.proofs.Replacing.{with_node-free}
use Rattle.snap_layer.proofs.Laws.{Replaces-with_node}
use Rattle.snap_layer.specs.declared.inode.Target.{Target}
use Rattle.snap_layer.specs.declared.inode.Target.TheVariants as target
use Rattle.snap_layer.specs.Walk.{SlotView, walk, node_shown, IsTable, IsBare, IsOpen, Puts, Links, Same, Adds}
use Rattle.snap_layer.specs.Holds.{Places, place, IsFiled}
use Rattle.snap_layer.proofs.Frames.{split_ℕ, split_name, walk_push}
use Rattle.snap_layer.proofs.Makes.{Makes}
use Rattle.snap_layer.proofs.Beside.{Beside, Leaves, by_walk, open_out, IsFresh, AllLeft, table, shows}

pub no_some : {A : Type 0} (x : A) → None ≡ Some x → ⊥
no_some x e = cc

no_bool : true ≡ false → ⊥
no_bool e = cc

pub none_some : {A : Type 0} (o : Option A) → o ≡ None → IsSome o → ⊥
none_some o e some = no_bool (sym some ∙ ap is_some e)

-- ---- what reads alike

module _ (s t : SlotView) (root : ℕ) (alike : Same s t) where
  same_entries : t.entries ≡ s.entries
  same_entries = λ i c m. alike.entries c m i

  same_nodes : t.nodes ≡ s.nodes
  same_nodes = λ i c. alike.nodes c i

  walk_same : (q : Names) → walk t.entries root q ≡ walk s.entries root q
  walk_same q = ap (λ f. walk f root q) same_entries

  pub makes_same : (ps qs : Places) (next : ℕ) (u : Tree) → qs ≡ ps → Makes s root ps next u → Makes t root qs next u
  makes_same ps qs next u places m = subst (λ (x : Places). Makes t root x next u) (sym places) (record {
    table = record {
      root_dir = subst IsDirAt (sym (alike.nodes root)) m.table.root_dir;
      there = λ p c is. subst IsSome (sym (alike.nodes c)) (m.table.there p c (sym (walk_same p) ∙ is));
      forest = λ p q c dir to_p to_q. m.table.forest p q c (subst IsDirAt (alike.nodes c) dir) (sym (walk_same p) ∙ to_p) (sym (walk_same q) ∙ to_q);
      reached = λ c some. let x = m.table.reached c (subst IsSome (alike.nodes c) some) in (x.0, walk_same x.0 ∙ x.1);
    };
    filed = record {
      placed = λ p c k is number. m.filed.placed p c k (sym (walk_same p) ∙ is) (ap (option_and_then number_of) (sym (alike.nodes c)) ∙ number);
      housed = λ k c is. let leaf = m.filed.housed k c is in (leaf.0, alike.bodies c ∙ leaf.1, alike.nodes c ∙ leaf.2);
      counted = λ k c is. alike.counts c ∙ m.filed.counted k c is;
      sorted = m.filed.sorted;
    };
    shows = λ q. ap (node_shown t.nodes) (walk_same q) ∙ ap (λ f. node_shown f (walk s.entries root q)) same_nodes ∙ m.shows q;
    bodies = λ j. ap (λ (f : ℕ → Option Body). option_and_then f (place ps j)) (λ i c. alike.bodies c i) ∙ m.bodies j;
    last = m.last;
  })

-- ---- an entry put or taken

-- where one entry of one directory changes, each path elsewhere reads as before
pub puts_out : (s t : SlotView) (root : ℕ) (q : Names) (n : List ℕ) (d : ℕ) (w : Option Target) → IsTable s root → walk s.entries root q ≡ Some (target.Inode d) → IsDirAt (s.nodes d) → Puts s.entries t.entries d n w
    → (x : Names) (m : List ℕ) (c : ℕ) → walk s.entries root x ≡ Some (target.Inode c) → begins (q ++ n ∷ []) (x ++ m ∷ []) ≡ false → t.entries c m ≡ s.entries c m
puts_out s t root q n d w ok leads dir puts x m c to out = elim (split_ℕ c d) [
  | inr other ↦ puts.dirs c m other
  | inl same_dir ↦ elim (split_name m n) [
    | inr other ↦ subst (λ (k : ℕ). t.entries k m ≡ s.entries k m) (sym same_dir) (puts.names m other)
    | inl same_name ↦
        let front : x ≡ q = ok.forest x q d dir (to ∙ ap (λ (k : ℕ). Some (target.Inode k)) same_dir) leads in
        let whole : x ++ m ∷ [] ≡ q ++ n ∷ [] = ap (λ (z : Names). z ++ m ∷ []) front ∙ ap (λ (y : List ℕ). q ++ y ∷ []) same_name in
        absurd (no_bool (sym (ap (begins (q ++ n ∷ [])) whole ∙ begins_itself (q ++ n ∷ [])) ∙ out))
  ]
]

-- a path to an inode does not go through an entry that has none
pub reached_out : (s : SlotView) (root : ℕ) (q : Names) (n : List ℕ) (d : ℕ) → IsTable s root → walk s.entries root q ≡ Some (target.Inode d) → IsOpen (s.entries d n) → (c : ℕ) → IsSome (s.nodes c) → (x : Names) × (begins (q ++ n ∷ []) x ≡ false) × (walk s.entries root x ≡ Some (target.Inode c))
reached_out s root q n d ok leads open_entry c some = let x = ok.reached c some in (x.0, open_out s root q n d leads open_entry x.0 c x.1, x.1)

module _ (s t : SlotView) (root : ℕ) (q : Names) (n : List ℕ) (d : ℕ) (ok : IsTable s root) (leads : walk s.entries root q ≡ Some (target.Inode d)) (dir : IsDirAt (s.nodes d)) where
  -- a new inode without entries
  module _ (k : ℕ) (v : Node) (bd : Option Body) (l : ℕ) (adds : Adds s t d n k v bd l) where
    pub not_new : (c : ℕ) → IsSome (s.nodes c) → c ≡ k → ⊥
    not_new c some e = none_some (s.nodes c) (ap s.nodes e ∙ adds.vacant) some

    pub adds_beside : Beside s t root q n d (Some (target.Inode k))
    adds_beside = record {
      leads = leads;
      entries = puts_out s t root q n d (Some (target.Inode k)) ok leads dir adds.entries;
      here = adds.entries.here;
      bare = adds.bare;
      nodes = λ x c to out. adds.nodes c (not_new c (ok.there x c to));
    }

    pub adds_fresh : IsFresh s t root q n d (Some (target.Inode k)) adds_beside
    adds_fresh c same =
        let here : k ≡ c = cc in (
          subst (λ (x : ℕ). IsSome (t.nodes x)) here (ap is_some adds.node),
          λ dir_c x out to. not_new c (ok.there x c to) (sym here),
        )

    pub adds_left : IsOpen (s.entries d n) → AllLeft s t root q n d (Some (target.Inode k)) adds_beside
    adds_left open_entry c some = elim (split_ℕ c k) [
      | inl same ↦ inl (ap (λ (x : ℕ). Some (target.Inode x)) (sym same))
      | inr other ↦ inr (reached_out s root q n d ok leads open_entry c (subst IsSome (adds.nodes c other) some))
    ]

  -- a whiteout, or nothing
  pub links_beside : (w : Option Target) → ((c : ℕ) → w ≡ Some (target.Inode c) → ⊥) → Links s t d n w → Beside s t root q n d w
  links_beside w no_inode links = record {
    leads = leads;
    entries = puts_out s t root q n d w ok leads dir links.entries;
    here = links.entries.here;
    bare = bare w no_inode;
    nodes = λ x c to out. links.nodes c;
  }
    where
      bare : (o : Option Target) → ((c : ℕ) → o ≡ Some (target.Inode c) → ⊥) → IsBare t.entries o
      bare None never = tt
      bare (Some target.Whiteout) never = tt
      bare (Some (target.Inode c)) never = absurd (never c refl)

  pub links_left : (w : Option Target) (no_inode : (c : ℕ) → w ≡ Some (target.Inode c) → ⊥) (links : Links s t d n w) → IsOpen (s.entries d n) → AllLeft s t root q n d w (links_beside w no_inode links)
  links_left w no_inode links open_entry c some = inr (reached_out s root q n d ok leads open_entry c (subst IsSome (links.nodes c) some))

-- ---- the files stay

module _ (s t : SlotView) (root : ℕ) (q : Names) (n : List ℕ) (d : ℕ) (w : Option Target) (b : Beside s t root q n d w) (ps : Places) (u v : Tree) (old : IsFiled s root ps u)
    (stay : (j c : ℕ) → place ps j ≡ Some c → (t.nodes c ≡ s.nodes c) × (t.bodies c ≡ s.bodies c) × (t.counts c ≡ s.counts c)) where
  pub filed_keep : ((j : ℕ) → name_count j v.entries ≡ name_count j u.entries) → option_and_then number_of (node_shown t.nodes w) ≡ None → IsFiled t root ps v
  filed_keep names plain = record {
    placed = λ x c k to number. by_walk s t root q n d w b x c to
        (λ out was. old.placed x c k was (ap (option_and_then number_of) (sym (b.nodes x c was out)) ∙ number))
        (λ is new. absurd (no_some k (sym plain ∙ ap (λ o. option_and_then number_of (node_shown t.nodes o)) new ∙ number)));
    housed = λ k c is. let leaf = old.housed k c is in let same = stay k c is in (leaf.0, same.1 ∙ leaf.1, same.0 ∙ leaf.2);
    counted = λ k c is. (stay k c is).2 ∙ old.counted k c is ∙ sym (names k);
    sorted = old.sorted;
  }

  pub bodies_keep : ((j : ℕ) → option_and_then s.bodies (place ps j) ≡ body u j) → (j : ℕ) → option_and_then t.bodies (place ps j) ≡ body u j
  bodies_keep was j = by (place ps j) refl ∙ was j
    where
      by : (o : Option ℕ) → place ps j ≡ o → option_and_then t.bodies o ≡ option_and_then s.bodies o
      by None is = refl
      by (Some c) is = (stay j c is).1

-- ---- nodes without a number over a free place

abbrev names_weight : ℕ → Option Node → ℕ
names_weight k o = weight (λ m. cond (has_number k m) 1 0) o

plain_has_none : (k : ℕ) (v : Node) → number_of v ≡ None → has_number k v ≡ false
plain_has_none k (node.Dir m o) e = refl
plain_has_none k (node.File j) e = absurd (cc)
plain_has_none k (node.Symlink j) e = absurd (cc)
plain_has_none k node.Whiteout e = refl

free_weighs_none : (k : ℕ) (o : Option Node) → IsFree o → names_weight k o ≡ 0
free_weighs_none k None free = refl
free_weighs_none k (Some (node.Dir m o)) free = refl
free_weighs_none k (Some (node.File j)) free = absurd (cc)
free_weighs_none k (Some (node.Symlink j)) free = absurd (cc)
free_weighs_none k (Some node.Whiteout) free = refl

abbrev one_if : Bool → ℕ
one_if b = cond b 1 0

module _ (u : Tree) (layer : IsLayer u) (p : Names) (v : Node) (free : IsFree (at u p)) where
  pub entry_leaves : Leaves u (with_entry u p v) p (Some v)
  entry_leaves =
      let same = with_node-free u layer p v free in
      let laws = Replaces-with_node u p v in
      record {
        here = ap (λ x. at x p) (sym same) ∙ laws.here;
        below = λ m r. ap (λ x. at x (p ++ m ∷ r)) (sym same) ∙ laws.below m r;
        others = λ x out. ap (λ z. at z x) (sym same) ∙ laws.others x out;
      }

  pub entry_names : (k : ℕ) → name_count k (with_entry u p v).entries ≡ name_count k u.entries + one_if (has_number k v)
  entry_names k = omega (arith, name_count-insert_entry k u.entries p v layer.sorted_paths, free_weighs_none k (at u p) free)

  pub plain_names : number_of v ≡ None → (k : ℕ) → name_count k (with_entry u p v).entries ≡ name_count k u.entries
  plain_names plain k = omega (arith, entry_names k, ap one_if (plain_has_none k v plain))

-- a place has an inode
pub housed_some : (s : SlotView) (root : ℕ) (ps : Places) (u : Tree) → IsFiled s root ps u → (j c : ℕ) → place ps j ≡ Some c → IsSome (s.nodes c)
housed_some s root ps u filed j c is = ap is_some (filed.housed j c is).2

-- a directory put
pub dir_makes : (s t : SlotView) (root : ℕ) (ps : Places) (next : ℕ) (u : Tree) → Makes s root ps next u → IsLayer u → (q : Names) (n : List ℕ) (d : ℕ) → walk s.entries root q ≡ Some (target.Inode d) → IsDirAt (s.nodes d) → IsFree (at u (q ++ n ∷ [])) → IsOpen (s.entries d n)
    → (k : ℕ) (v : Node) (bd : Option Body) (l : ℕ) → Adds s t d n k v bd l → number_of v ≡ None → Makes t root ps next (with_entry u (q ++ n ∷ []) v)
dir_makes s t root ps next u m layer q n d leads dir free open_entry k v bd l adds plain =
    let b = adds_beside s t root q n d m.table leads dir k v bd l adds in
    let new : t.nodes k ≡ Some v = adds.node in
    let stay : (j c : ℕ) → place ps j ≡ Some c → (t.nodes c ≡ s.nodes c) × (t.bodies c ≡ s.bodies c) × (t.counts c ≡ s.counts c) =
    λ j c at_j. let other = not_new s t root q n d m.table leads dir k v bd l adds c (housed_some s root ps u m.filed j c at_j) in (adds.nodes c other, adds.bodies c other, adds.counts c other) in
    let laws = entry_leaves u layer (q ++ n ∷ []) v free in
    record {
      table = table s t root q n d (Some (target.Inode k)) b m.table (adds_fresh s t root q n d m.table leads dir k v bd l adds) (adds_left s t root q n d m.table leads dir k v bd l adds open_entry);
      filed = filed_keep s t root q n d (Some (target.Inode k)) b ps u (with_entry u (q ++ n ∷ []) v) m.filed stay (plain_names u layer (q ++ n ∷ []) v free plain) (ap (option_and_then number_of) new ∙ plain);
      shows = shows s t root q n d (Some (target.Inode k)) b u (with_entry u (q ++ n ∷ []) v) m.shows (record { here = laws.here ∙ sym new; below = laws.below; others = laws.others });
      bodies = bodies_keep s t root q n d (Some (target.Inode k)) b ps u (with_entry u (q ++ n ∷ []) v) m.filed stay m.bodies;
      last = m.last;
    }

-- a whiteout put
pub white_makes : (s t : SlotView) (root : ℕ) (ps : Places) (next : ℕ) (u : Tree) → Makes s root ps next u → IsLayer u → (q : Names) (n : List ℕ) (d : ℕ) → walk s.entries root q ≡ Some (target.Inode d) → IsDirAt (s.nodes d) → IsFree (at u (q ++ n ∷ [])) → IsOpen (s.entries d n)
    → Links s t d n (Some target.Whiteout) → Makes t root ps next (with_entry u (q ++ n ∷ []) node.Whiteout)
white_makes s t root ps next u m layer q n d leads dir free open_entry links =
    let b = links_beside s t root q n d m.table leads dir (Some target.Whiteout) (λ c e. cc) links in
    let stay : (j c : ℕ) → place ps j ≡ Some c → (t.nodes c ≡ s.nodes c) × (t.bodies c ≡ s.bodies c) × (t.counts c ≡ s.counts c) = λ j c at_j. (links.nodes c, links.bodies c, links.counts c) in
    record {
      table = table s t root q n d (Some target.Whiteout) b m.table (λ c e. absurd (cc)) (links_left s t root q n d m.table leads dir (Some target.Whiteout) (λ c e. cc) links open_entry);
      filed = filed_keep s t root q n d (Some target.Whiteout) b ps u (with_entry u (q ++ n ∷ []) node.Whiteout) m.filed stay (plain_names u layer (q ++ n ∷ []) node.Whiteout free refl) refl;
      shows = shows s t root q n d (Some target.Whiteout) b u (with_entry u (q ++ n ∷ []) node.Whiteout) m.shows (entry_leaves u layer (q ++ n ∷ []) node.Whiteout free);
      bodies = bodies_keep s t root q n d (Some target.Whiteout) b ps u (with_entry u (q ++ n ∷ []) node.Whiteout) m.filed stay m.bodies;
      last = m.last;
    }

-- where a free place shows the entry has no inode: none shows as a whiteout
pub free_open : (s : SlotView) (root : ℕ) (ps : Places) (next : ℕ) (u : Tree) → Makes s root ps next u → (q : Names) (n : List ℕ) (d : ℕ) → walk s.entries root q ≡ Some (target.Inode d) → IsFree (at u (q ++ n ∷ [])) → ((c : ℕ) → s.nodes c ≡ Some node.Whiteout → ⊥) → IsOpen (s.entries d n)
free_open s root ps next u m q n d leads free no_whiteout = by (s.entries d n) refl
  where
    inode_shown : (c : ℕ) → s.entries d n ≡ Some (target.Inode c) → (o : Option Node) → s.nodes c ≡ o → IsSome o → IsFree o → ⊥
    inode_shown c at_n None is some is_free = none_some {A = Node} None refl some
    inode_shown c at_n (Some (node.Dir mode opaque)) is some is_free = cc
    inode_shown c at_n (Some (node.File k)) is some is_free = cc
    inode_shown c at_n (Some (node.Symlink k)) is some is_free = cc
    inode_shown c at_n (Some node.Whiteout) is some is_free = no_whiteout c is

    by : (o : Option Target) → s.entries d n ≡ o → IsOpen o
    by None at_n = tt
    by (Some target.Whiteout) at_n = tt
    by (Some (target.Inode c)) at_n =
        let to : walk s.entries root (q ++ n ∷ []) ≡ Some (target.Inode c) = walk_push s.entries root d q n leads ∙ at_n in
        inode_shown c at_n (s.nodes c) refl (m.table.there (q ++ n ∷ []) c to) (subst IsFree (sym (m.shows (q ++ n ∷ [])) ∙ ap (node_shown s.nodes) to) free)

-- ---- an edit's place

-- the path's last name lies in the directory with the key
pub record Spot (s : SlotView) (root : ℕ) (ps : Places) (next : ℕ) (u : Tree) (path q : Names) (n : List ℕ) (d : ℕ) : Type 0 where
  pub makes : Makes s root ps next u
  pub layer : IsLayer u
  pub splits : path ≡ q ++ n ∷ []
  pub leads : walk s.entries root q ≡ Some (target.Inode d)
  pub dir : IsDirAt (s.nodes d)

pub dir_made : (s t : SlotView) (root : ℕ) (ps : Places) (next : ℕ) (u : Tree) (path q : Names) (n : List ℕ) (d : ℕ) → Spot s root ps next u path q n d → IsFree (at u path) → ((c : ℕ) → s.nodes c ≡ Some node.Whiteout → ⊥)
    → (k : ℕ) (v : Node) (bd : Option Body) (l : ℕ) → Adds s t d n k v bd l → number_of v ≡ None → Makes t root ps next (with_entry u path v)
dir_made s t root ps next u path q n d spot free no_whiteout k v bd l adds plain =
    let here : IsFree (at u (q ++ n ∷ [])) = subst (λ (p : Names). IsFree (at u p)) spot.splits free in
    subst (λ (p : Names). Makes t root ps next (with_entry u p v)) (sym spot.splits) (dir_makes s t root ps next u spot.makes spot.layer q n d spot.leads spot.dir here (free_open s root ps next u spot.makes q n d spot.leads here no_whiteout) k v bd l adds plain)

pub white_made : (s t : SlotView) (root : ℕ) (ps : Places) (next : ℕ) (u : Tree) (path q : Names) (n : List ℕ) (d : ℕ) → Spot s root ps next u path q n d → IsFree (at u path) → IsOpen (s.entries d n) → Links s t d n (Some target.Whiteout) → Makes t root ps next (with_entry u path node.Whiteout)
white_made s t root ps next u path q n d spot free open_entry links =
    subst (λ (p : Names). Makes t root ps next (with_entry u p node.Whiteout)) (sym spot.splits) (white_makes s t root ps next u spot.makes spot.layer q n d spot.leads spot.dir (subst (λ (p : Names). IsFree (at u p)) spot.splits free) open_entry links)

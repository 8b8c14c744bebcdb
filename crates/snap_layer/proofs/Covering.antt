-- What stands at an entry replaced by a whiteout: a name of a file or symlink, or a directory that has whiteouts alone.
use Rattle.std.proofs.Common.{◌≡◌, ℕ, ◌+◌, Bool, true, false, cond, List, [], ◌∷◌, ◌++◌, Option, Some, None, IsSome, refl, sym, ap, subst, ◌∙◌, inl, inr, arith, append_assoc, append-nil}
use Rattle.std.specs.Prelude.{option_and_then, is_some, ◌==◌}
use Rattle.std.specs.Ordering.{nat_cmp}
use Rattle.std.specs.Cmp.{nat_cmp_total}
use Rattle.std.specs.FinMap.{nat_cmp-IsAntisymmetric}
use Rattle.std.specs.List.Sorted.{IsStrictlySortedBy}
use Rattle.std.specs.List.{sum_by}
use Rattle.std.specs.Map.{lookup, remove_entry, keys_of, values_of}
use Rattle.std.specs.BTreeMap.{is_at, insert_entry}
use Rattle.std.proofs.lemmas.Bool.{cond-true, cond-false}
use Rattle.std.proofs.lemmas.Bool.Decides.{nat_tests}
use Rattle.std.proofs.lemmas.Map.Entries.{sum_by-insert_entry}
use Rattle.snap_path.specs.Text.{Names, begins}
use Rattle.snap_layer.specs.declared.node.Node.{Node}
use Rattle.snap_layer.specs.declared.node.Node.TheVariants as node
use Rattle.snap_layer.specs.Tree.{Tree, Entries, path_cmp, at, number_of, number_at, has_number, IsDirAt}
use Rattle.snap_layer.specs.Counts.{name_count}
use Rattle.snap_layer.specs.Layers.{IsLayer}
use Rattle.snap_layer.specs.Edits.{with_entry, with_node, without, outside, inside, bodies_without, HasPlace, IsTakeable, IsFree}
use Rattle.snap_layer.proofs.Lists.{lookup-remove_entry, lookup-filter, sorted-remove_entry, same_lists, sorted-insert_entry, sorted-filter, sum_by-filter}
use Rattle.snap_layer.proofs.Paths.{begins_itself, begins_from, split_front, path_cmp_total, path_cmp-IsAntisymmetric}
use Rattle.snap_layer.proofs.Looks.{split_number, Sets-with_entry, at-without_inside, no_name_at, has_its_number, name_found}
use Rattle.snap_layer.proofs.Counting.{weight, name_count-insert_entry}
use Rattle.snap_layer.proofs.Kept.{nothing_below, no_number_below, dir_has_no_number, free_has_no_number}
use Rattle.snap_layer.proofs.Replacing.{other_name, at_taken}
use Rattle.snap_layer.proofs.Laws.{Takes-without, Replaces-with_node}
use Rattle.snap_layer.proofs.Moves.{sorted-without}
use Rattle.snap_layer.proofs.Moving.{found_inside}
use Rattle.snap_layer.specs.declared.inode.Target.{Target}
use Rattle.snap_layer.specs.declared.inode.Target.TheVariants as target
use Rattle.snap_layer.specs.Walk.{SlotView, walk, node_shown, Table, IsTable, IsBare, IsOpen, Puts, Links, Same, Frees, Releases, Drops, LeavesWhiteout}
use Rattle.snap_layer.specs.Holds.{Places, place}
use Rattle.snap_layer.proofs.Frames.{split_ℕ, walk_push}
use Rattle.snap_layer.proofs.Makes.{Makes}
use Rattle.snap_layer.proofs.Beside.{Beside, Leaves, AllLeft, by_walk, open_out, table, shows, parent_stays, way_out}
use Rattle.snap_layer.proofs.Putting.{Spot, puts_out, links_beside, links_left, free_open, makes_same, filed_keep, bodies_keep}
use Rattle.snap_layer.proofs.Files.{leaf_number, free_names}

no_some : {A : Type 0} (x : A) → None ≡ Some x → ⊥
no_some x e = cc

some_same : {A : Type 0} (x y : A) → Some x ≡ Some y → x ≡ y
some_same x y e = cc

no_bool : true ≡ false → ⊥
no_bool e = cc

key_same : (x y : ℕ) → Some (target.Inode x) ≡ Some (target.Inode y) → x ≡ y
key_same x y e = cc

gone_node : {o : Option Node} → o ≡ None → IsSome o → ⊥
gone_node e some = cc

abbrev one_if : Bool → ℕ
one_if b = cond b 1 0

-- a node that names a number is no directory
no_dir : (v : Node) (j : ℕ) → number_of v ≡ Some j → IsDirAt (Some v) → ⊥
no_dir (node.Dir m o) j e dir = cc
no_dir (node.File k) j e dir = cc
no_dir (node.Symlink k) j e dir = cc
no_dir node.Whiteout j e dir = cc

module _ (u : Tree) (layer : IsLayer u) (p : Names) (v : Node) (j : ℕ) (is : at u p ≡ Some v) (named : number_of v ≡ Some j) where
  append-nil' : (xs : Names) → xs ++ [] ≡ xs
  append-nil' [] = refl
  append-nil' (x ∷ xs) = λ i. x ∷ append-nil' xs i

  -- put back it is the layer as it was
  back : insert_entry path_cmp (outside p u.entries) p v ≡ u.entries
  back =
      same_lists path_cmp_total path_cmp-IsAntisymmetric _ _
      (sorted-insert_entry path_cmp_total (outside p u.entries) p v (sorted-without u p layer.sorted_paths)) layer.sorted_paths
      (λ q. elim (split_front p q) [
        | inr out ↦ (Sets-with_entry (without u p) p v).others q (λ e. no (sym (ap (begins p) e ∙ begins_itself p) ∙ out.0)) ∙ (Takes-without u p).others q out.0
        | inl within ↦ by within.1 q within.2
      ])
    where
      no : true ≡ false → ⊥
      no e = cc

      longer : (xs r : Names) (m : List ℕ) → xs ++ m ∷ r ≡ xs → ⊥
      longer [] r m e = cc
      longer (x ∷ xs) r m e = longer xs r m (cc)

      by : (r q : Names) → q ≡ p ++ r → at (with_entry (without u p) p v) q ≡ at u q
      by [] q same = ap (at (with_entry (without u p) p v)) (same ∙ append-nil' p) ∙ (Sets-with_entry (without u p) p v).here ∙ sym is ∙ ap (at u) (sym (same ∙ append-nil' p))
      by (m ∷ r) q same =
          ap (at (with_entry (without u p) p v)) same ∙ (Sets-with_entry (without u p) p v).others (p ++ m ∷ r) (longer p r m) ∙ (Takes-without u p).below m r
          ∙ sym (ap (at u) same ∙ nothing_below u layer p (λ dir. no_dir v j named (subst IsDirAt is dir)) m r)

  -- what it weighs goes with it
  pub sums_taken : (f : Node → ℕ) → sum_by f (values_of u.entries) ≡ sum_by f (values_of (outside p u.entries)) + f v
  sums_taken f = omega (arith, sum_by-insert_entry f path_cmp_total (outside p u.entries) p v (sorted-without u p layer.sorted_paths), ap (λ (es : Entries). sum_by f (values_of es)) back, ap (weight f) (at_taken u p))

  pub names_taken : (i : ℕ) → name_count i u.entries ≡ name_count i (without u p).entries + one_if (has_number i v)
  names_taken i = omega (arith, name_count-insert_entry i (without u p).entries p v (sorted-without u p layer.sorted_paths), ap (name_count i) back, ap (weight (λ m. cond (has_number i m) 1 0)) (at_taken u p))

-- where no number stands at the path, and nothing but whiteouts below it, no name goes
pub names_beside : (u : Tree) → IsLayer u → (p : Names) → number_at u p ≡ None → ((n : List ℕ) → IsFree (at u (p ++ n ∷ []))) → (i : ℕ) → name_count i (without u p).entries ≡ name_count i u.entries
names_beside u layer p none clear i = omega (arith, sum_by-filter (λ n. cond (has_number i n) 1 0) (λ (e : Names × Node). begins p e.0) u.entries, inside_none)
  where
    no_number : (q : Names) → begins p q ≡ true → number_at u q ≡ None
    no_number q within = elim (split_front p q) [ inl front ↦ by front.1 front.2 | inr out ↦ absurd (no_bool (sym within ∙ out.0)) ]
      where
        by : (r : Names) → q ≡ p ++ r → number_at u q ≡ None
        by [] is = ap (number_at u) (is ∙ append-nil p) ∙ none
        by (y ∷ r) is = ap (number_at u) is ∙ no_number_below u layer p clear y r

    inside_none : name_count i (inside p u.entries) ≡ 0
    inside_none = elim (split_ℕ (name_count i (inside p u.entries)) 0) [
      | inl is ↦ is
      | inr some ↦
          let f = name_found i (inside p u.entries) (sorted-filter path_cmp (λ (e : Names × Node). begins p e.0) u.entries layer.sorted_paths) some in
          let was = found_inside p f.0 u.entries (ap is_some f.2) in
          absurd (no_some i (sym (no_number f.0 was.0) ∙ ap (option_and_then number_of) (found_at f.0 f.1 was.0 f.2) ∙ f.3))
    ]
      where
        found_at : (q : Names) (v : Node) → begins p q ≡ true → lookup (is_at (path_cmp q)) (inside p u.entries) ≡ Some v → at u q ≡ Some v
        found_at q v within found = sym (lookup-filter path_cmp_total path_cmp-IsAntisymmetric (begins p) q u.entries ∙ cond-true _ _ _ within) ∙ found

-- a whiteout names no number
white_names : (i : ℕ) (es : List (Names × Node)) (p : Names) → IsStrictlySortedBy path_cmp (keys_of es) → lookup (is_at (path_cmp p)) es ≡ None → name_count i (insert_entry path_cmp es p node.Whiteout) ≡ name_count i es
white_names i es p sorted none = omega (arith, name_count-insert_entry i es p node.Whiteout sorted, ap (weight (λ m. cond (has_number i m) 1 0)) none)

-- the names of a layer with a whiteout in place of what stood at the path are those that were left
pub covered_names : (u : Tree) → IsLayer u → (p : Names) (i : ℕ) → name_count i (with_node u p node.Whiteout).entries ≡ name_count i (without u p).entries
covered_names u layer p i = white_names i (without u p).entries p (sorted-without u p layer.sorted_paths) (at_taken u p)

-- a layer with a whiteout in place of what stood at a path, whose directory stays
pub record Covered (s t : SlotView) (root : ℕ) (qs : Places) (next : ℕ) (w : Tree) (q : Names) (n : List ℕ) (d : ℕ) : Type 0 where
  pub makes : Makes t root qs next w
  pub ways : (x : Names) (c : ℕ) → begins (q ++ n ∷ []) x ≡ false → walk s.entries root x ≡ Some (target.Inode c) → (walk t.entries root x ≡ Some (target.Inode c)) × (t.nodes c ≡ s.nodes c)
  pub leads : walk t.entries root q ≡ Some (target.Inode d)
  pub dir : IsDirAt (t.nodes d)
  pub entry : IsOpen (t.entries d n)

-- a layer without what stood at the path of another, which has there what an entry without an inode shows
pub record Left (u w : Tree) (p : Names) (o : Option Target) : Type 0 where
  pub leaves : (nodes : ℕ → Option Node) → Leaves u w p (node_shown nodes o)
  pub names : (i : ℕ) → name_count i w.entries ≡ name_count i (without u p).entries
  pub bodies : w.bodies ≡ (without u p).bodies
  pub next : w.next ≡ u.next

-- with a whiteout there
pub left_covered : (u : Tree) → IsLayer u → (p : Names) → Left u (with_node u p node.Whiteout) p (Some target.Whiteout)
left_covered u layer p = record {
  leaves = λ nodes. let r = Replaces-with_node u p node.Whiteout in record { here = r.here; below = r.below; others = r.others };
  names = covered_names u layer p;
  bodies = refl;
  next = refl;
}

-- with nothing there
pub left_taken : (u : Tree) (p : Names) → Left u (without u p) p None
left_taken u p = record {
  leaves = λ nodes. let r = Takes-without u p in record { here = r.here; below = r.below; others = r.others };
  names = λ i. refl;
  bodies = refl;
  next = refl;
}

bare_closed : (e : Table) (o : Option Target) → ((c : ℕ) → o ≡ Some (target.Inode c) → ⊥) → IsBare e o
bare_closed e None closed = tt
bare_closed e (Some target.Whiteout) closed = tt
bare_closed e (Some (target.Inode c)) closed = absurd (closed c refl)

open_closed : (o : Option Target) → ((c : ℕ) → o ≡ Some (target.Inode c) → ⊥) → IsOpen o
open_closed None closed = tt
open_closed (Some target.Whiteout) closed = tt
open_closed (Some (target.Inode c)) closed = absurd (closed c refl)

plain_closed : (nodes : ℕ → Option Node) (o : Option Target) → ((c : ℕ) → o ≡ Some (target.Inode c) → ⊥) → option_and_then number_of (node_shown nodes o) ≡ None
plain_closed nodes None closed = refl
plain_closed nodes (Some target.Whiteout) closed = refl
plain_closed nodes (Some (target.Inode c)) closed = absurd (closed c refl)

-- an entry that has no inode now, and what it had, which is released
module _ (s t : SlotView) (root : ℕ) (ps qs : Places) (next : ℕ) (u : Tree) (m : Makes s root ps next u) (layer : IsLayer u) (q : Names) (n : List ℕ) (d : ℕ) (leads : walk s.entries root q ≡ Some (target.Inode d)) (dir : IsDirAt (s.nodes d))
    (k : ℕ) (entry : s.entries d n ≡ Some (target.Inode k)) (b : SlotView) (o : Option Target) (closed : (c : ℕ) → o ≡ Some (target.Inode c) → ⊥) (links : Links s b d n o) (frees : Frees b t ps qs k) (w : Tree) (left : Left u w (q ++ n ∷ []) o) where
  abbrev pn : Names
  pn = q ++ n ∷ []

  to_k : walk s.entries root pn ≡ Some (target.Inode k)
  to_k = walk_push s.entries root d q n leads ∙ entry

  d_is : d ≡ k → ⊥
  d_is same = longer q n (m.table.forest pn q k (subst (λ (c : ℕ). IsDirAt (s.nodes c)) same dir) to_k (leads ∙ ap (λ (c : ℕ). Some (target.Inode c)) same))
    where
      longer : (xs : Names) (y : List ℕ) → xs ++ y ∷ [] ≡ xs → ⊥
      longer [] y e = cc
      longer (x ∷ xs) y e = longer xs y (cc)

  -- ---- a name of a file or symlink
  module _ (j : ℕ) (v : Node) (node_is : s.nodes k ≡ Some v) (named : number_of v ≡ Some j) where
    number_b : option_and_then number_of (b.nodes k) ≡ Some j
    number_b = ap (option_and_then number_of) (links.nodes k ∙ node_is) ∙ named

    entries : Puts s.entries t.entries d n o
    entries = record {
      here = same d n ∙ links.entries.here;
      names = λ x apart. same d x ∙ links.entries.names x apart;
      dirs = λ c x apart. same c x ∙ links.entries.dirs c x apart;
    }
      where
        same : (c : ℕ) (x : List ℕ) → t.entries c x ≡ b.entries c x
        same c x = elim (split_ℕ c k) [ inl at ↦ subst (λ (y : ℕ). t.entries y x ≡ b.entries y x) (sym at) (frees.leaf j x number_b) | inr other ↦ frees.entries c x other ]

    is : at u pn ≡ Some v
    is = sym (m.shows pn) ∙ ap (node_shown s.nodes) to_k ∙ node_is

    place_is : place ps j ≡ Some k
    place_is = m.filed.placed pn k j to_k (ap (option_and_then number_of) node_is ∙ named)

    names : (i : ℕ) → name_count i u.entries ≡ name_count i w.entries + one_if (has_number i v)
    names i = names_taken u layer pn v j is named i ∙ ap (λ (x : ℕ). x + one_if (has_number i v)) (sym (left.names i))

    count_links : s.counts k ≡ name_count j w.entries + 1
    count_links = m.filed.counted j k place_is ∙ names j ∙ ap (λ x. name_count j w.entries + one_if x) (has_its_number j v named)

    counts_b : b.counts k ≡ name_count j w.entries + 1
    counts_b = links.counts k ∙ count_links

    replaces : (x : Names) → begins pn x ≡ false → at w x ≡ at u x
    replaces = (left.leaves s.nodes).others

    -- an inode that another path reaches stays
    reached_elsewhere : name_count j w.entries ≡ 0 → (x : Names) → begins pn x ≡ false → walk s.entries root x ≡ Some (target.Inode k) → ⊥
    reached_elsewhere none x out to = no_name_at j x w.entries v none (replaces x out ∙ sym (m.shows x) ∙ ap (node_shown s.nodes) to ∙ node_is) named

    node_out : (x : Names) (c : ℕ) → walk s.entries root x ≡ Some (target.Inode c) → begins pn x ≡ false → t.nodes c ≡ s.nodes c
    node_out x c to out = elim (split_ℕ c k) [
      | inr other ↦ frees.nodes c other ∙ links.nodes c
      | inl same ↦ elim (split_ℕ (name_count j w.entries) 0) [
        | inl none ↦ absurd (reached_elsewhere none x out (to ∙ ap (λ (y : ℕ). Some (target.Inode y)) same))
        | inr some ↦ ap t.nodes same ∙ (frees.more j number_b (omega (arith, counts_b, some))).0 ∙ links.nodes k ∙ sym (ap s.nodes same)
      ]
    ]

    beside : Beside s t root q n d o
    beside = record { leads = leads; entries = puts_out s t root q n d o m.table leads dir entries; here = entries.here; bare = bare_closed t.entries o closed; nodes = node_out }

    leaves : Leaves u w pn (node_shown t.nodes o)
    leaves = left.leaves t.nodes

    -- nothing stands below a file or symlink
    below_leaf : (x : Names) (c : ℕ) → walk s.entries root x ≡ Some (target.Inode c) → begins pn x ≡ true → c ≡ k
    below_leaf x c to within = elim (split_front pn x) [ inr out ↦ absurd (no_bool (sym within ∙ out.0)) | inl front ↦ by front.1 front.2 ]
      where
        no_node : IsSome {T = Node} None → ⊥
        no_node e = cc

        by : (r : Names) → x ≡ pn ++ r → c ≡ k
        by [] same = key_same c k (sym to ∙ ap (walk s.entries root) (same ∙ append-nil pn) ∙ to_k)
        by (y ∷ r) same =
            absurd (no_node (subst IsSome (sym (ap (node_shown s.nodes) to) ∙ m.shows x ∙ ap (at u) same ∙ nothing_below u layer pn (λ dir_v. no_dir v j named (subst IsDirAt is dir_v)) y r) (m.table.there x c to)))

    -- where names are left one of them leads to the inode
    other_path : (name_count j w.entries ≡ 0 → ⊥) → (x : Names) × (begins pn x ≡ false) × (walk s.entries root x ≡ Some (target.Inode k))
    other_path some =
        let f = name_found j (without u pn).entries (sorted-without u pn layer.sorted_paths) (λ none. some (left.names j ∙ none)) in
        by f.0 f.1 f.2 f.3
      where
        by : (x : Names) (y : Node) → at (without u pn) x ≡ Some y → number_of y ≡ Some j → (x : Names) × (begins pn x ≡ false) × (walk s.entries root x ≡ Some (target.Inode k))
        by x y there number = elim (split_front pn x) [
          | inl within ↦ absurd (no_some y (sym (at-without_inside u pn x within.0) ∙ there))
          | inr out ↦ (x, out.0, to_leaf (sym ((Takes-without u pn).others x out.0) ∙ there))
        ]
          where
            shown : (o : Option Target) → node_shown s.nodes o ≡ Some y → (c : ℕ) × (o ≡ Some (target.Inode c)) × (s.nodes c ≡ Some y)
            shown None e = absurd (no_some y e)
            shown (Some target.Whiteout) e = absurd (no_some j (ap (option_and_then number_of) e ∙ number))
            shown (Some (target.Inode c)) e = (c, refl, e)

            to_leaf : at u x ≡ Some y → walk s.entries root x ≡ Some (target.Inode k)
            to_leaf there_u =
                let c = shown (walk s.entries root x) (m.shows x ∙ there_u) in
                c.1 ∙ ap (λ (z : ℕ). Some (target.Inode z)) (some_same c.0 k (sym (m.filed.placed x c.0 j c.1 (ap (option_and_then number_of) c.2 ∙ number)) ∙ place_is))

    all_left : AllLeft s t root q n d o beside
    all_left c some = elim (split_ℕ c k) [
      | inl same ↦ elim (split_ℕ (name_count j w.entries) 0) [
        | inl none ↦ absurd (gone_node (frees.last_slot j number_b (omega (arith, counts_b, none))) (subst (λ (y : ℕ). IsSome (t.nodes y)) same some))
        | inr more ↦ let x = other_path more in inr (x.0, x.1, x.2 ∙ ap (λ (y : ℕ). Some (target.Inode y)) (sym same))
      ]
      | inr other ↦
          let x = m.table.reached c (subst IsSome (frees.nodes c other ∙ links.nodes c) some) in
          elim (split_front pn x.0) [ inl within ↦ absurd (other (below_leaf x.0 c x.1 within.0)) | inr out ↦ inr (x.0, out.0, x.1) ]
    ]

    -- another number's place has another key
    other_key : (i c : ℕ) → (i ≡ j → ⊥) → place ps i ≡ Some c → c ≡ k → ⊥
    other_key i c apart found same =
        let leaf = m.filed.housed i c found in
        apart (some_same i j (sym (leaf_number i leaf.0) ∙ sym (ap (option_and_then number_of) leaf.2) ∙ ap (λ (y : ℕ). option_and_then number_of (s.nodes y)) same ∙ ap (option_and_then number_of) node_is ∙ named))

    other_count : (i c : ℕ) → (i ≡ j → ⊥) → place ps i ≡ Some c → t.counts c ≡ name_count i w.entries
    other_count i c apart found =
        frees.counts c (other_key i c apart found) ∙ links.counts c ∙ m.filed.counted i c found ∙ names i ∙ ap (λ x. name_count i w.entries + one_if x) (other_name i j v named apart) ∙ nil (name_count i w.entries)
      where
        nil : (x : ℕ) → x + 0 ≡ x
        nil x = omega arith

    tested : (x : Bool) → (name_count j (without u pn).entries == 0) ≡ x → w.bodies ≡ cond x (remove_entry (is_at (nat_cmp j)) u.bodies) u.bodies
    tested x test = left.bodies ∙ ap (λ y. bodies_without y (without u pn).entries u.bodies) (ap (option_and_then number_of) is ∙ named) ∙ ap (λ y. cond y (remove_entry (is_at (nat_cmp j)) u.bodies) u.bodies) test

    stay : (x : Option ℕ) → ((c : ℕ) → x ≡ Some c → t.bodies c ≡ s.bodies c) → option_and_then t.bodies x ≡ option_and_then s.bodies x
    stay None same = refl
    stay (Some c) same = same c refl

    -- where another name is left
    some_left : (name_count j w.entries ≡ 0 → ⊥) → Makes t root qs next w
    some_left some =
        let more = frees.more j number_b (omega (arith, counts_b, some)) in
        let body_same : (c : ℕ) → t.bodies c ≡ s.bodies c = λ c. elim (split_ℕ c k) [ inl same ↦ ap t.bodies same ∙ more.1 ∙ links.bodies k ∙ sym (ap s.bodies same) | inr other ↦ frees.bodies c other ∙ links.bodies c ] in
        let node_same : (c : ℕ) → t.nodes c ≡ s.nodes c = λ c. elim (split_ℕ c k) [ inl same ↦ ap t.nodes same ∙ more.0 ∙ links.nodes k ∙ sym (ap s.nodes same) | inr other ↦ frees.nodes c other ∙ links.nodes c ] in
        let bodies : w.bodies ≡ u.bodies = tested false (not_zero (λ e. some (left.names j ∙ e))) in
        subst (λ (x : Places). Makes t root x next w) (sym more.3) (record {
          table = table s t root q n d o beside m.table (λ c e. absurd (closed c e)) all_left;
          filed = record {
            placed = λ x c i to number. by_walk s t root q n d o beside x c to (λ out was. m.filed.placed x c i was (ap (option_and_then number_of) (sym (node_same c)) ∙ number)) (λ e f. absurd (closed c f));
            housed = λ i c found. let leaf = m.filed.housed i c found in (leaf.0, body_same c ∙ leaf.1, node_same c ∙ leaf.2);
            counted = λ i c found. elim (split_ℕ i j) [
              | inr apart ↦ other_count i c apart found
              | inl same ↦
                  let key : c ≡ k = some_same c k (sym found ∙ ap (place ps) same ∙ place_is) in
                  ap t.counts key ∙ less (t.counts k) (b.counts k) (name_count j w.entries) more.2 counts_b ∙ ap (λ (y : ℕ). name_count y w.entries) (sym same)
            ];
            sorted = m.filed.sorted;
          };
          shows = shows s t root q n d o beside u w m.shows leaves;
          bodies = λ i. stay (place ps i) (λ c found. body_same c) ∙ m.bodies i ∙ ap (lookup (is_at (nat_cmp i))) (sym bodies);
          last = m.last ∙ sym left.next;
        })
      where
        less : (x y z : ℕ) → x + 1 ≡ y → y ≡ z + 1 → x ≡ z
        less x y z e f = omega arith

        not_zero : (name_count j (without u pn).entries ≡ 0 → ⊥) → (name_count j (without u pn).entries == 0) ≡ false
        not_zero some_ = grind (arith, nat_tests)

    -- where it was the last one
    none_left : name_count j w.entries ≡ 0 → Makes t root qs next w
    none_left none =
        let gone = frees.last j number_b (omega (arith, counts_b, none)) in
        let bodies : w.bodies ≡ remove_entry (is_at (nat_cmp j)) u.bodies = tested true (is_zero (sym (left.names j) ∙ none)) in
        subst (λ (x : Places). Makes t root x next w) (sym gone) (record {
          table = table s t root q n d o beside m.table (λ c e. absurd (closed c e)) all_left;
          filed = record {
            placed = λ x c i to number. by_walk s t root q n d o beside x c to
                (λ out was.
                let found = m.filed.placed x c i was (ap (option_and_then number_of) (sym (node_out x c was out)) ∙ number) in
                elim (split_number i j) [
                  | inr apart ↦ at_place i ∙ cond-false _ _ _ apart.1 ∙ found
                  | inl same ↦
                      let key : c ≡ k = some_same c k (sym found ∙ ap (place ps) same.0 ∙ place_is) in
                      absurd (reached_elsewhere none x out (was ∙ ap (λ (y : ℕ). Some (target.Inode y)) key))
                ])
                (λ e f. absurd (closed c f));
            housed = λ i c found. let was = apart_of i c found in let leaf = m.filed.housed i c was.1 in (leaf.0, frees.bodies c (other_key i c was.0 was.1) ∙ links.bodies c ∙ leaf.1, frees.nodes c (other_key i c was.0 was.1) ∙ links.nodes c ∙ leaf.2);
            counted = λ i c found. let was = apart_of i c found in other_count i c was.0 was.1;
            sorted = sorted-remove_entry nat_cmp (is_at (nat_cmp j)) ps m.filed.sorted;
          };
          shows = shows s t root q n d o beside u w m.shows leaves;
          bodies = λ i. elim (split_number i j) [
            | inl same ↦ ap (option_and_then t.bodies) (at_place i ∙ cond-true _ _ _ same.1) ∙ sym (ap (lookup (is_at (nat_cmp i))) bodies ∙ lookup-remove_entry nat_cmp_total nat_cmp-IsAntisymmetric j i u.bodies layer.sorted_numbers ∙ cond-true _ _ _ same.1)
            | inr apart ↦
                ap (option_and_then t.bodies) (at_place i ∙ cond-false _ _ _ apart.1) ∙ stay (place ps i) (λ c found. frees.bodies c (other_key i c (λ e. apart.0 (sym e)) found) ∙ links.bodies c) ∙ m.bodies i
                ∙ sym (ap (lookup (is_at (nat_cmp i))) bodies ∙ lookup-remove_entry nat_cmp_total nat_cmp-IsAntisymmetric j i u.bodies layer.sorted_numbers ∙ cond-false _ _ _ apart.1)
          ];
          last = m.last ∙ sym left.next;
        })
      where
        is_zero : name_count j (without u pn).entries ≡ 0 → (name_count j (without u pn).entries == 0) ≡ true
        is_zero e = grind (arith, nat_tests)

        at_place : (i : ℕ) → place (remove_entry (is_at (nat_cmp j)) ps) i ≡ cond (is_at (nat_cmp i) j) None (place ps i)
        at_place i = lookup-remove_entry nat_cmp_total nat_cmp-IsAntisymmetric j i ps m.filed.sorted

        apart_of : (i c : ℕ) → place (remove_entry (is_at (nat_cmp j)) ps) i ≡ Some c → (i ≡ j → ⊥) × (place ps i ≡ Some c)
        apart_of i c found = elim (split_number i j) [
          | inl same ↦ absurd (no_some c (sym (at_place i ∙ cond-true _ _ _ same.1) ∙ found))
          | inr apart ↦ ((λ e. apart.0 (sym e)), sym (at_place i ∙ cond-false _ _ _ apart.1) ∙ found)
        ]

    pub leaf_covered : Covered s t root qs next w q n d
    leaf_covered =
        let stays = parent_stays s t root q n d o beside dir in
        record { makes = elim (split_ℕ (name_count j w.entries) 0) [ inl none ↦ none_left none | inr some ↦ some_left some ]; ways = way_out s t root q n d o beside; leads = stays.0; dir = stays.1; entry = subst IsOpen (sym entries.here) (open_closed o closed) }

  -- ---- a directory that has whiteouts alone
  module _ (dir_k : IsDirAt (s.nodes k)) (clear : (y : List ℕ) → IsFree (at u (pn ++ y ∷ []))) (plain : (c : ℕ) → s.nodes c ≡ Some node.Whiteout → ⊥) where
    only : (x : Names) (c : ℕ) → walk s.entries root x ≡ Some (target.Inode c) → c ≡ k → x ≡ pn
    only x c to same = m.table.forest x pn k dir_k (to ∙ ap (λ (y : ℕ). Some (target.Inode y)) same) to_k

    not_k : (x : Names) (c : ℕ) → walk s.entries root x ≡ Some (target.Inode c) → begins pn x ≡ false → c ≡ k → ⊥
    not_k x c to out same = no_bool (sym (ap (begins pn) (only x c to same) ∙ begins_itself pn) ∙ out)

    number_none : option_and_then number_of (b.nodes k) ≡ None
    number_none = ap (option_and_then number_of) (links.nodes k) ∙ dir_has_no_number (s.nodes k) dir_k

    at_pn : at u pn ≡ s.nodes k
    at_pn = sym (m.shows pn) ∙ ap (node_shown s.nodes) to_k

    at_none : number_at u pn ≡ None
    at_none = ap (option_and_then number_of) at_pn ∙ dir_has_no_number (s.nodes k) dir_k

    entries_out : (x : Names) (y : List ℕ) (c : ℕ) → walk s.entries root x ≡ Some (target.Inode c) → begins pn (x ++ y ∷ []) ≡ false → t.entries c y ≡ s.entries c y
    entries_out x y c to out =
        frees.entries c y (λ same. no_bool (sym (ap (λ (z : Names). begins pn (z ++ y ∷ [])) (only x c to same) ∙ begins_from pn (pn ++ y ∷ []) (y ∷ []) refl) ∙ out))
        ∙ puts_out s b root q n d o m.table leads dir links.entries x y c to out

    beside_dir : Beside s t root q n d o
    beside_dir = record { leads = leads; entries = entries_out; here = frees.entries d n d_is ∙ links.entries.here; bare = bare_closed t.entries o closed; nodes = λ x c to out. frees.nodes c (not_k x c to out) ∙ links.nodes c }

    -- no path to an inode goes through the directory
    below_dir : (x : Names) (c : ℕ) → walk s.entries root x ≡ Some (target.Inode c) → begins pn x ≡ true → c ≡ k
    below_dir x c to within = elim (split_front pn x) [ inr out ↦ absurd (no_bool (sym within ∙ out.0)) | inl front ↦ by front.1 front.2 ]
      where
        by : (r : Names) → x ≡ pn ++ r → c ≡ k
        by [] same = key_same c k (sym to ∙ ap (walk s.entries root) (same ∙ append-nil pn) ∙ to_k)
        by (y ∷ r) same =
            let out = open_out s root pn y k to_k (free_open s root ps next u m pn y k to_k (clear y) plain) x c to in
            absurd (no_bool (sym (begins_from (pn ++ y ∷ []) x r (same ∙ sym (append_assoc pn (y ∷ []) r))) ∙ out))

    all_left_dir : AllLeft s t root q n d o beside_dir
    all_left_dir c some = elim (split_ℕ c k) [
      | inl same ↦ absurd (gone_node (frees.dir_slot number_none) (subst (λ (y : ℕ). IsSome (t.nodes y)) same some))
      | inr other_c ↦
          let x = m.table.reached c (subst IsSome (frees.nodes c other_c ∙ links.nodes c) some) in
          elim (split_front pn x.0) [ inl within ↦ absurd (other_c (below_dir x.0 c x.1 within.0)) | inr out ↦ inr (x.0, out.0, x.1) ]
    ]

    leaves_dir : Leaves u w pn (node_shown t.nodes o)
    leaves_dir = left.leaves t.nodes

    other : (i c : ℕ) → place ps i ≡ Some c → c ≡ k → ⊥
    other i c found same =
        let leaf = m.filed.housed i c found in
        no_some i (sym (dir_has_no_number (s.nodes k) dir_k) ∙ ap (λ (y : ℕ). option_and_then number_of (s.nodes y)) (sym same) ∙ ap (option_and_then number_of) leaf.2 ∙ leaf_number i leaf.0)

    stay_dir : (i c : ℕ) → place ps i ≡ Some c → (t.nodes c ≡ s.nodes c) × (t.bodies c ≡ s.bodies c) × (t.counts c ≡ s.counts c)
    stay_dir i c found = let apart = other i c found in (frees.nodes c apart ∙ links.nodes c, frees.bodies c apart ∙ links.bodies c, frees.counts c apart ∙ links.counts c)

    bodies_dir : w.bodies ≡ u.bodies
    bodies_dir = left.bodies ∙ ap (λ y. bodies_without y (without u pn).entries u.bodies) at_none

    dir_makes : Makes t root qs next w
    dir_makes = subst (λ (x : Places). Makes t root x next w) (sym (frees.dir number_none)) (record {
      table = table s t root q n d o beside_dir m.table (λ c e. absurd (closed c e)) all_left_dir;
      filed = filed_keep s t root q n d o beside_dir ps u w m.filed stay_dir (λ i. left.names i ∙ names_beside u layer pn at_none clear i) (plain_closed t.nodes o closed);
      shows = shows s t root q n d o beside_dir u w m.shows leaves_dir;
      bodies = λ i. bodies_keep s t root q n d o beside_dir ps u u m.filed stay_dir m.bodies i ∙ ap (lookup (is_at (nat_cmp i))) (sym bodies_dir);
      last = m.last ∙ sym left.next;
    })

    pub dir_covered : Covered s t root qs next w q n d
    dir_covered =
        let stays = parent_stays s t root q n d o beside_dir dir in
        record { makes = dir_makes; ways = way_out s t root q n d o beside_dir; leads = stays.0; dir = stays.1; entry = subst IsOpen (sym (frees.entries d n d_is ∙ links.entries.here)) (open_closed o closed) }

-- ---- whatever stands there

-- the node at the key
node_there : (s : SlotView) (root : ℕ) (x : Names) (k : ℕ) → IsTable s root → walk s.entries root x ≡ Some (target.Inode k) → (v : Node) × (s.nodes k ≡ Some v)
node_there s root x k ok to = by (s.nodes k) refl (ok.there x k to)
  where
    by : (o : Option Node) → s.nodes k ≡ o → IsSome o → (v : Node) × (s.nodes k ≡ Some v)
    by None is some = absurd (cc)
    by (Some v) is some = (v, is)

pub drops_makes : (s t : SlotView) (root : ℕ) (ps qs : Places) (next : ℕ) (u : Tree) → Makes s root ps next u → IsLayer u → (q : Names) (n : List ℕ) (d : ℕ) → walk s.entries root q ≡ Some (target.Inode d) → IsDirAt (s.nodes d)
    → ((y : List ℕ) → IsFree (at u ((q ++ n ∷ []) ++ y ∷ []))) → IsSome (at u (q ++ n ∷ [])) → ((c : ℕ) → s.nodes c ≡ Some node.Whiteout → ⊥)
    → (x : Option Target) → ((c : ℕ) → x ≡ Some (target.Inode c) → ⊥) → (w : Tree) → Left u w (q ++ n ∷ []) x → Drops s t ps qs d n x → Covered s t root qs next w q n d
drops_makes s t root ps qs next u m layer q n d leads dir clear there plain x closed w left drops = by (s.entries d n) refl drops.releases
  where
    pn : Names
    pn = q ++ n ∷ []

    b : SlotView
    b = drops.between

    at_entry : at u pn ≡ node_shown s.nodes (s.entries d n)
    at_entry = sym (m.shows pn) ∙ ap (node_shown s.nodes) (walk_push s.entries root d q n leads)

    nothing : IsSome {T = Node} None → ⊥
    nothing e = cc

    by_node : (k : ℕ) (v : Node) → s.entries d n ≡ Some (target.Inode k) → s.nodes k ≡ Some v → Frees b t ps qs k → Covered s t root qs next w q n d
    by_node k (node.Dir meta o) is at_k frees = dir_covered s t root ps qs next u m layer q n d leads dir k is b x closed drops.links frees w left (subst IsDirAt (sym at_k) refl) clear plain
    by_node k (node.File j) is at_k frees = leaf_covered s t root ps qs next u m layer q n d leads dir k is b x closed drops.links frees w left j (node.File j) at_k refl
    by_node k (node.Symlink j) is at_k frees = leaf_covered s t root ps qs next u m layer q n d leads dir k is b x closed drops.links frees w left j (node.Symlink j) at_k refl
    by_node k node.Whiteout is at_k frees = absurd (plain k at_k)

    -- over a whiteout
    over_whiteout : s.entries d n ≡ Some target.Whiteout → Same b t → qs ≡ ps → Covered s t root qs next w q n d
    over_whiteout is same places =
        let free : IsFree (at u pn) = subst IsFree (sym (at_entry ∙ ap (node_shown s.nodes) is)) refl in
        let beside = links_beside s b root q n d m.table leads dir x closed drops.links in
        let stay : (j c : ℕ) → place ps j ≡ Some c → (b.nodes c ≡ s.nodes c) × (b.bodies c ≡ s.bodies c) × (b.counts c ≡ s.counts c) = λ j c at_j. (drops.links.nodes c, drops.links.bodies c, drops.links.counts c) in
        let bodies : w.bodies ≡ u.bodies = left.bodies ∙ ap (λ y. bodies_without y (without u pn).entries u.bodies) (free_has_no_number (at u pn) free) in
        let put : Makes b root ps next w = record {
          table = table s b root q n d x beside m.table (λ c e. absurd (closed c e)) (links_left s b root q n d m.table leads dir x closed drops.links (subst IsOpen (sym is) tt));
          filed = filed_keep s b root q n d x beside ps u w m.filed stay (λ i. left.names i ∙ free_names u layer pn free i) (plain_closed b.nodes x closed);
          shows = shows s b root q n d x beside u w m.shows (left.leaves b.nodes);
          bodies = λ i. bodies_keep s b root q n d x beside ps u u m.filed stay m.bodies i ∙ ap (lookup (is_at (nat_cmp i))) (sym bodies);
          last = m.last ∙ sym left.next;
        } in
        let stays = parent_stays s b root q n d x beside dir in
        record {
          makes = makes_same b t root same ps qs next w places put;
          ways = λ y c out to. let was = way_out s b root q n d x beside y c out to in (ap (λ f. walk f root y) (λ i e z. same.entries e z i) ∙ was.0, same.nodes c ∙ was.1);
          leads = ap (λ f. walk f root q) (λ i c y. same.entries c y i) ∙ stays.0;
          dir = subst IsDirAt (sym (same.nodes d)) stays.1;
          entry = subst IsOpen (sym (same.entries d n ∙ drops.links.entries.here)) (open_closed x closed);
        }

    by : (o : Option Target) → s.entries d n ≡ o → Releases b t ps qs o → Covered s t root qs next w q n d
    by None is rel = absurd (nothing (subst IsSome (at_entry ∙ ap (node_shown s.nodes) is) there))
    by (Some target.Whiteout) is rel = over_whiteout is rel.0 rel.1
    by (Some (target.Inode k)) is rel =
        let v = node_there s root pn k m.table (walk_push s.entries root d q n leads ∙ is) in
        by_node k v.0 is v.1 rel

-- what stood at a path gone
pub dropped_made : (s t : SlotView) (root : ℕ) (ps qs : Places) (next : ℕ) (u : Tree) (path q : Names) (n : List ℕ) (d : ℕ) → Spot s root ps next u path q n d → ((y : List ℕ) → IsFree (at u (path ++ y ∷ []))) → IsSome (at u path) → ((c : ℕ) → s.nodes c ≡ Some node.Whiteout → ⊥)
    → (x : Option Target) → ((c : ℕ) → x ≡ Some (target.Inode c) → ⊥) → (w : Tree) → Left u w path x → Drops s t ps qs d n x → Covered s t root qs next w q n d
dropped_made s t root ps qs next u path q n d spot clear there plain x closed w left drops =
    drops_makes s t root ps qs next u spot.makes spot.layer q n d spot.leads spot.dir (λ y. subst (λ (p : Names). IsFree (at u (p ++ y ∷ []))) spot.splits (clear y)) (subst (λ (p : Names). IsSome (at u p)) spot.splits there) plain x closed w (subst (λ (p : Names). Left u w p x) spot.splits left) drops

whiteout_closed : (c : ℕ) → Some target.Whiteout ≡ Some (target.Inode c) → ⊥
whiteout_closed c e = cc

pub nothing_closed : (c : ℕ) → None ≡ Some (target.Inode c) → ⊥
nothing_closed c e = cc

-- a whiteout in place of what stood at a path
pub covered : (s t : SlotView) (root : ℕ) (ps qs : Places) (next : ℕ) (u : Tree) (path q : Names) (n : List ℕ) (d : ℕ) → Spot s root ps next u path q n d → HasPlace u path → IsSome (at u path) → ((c : ℕ) → s.nodes c ≡ Some node.Whiteout → ⊥) → LeavesWhiteout s t ps qs d n → Covered s t root qs next (with_node u path node.Whiteout) q n d
covered s t root ps qs next u path q n d spot fits there plain covers =
    dropped_made s t root ps qs next u path q n d spot fits.clear there plain (Some target.Whiteout) whiteout_closed (with_node u path node.Whiteout) (left_covered u spot.layer path) covers

pub covered_made : (s t : SlotView) (root : ℕ) (ps qs : Places) (next : ℕ) (u : Tree) (path q : Names) (n : List ℕ) (d : ℕ) → Spot s root ps next u path q n d → HasPlace u path → IsSome (at u path) → ((c : ℕ) → s.nodes c ≡ Some node.Whiteout → ⊥) → LeavesWhiteout s t ps qs d n → Makes t root qs next (with_node u path node.Whiteout)
covered_made s t root ps qs next u path q n d spot fits there plain covers = (covered s t root ps qs next u path q n d spot fits there plain covers).makes

-- nothing in its place
pub taken_made : (s t : SlotView) (root : ℕ) (ps qs : Places) (next : ℕ) (u : Tree) (path q : Names) (n : List ℕ) (d : ℕ) → Spot s root ps next u path q n d → IsTakeable u path → ((c : ℕ) → s.nodes c ≡ Some node.Whiteout → ⊥) → Drops s t ps qs d n None → Makes t root qs next (without u path)
taken_made s t root ps qs next u path q n d spot fits plain drops =
    (dropped_made s t root ps qs next u path q n d spot fits.clear fits.there plain None nothing_closed (without u path) (left_taken u path) drops).makes

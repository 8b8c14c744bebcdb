-- A new file or symlink in place of what stands at an entry.
use Rattle.std.proofs.Common.{◌≡◌, ℕ, ◌+◌, ◌<◌, ◌≤◌, Bool, true, false, cond, List, [], ◌∷◌, ◌++◌, Option, Some, None, IsSome, refl, sym, ap, subst, ◌∙◌, ◌⊎◌, inl, inr, arith}
use Rattle.std.specs.Prelude.{option_and_then, is_some}
use Rattle.std.specs.Ordering.{nat_cmp}
use Rattle.std.specs.Cmp.{nat_cmp_total}
use Rattle.std.specs.FinMap.{nat_cmp-IsAntisymmetric}
use Rattle.std.specs.List.Sorted.{IsStrictlySortedBy}
use Rattle.std.specs.Map.{keys_of, remove_entry}
use Rattle.std.specs.BTreeMap.{is_at, insert_entry}
use Rattle.std.proofs.lemmas.Bool.{cond-true, cond-false}
use Rattle.snap_path.specs.Text.{Names, IsPath}
use Rattle.snap_layer.specs.declared.node.Node.{Node}
use Rattle.snap_layer.specs.declared.node.Node.TheVariants as node
use Rattle.snap_layer.specs.declared.node.Body.{Body}
use Rattle.snap_layer.specs.Tree.{Tree, at, number_of, IsDirAt, leaf_node}
use Rattle.snap_layer.specs.Counts.{inode_count}
use Rattle.snap_layer.specs.Layers.{IsLayer}
use Rattle.snap_layer.specs.Edits.{with_entry, with_node, with_new, without, HasPlace, IsFree}
use Rattle.snap_layer.proofs.Lists.{lookup-remove_entry, lookup-insert_entry, sorted-remove_entry, sorted-insert_entry, remove-insert_entry, same_lists, at_itself, apart_from}
use Rattle.snap_layer.proofs.Looks.{split_number, Sets-with_entry}
use Rattle.snap_layer.proofs.Replacing.{clears_place, IsLayer-with_node, inode_count-with_node, inode_count-with_new, not_next}
use Rattle.snap_layer.proofs.Laws.{without-with_entry}
use Rattle.snap_layer.specs.declared.inode.Target.{Target}
use Rattle.snap_layer.specs.declared.inode.Target.TheVariants as target
use Rattle.snap_layer.specs.Walk.{SlotView, walk, node_shown, IsOpen, Links, Raises, Gains, Same, Frees, Releases, Adds, Enters}
use Rattle.snap_layer.specs.Walk as tables
use Rattle.snap_layer.proofs.Slots.{puts_other}
use Rattle.snap_layer.specs.Holds.{Places, place}
use Rattle.snap_layer.proofs.Frames.{split_ℕ, walk_push}
use Rattle.snap_layer.proofs.Makes.{Makes}
use Rattle.snap_layer.proofs.Putting.{Spot, makes_same}
use Rattle.snap_layer.proofs.Files.{leaf_makes, leaf_number, nothing_there}
use Rattle.snap_layer.proofs.Covering.{covered}

no_some : {A : Type 0} (x : A) → None ≡ Some x → ⊥
no_some x e = cc

some_same : {A : Type 0} (x y : A) → Some x ≡ Some y → x ≡ y
some_same x y e = cc

-- ---- the places without a number that was put among them

module _ (ps : Places) (x k : ℕ) (sorted : IsStrictlySortedBy nat_cmp (keys_of ps)) (fresh : place ps x ≡ None) where
  abbrev pub put : Places
  put = insert_entry nat_cmp ps x k

  back : remove_entry (is_at (nat_cmp x)) put ≡ ps
  back = remove-insert_entry nat_cmp_total nat_cmp-IsAntisymmetric ps x k fresh

  sorted_put : IsStrictlySortedBy nat_cmp (keys_of put)
  sorted_put = sorted-insert_entry nat_cmp_total ps x k sorted

  -- another number taken before or after
  swap : (j : ℕ) → remove_entry (is_at (nat_cmp x)) (remove_entry (is_at (nat_cmp j)) put) ≡ remove_entry (is_at (nat_cmp j)) ps
  swap j = same_lists nat_cmp_total nat_cmp-IsAntisymmetric _ _
      (sorted-remove_entry nat_cmp (is_at (nat_cmp x)) (remove_entry (is_at (nat_cmp j)) put) (sorted-remove_entry nat_cmp (is_at (nat_cmp j)) put sorted_put))
      (sorted-remove_entry nat_cmp (is_at (nat_cmp j)) ps sorted)
      (λ q. outer q ∙ by q (is_at (nat_cmp q) x) refl ∙ sym (lookup-remove_entry nat_cmp_total nat_cmp-IsAntisymmetric j q ps sorted))
    where
      outer : (q : ℕ) → place (remove_entry (is_at (nat_cmp x)) (remove_entry (is_at (nat_cmp j)) put)) q ≡ cond (is_at (nat_cmp q) x) None (cond (is_at (nat_cmp q) j) None (cond (is_at (nat_cmp q) x) (Some k) (place ps q)))
      outer q =
          lookup-remove_entry nat_cmp_total nat_cmp-IsAntisymmetric x q (remove_entry (is_at (nat_cmp j)) put) (sorted-remove_entry nat_cmp (is_at (nat_cmp j)) put sorted_put)
          ∙ ap (λ o. cond (is_at (nat_cmp q) x) None o) (lookup-remove_entry nat_cmp_total nat_cmp-IsAntisymmetric j q put sorted_put ∙ ap (λ o. cond (is_at (nat_cmp q) j) None o) (lookup-insert_entry nat_cmp_total nat_cmp-IsAntisymmetric ps x k q))

      by : (q : ℕ) (b : Bool) → is_at (nat_cmp q) x ≡ b → cond (is_at (nat_cmp q) x) None (cond (is_at (nat_cmp q) j) None (cond (is_at (nat_cmp q) x) (Some k) (place ps q))) ≡ cond (is_at (nat_cmp q) j) None (place ps q)
      by q true is = cond-true _ _ _ is ∙ none (is_at (nat_cmp q) j) (place ps q) (elim (split_number q x) [ inl same ↦ ap (place ps) same.0 ∙ fresh | inr apart ↦ absurd (clash (sym is ∙ apart.1)) ])
        where
          clash : true ≡ false → ⊥
          clash e = cc

          none : (c : Bool) (o : Option ℕ) → o ≡ None → None ≡ cond c None o
          none true o e = refl
          none false o e = sym e
      by q false is = cond-false _ _ _ is ∙ ap (λ o. cond (is_at (nat_cmp q) j) None o) (cond-false _ _ _ is)

  -- what is released is so without the number
  pub frees_without : (s t : SlotView) (qs : Places) (c : ℕ) → Frees s t put qs c → Frees s t ps (remove_entry (is_at (nat_cmp x)) qs) c
  frees_without s t qs c f = record {
    entries = f.entries;
    nodes = f.nodes;
    bodies = f.bodies;
    counts = f.counts;
    leaf = f.leaf;
    more = λ j is many. let m = f.more j is many in (m.0, m.1, m.2, ap (remove_entry (is_at (nat_cmp x))) m.3 ∙ back);
    last = λ j is few. ap (remove_entry (is_at (nat_cmp x))) (f.last j is few) ∙ swap j;
    dir = λ is. ap (remove_entry (is_at (nat_cmp x))) (f.dir is) ∙ back;
    last_slot = f.last_slot;
    dir_slot = f.dir_slot;
  }

  pub releases_without : (s t : SlotView) (qs : Places) (o : Option Target) → Releases s t put qs o → Releases s t ps (remove_entry (is_at (nat_cmp x)) qs) o
  releases_without s t qs None r = (r.0, ap (remove_entry (is_at (nat_cmp x))) r.1 ∙ back)
  releases_without s t qs (Some target.Whiteout) r = (r.0, ap (remove_entry (is_at (nat_cmp x))) r.1 ∙ back)
  releases_without s t qs (Some (target.Inode c)) r = frees_without s t qs c r

  pub clears_without : (s t : SlotView) (qs : Places) (d : ℕ) (n : List ℕ) (o : Option Target) → s.entries d n ≡ o → tables.Clears s t put qs d n o → tables.Clears s t ps (remove_entry (is_at (nat_cmp x)) qs) d n o
  clears_without s t qs d n None is r = (r.0, ap (remove_entry (is_at (nat_cmp x))) r.1 ∙ back)
  clears_without s t qs d n (Some w) is r = record { between = r.between; links = r.links; releases = releases_without r.between t qs (s.entries d n) r.releases }

  -- the number keeps its place
  pub stays_placed : (s t : SlotView) (qs : Places) (d : ℕ) (n : List ℕ) → (option_and_then number_of (node_shown s.nodes (s.entries d n)) ≡ Some x → ⊥) → tables.Clears s t put qs d n (s.entries d n) → IsSome (place qs x)
  stays_placed s t qs d n apart clears = by (s.entries d n) refl clears
    where
      here : IsSome (place put x)
      here = ap is_some (lookup-insert_entry nat_cmp_total nat_cmp-IsAntisymmetric ps x k x ∙ cond-true (is_at (nat_cmp x) x) (Some k) (place ps x) (at_itself nat_cmp_total nat_cmp-IsAntisymmetric x))

      same_place : qs ≡ put → IsSome (place qs x)
      same_place e = subst (λ (z : Places). IsSome (place z x)) (sym e) here

      taken : (j : ℕ) → (j ≡ x → ⊥) → qs ≡ remove_entry (is_at (nat_cmp j)) put → IsSome (place qs x)
      taken j other e = subst (λ (z : Places). IsSome (place z x)) (sym e) (subst IsSome (sym (lookup-remove_entry nat_cmp_total nat_cmp-IsAntisymmetric j x put sorted_put ∙ cond-false (is_at (nat_cmp x) j) None (place put x) (apart_from nat_cmp_total nat_cmp-IsAntisymmetric x j other))) here)

      freed : (b : SlotView) (c : ℕ) → s.entries d n ≡ Some (target.Inode c) → b.nodes c ≡ s.nodes c → Frees b t put qs c → IsSome (place qs x)
      freed b c is node_same f = at_number (option_and_then number_of (b.nodes c)) refl
        where
          at_number : (o : Option ℕ) → option_and_then number_of (b.nodes c) ≡ o → IsSome (place qs x)
          at_number None none = same_place (f.dir none)
          at_number (Some j) number = elim (split_more (b.counts c)) [ inl many ↦ same_place (f.more j number many).3 | inr few ↦ taken j other (f.last j number few) ]
            where
              split_more : (l : ℕ) → (1 < l) ⊎ (l ≤ 1)
              split_more l = elim (split_ℕ l 0) [ inl none ↦ inr (omega (arith, none)) | inr some ↦ elim (split_ℕ l 1) [ inl one ↦ inr (omega (arith, one)) | inr more ↦ inl (omega (arith, some, more)) ] ]

              other : j ≡ x → ⊥
              other e = apart (ap (λ o. option_and_then number_of (node_shown s.nodes o)) is ∙ ap (option_and_then number_of) (sym node_same) ∙ number ∙ ap (λ (y : ℕ). Some y) e)

      by : (o : Option Target) → s.entries d n ≡ o → tables.Clears s t put qs d n o → IsSome (place qs x)
      by None is r = same_place r.1
      by (Some target.Whiteout) is r = same_place (subst (Releases r.between t put qs) is r.releases).1
      by (Some (target.Inode c)) is r = freed r.between c is (r.links.nodes c) (subst (Releases r.between t put qs) is r.releases)

-- ---- what is cleared

module _ (s t : SlotView) (ps qs : Places) (d : ℕ) (n : List ℕ) (apart : s.entries d n ≡ Some (target.Inode d) → ⊥) where
  -- the directory is as it was
  pub clears_dir : tables.Clears s t ps qs d n (s.entries d n) → t.nodes d ≡ s.nodes d
  clears_dir clears = by (s.entries d n) refl clears
    where
      by : (o : Option Target) → s.entries d n ≡ o → tables.Clears s t ps qs d n o → t.nodes d ≡ s.nodes d
      by None is r = r.0.nodes d
      by (Some target.Whiteout) is r = (subst (Releases r.between t ps qs) is r.releases).0.nodes d ∙ r.links.nodes d
      by (Some (target.Inode c)) is r = (subst (Releases r.between t ps qs) is r.releases).nodes d (λ e. apart (is ∙ ap (λ (y : ℕ). Some (target.Inode y)) (sym e))) ∙ r.links.nodes d

  -- where nothing stands there then, nothing did
  pub clears_none : tables.Clears s t ps qs d n (s.entries d n) → t.entries d n ≡ None → Same s t × (qs ≡ ps)
  clears_none clears none = by (s.entries d n) refl clears
    where
      by : (o : Option Target) → s.entries d n ≡ o → tables.Clears s t ps qs d n o → Same s t × (qs ≡ ps)
      by None is r = r
      by (Some target.Whiteout) is r = absurd (no_some target.Whiteout (sym none ∙ (subst (Releases r.between t ps qs) is r.releases).0.entries d n ∙ r.links.entries.here))
      by (Some (target.Inode c)) is r = absurd (no_some target.Whiteout (sym none ∙ (subst (Releases r.between t ps qs) is r.releases).entries d n (λ e. apart (is ∙ ap (λ (y : ℕ). Some (target.Inode y)) (sym e))) ∙ r.links.entries.here))

-- what it isn't about is as it was
pub clears_other : (s t : SlotView) (ps qs : Places) (d : ℕ) (n : List ℕ) (k : ℕ) → (s.entries d n ≡ Some (target.Inode k) → ⊥) → tables.Clears s t ps qs d n (s.entries d n) → (t.nodes k ≡ s.nodes k) × (t.bodies k ≡ s.bodies k) × (t.counts k ≡ s.counts k)
clears_other s t ps qs d n k apart clears = by (s.entries d n) refl clears
  where
    by : (o : Option Target) → s.entries d n ≡ o → tables.Clears s t ps qs d n o → (t.nodes k ≡ s.nodes k) × (t.bodies k ≡ s.bodies k) × (t.counts k ≡ s.counts k)
    by None is r = (r.0.nodes k, r.0.bodies k, r.0.counts k)
    by (Some target.Whiteout) is r =
        let same = (subst (Releases r.between t ps qs) is r.releases).0 in
        (same.nodes k ∙ r.links.nodes k, same.bodies k ∙ r.links.bodies k, same.counts k ∙ r.links.counts k)
    by (Some (target.Inode c)) is r =
        let freed = subst (Releases r.between t ps qs) is r.releases in
        let other : k ≡ c → ⊥ = λ e. apart (is ∙ ap (λ (y : ℕ). Some (target.Inode y)) (sym e)) in
        (freed.nodes k other ∙ r.links.nodes k, freed.bodies k other ∙ r.links.bodies k, freed.counts k other ∙ r.links.counts k)

-- an entry for a leaf, and a link more of it
pub gained : (s b t : SlotView) (d : ℕ) (n : List ℕ) (k : ℕ) → Links s b d n (Some (target.Inode k)) → Raises b t k → Gains s t d n k
gained s b t d n k links raises = record {
  entries = record {
    here = raises.entries d n ∙ links.entries.here;
    names = λ m apart. raises.entries d m ∙ links.entries.names m apart;
    dirs = λ c m apart. raises.entries c m ∙ links.entries.dirs c m apart;
  };
  bare = raises.bare;
  nodes = λ c. raises.nodes c ∙ links.nodes c;
  bodies = λ c. raises.bodies c ∙ links.bodies c;
  counts = λ c apart. raises.counts c apart ∙ links.counts c;
  count = raises.raise ∙ ap (λ (l : ℕ). l + 1) (links.counts k);
}

-- and so is each other entry of another inode
pub clears_entry : (s t : SlotView) (ps qs : Places) (d : ℕ) (n : List ℕ) (k : ℕ) (m : List ℕ) → (s.entries d n ≡ Some (target.Inode k) → ⊥) → (k ≡ d → m ≡ n → ⊥) → tables.Clears s t ps qs d n (s.entries d n) → t.entries k m ≡ s.entries k m
clears_entry s t ps qs d n k m apart beside clears = by (s.entries d n) refl clears
  where
    by : (o : Option Target) → s.entries d n ≡ o → tables.Clears s t ps qs d n o → t.entries k m ≡ s.entries k m
    by None is r = r.0.entries k m
    by (Some target.Whiteout) is r = (subst (Releases r.between t ps qs) is r.releases).0.entries k m ∙ puts_other s.entries r.between.entries d n _ k m beside r.links.entries
    by (Some (target.Inode c)) is r =
        (subst (Releases r.between t ps qs) is r.releases).entries k m (λ e. apart (is ∙ ap (λ (y : ℕ). Some (target.Inode y)) (sym e)))
        ∙ puts_other s.entries r.between.entries d n _ k m beside r.links.entries

-- a number put anew
pub put_anew : (qs : Places) (x k : ℕ) → IsStrictlySortedBy nat_cmp (keys_of qs) → insert_entry nat_cmp qs x k ≡ insert_entry nat_cmp (remove_entry (is_at (nat_cmp x)) qs) x k
put_anew qs x k sorted = same_lists nat_cmp_total nat_cmp-IsAntisymmetric _ _
    (sorted-insert_entry nat_cmp_total qs x k sorted)
    (sorted-insert_entry nat_cmp_total (remove_entry (is_at (nat_cmp x)) qs) x k (sorted-remove_entry nat_cmp (is_at (nat_cmp x)) qs sorted))
    (λ q.
    lookup-insert_entry nat_cmp_total nat_cmp-IsAntisymmetric qs x k q ∙ by q (is_at (nat_cmp q) x) ∙ ap (λ o. cond (is_at (nat_cmp q) x) (Some k) o) (sym (lookup-remove_entry nat_cmp_total nat_cmp-IsAntisymmetric x q qs sorted))
    ∙ sym (lookup-insert_entry nat_cmp_total nat_cmp-IsAntisymmetric (remove_entry (is_at (nat_cmp x)) qs) x k q))
  where
    by : (q : ℕ) (b : Bool) → cond b (Some k) (place qs q) ≡ cond b (Some k) (cond b None (place qs q))
    by q true = refl
    by q false = refl

-- ---- the layer

-- a new file over a whiteout is one over what the whiteout covers
covered_new : (u : Tree) → IsLayer u → (p : Names) (v : Node) (b : Body) → HasPlace u p → with_new (with_node u p node.Whiteout) p v b ≡ with_new u p v b
covered_new u layer p v b fits =
    let c = clears_place u p layer fits in
    let same : without (with_node u p node.Whiteout) p ≡ without u p = without-with_entry (without u p) c.layer p node.Whiteout c.empty refl in
    λ i. record (with_entry (same i) p v) { bodies = insert_entry nat_cmp (with_entry (same i) p v).bodies u.next b; next = u.next + 1 }

pub entered_made : (s t : SlotView) (root : ℕ) (ps qs : Places) (next : ℕ) (u : Tree) (path q : Names) (n : List ℕ) (d : ℕ) → Spot s root ps next u path q n d → HasPlace u path → IsPath path → ((c : ℕ) → s.nodes c ≡ Some node.Whiteout → ⊥)
    → (b : Body) → IsLayer (with_new u path (leaf_node u.next b) b)
    → ((v : Node) → ◌≡◌ {A = Option Node} (Some (leaf_node next b)) (Some v) → Enters s t ps qs d n next v (Some b) 1) → Makes t root qs (next + 1) (with_new u path (leaf_node u.next b) b)
entered_made s t root ps qs next u path q n d spot fits is_path plain b whole enters = by (s.entries d n) refl e.clears
  where
    number : next ≡ u.next
    number = spot.makes.last

    v : Node
    v = leaf_node u.next b

    pn : Names
    pn = q ++ n ∷ []

    e : Enters s t ps qs d n next v (Some b) 1
    e = enters v (ap (λ (x : ℕ). Some (leaf_node x b)) number)

    count : inode_count (with_node u path node.Whiteout) ≡ inode_count (with_new u path v b)
    count = omega (arith, inode_count-with_node u path node.Whiteout spot.layer, inode_count-with_new u path v b spot.layer (leaf_number u.next b))

    -- over a free place of a layer
    over : (w : Tree) → Makes e.cleared root e.left next w → IsLayer w → w.next ≡ u.next → IsFree (at w pn) → IsOpen (e.cleared.entries d n) → walk e.cleared.entries root q ≡ Some (target.Inode d) → IsDirAt (e.cleared.nodes d) → Makes t root qs (next + 1) (with_new w pn (leaf_node w.next b) b)
    over w m layer same free open_entry leads dir =
        let numbered : next ≡ w.next = m.last in
        let made = leaf_makes e.cleared root e.left next w m layer t q n d leads dir free open_entry e.key (next + 1) b (subst (λ (x : ℕ). Adds e.cleared t d n e.key (leaf_node x b) (Some b) 1) (sym same) e.adds) (leaf_number w.next b) (ap (λ (x : ℕ). x + 1) numbered) in
        subst (λ (x : Places). Makes t root x (next + 1) (with_new w pn (leaf_node w.next b) b)) (sym (e.places ∙ ap (λ (x : ℕ). insert_entry nat_cmp e.left x e.key) numbered)) made

    nothing : IsSome {T = Target} None → ⊥
    nothing f = cc

    by : (o : Option Target) → s.entries d n ≡ o → tables.Clears s e.cleared ps e.left d n o → Makes t root qs (next + 1) (with_new u path v b)
    by None is same =
        let none : at u path ≡ None = nothing_there s root ps next u path q n d spot.makes spot.splits spot.leads is in
        let free : IsFree (at u pn) = subst IsFree (sym (ap (at u) (sym spot.splits) ∙ none)) tt in
        let way : walk e.cleared.entries root q ≡ Some (target.Inode d) = ap (λ f. walk f root q) (λ i c m. same.0.entries c m i) ∙ spot.leads in
        subst (λ (p : Names). Makes t root qs (next + 1) (with_new u p v b)) (sym spot.splits)
        (over u (makes_same s e.cleared root same.0 ps e.left next u same.1 spot.makes) spot.layer refl free (subst IsOpen (sym (same.0.entries d n ∙ is)) tt) way (subst IsDirAt (sym (same.0.nodes d)) spot.dir))
    by (Some x) is covers =
        let there : IsSome (at u path) = stands x is in
        let w = with_node u path node.Whiteout in
        let m = covered s e.cleared root ps e.left next u path q n d spot fits there plain covers in
        let layer : IsLayer w = IsLayer-with_node u path node.Whiteout spot.layer fits is_path tt (subst (λ (z : ℕ). z ≤ u.most) (sym count) whole.few) in
        let here : at w pn ≡ Some node.Whiteout = ap (at w) (sym spot.splits) ∙ (Sets-with_entry (without u path) path node.Whiteout).here in
        let made = over w m.makes layer refl (subst IsFree (sym here) refl) m.entry m.leads m.dir in
        subst (λ (z : Tree). Makes t root qs (next + 1) z) (ap (λ (p : Names). with_new w p v b) (sym spot.splits) ∙ covered_new u spot.layer path v b fits) made
      where
        stands : (y : Target) → s.entries d n ≡ Some y → IsSome (at u path)
        stands y at_y = subst IsSome (sym (ap (at u) spot.splits ∙ sym (spot.makes.shows pn) ∙ ap (node_shown s.nodes) (walk_push s.entries root d q n spot.leads ∙ at_y))) (shown y at_y)
          where
            shown : (z : Target) → s.entries d n ≡ Some z → IsSome (node_shown s.nodes (Some z))
            shown target.Whiteout at_z = refl
            shown (target.Inode c) at_z = spot.makes.table.there pn c (walk_push s.entries root d q n spot.leads ∙ at_z)

-- the next number is not that of what stands there
pub other_number : (s : SlotView) (root : ℕ) (ps : Places) (next : ℕ) (u : Tree) (path q : Names) (n : List ℕ) (d : ℕ) → Spot s root ps next u path q n d → option_and_then number_of (node_shown s.nodes (s.entries d n)) ≡ Some next → ⊥
other_number s root ps next u path q n d spot is =
    not_next u (q ++ n ∷ []) spot.layer (ap (option_and_then number_of) (sym (spot.makes.shows (q ++ n ∷ [])) ∙ ap (node_shown s.nodes) (walk_push s.entries root d q n spot.leads)) ∙ is ∙ ap (λ (x : ℕ). Some x) spot.makes.last)

-- a directory is not its own entry
pub not_itself : (s : SlotView) (root : ℕ) (ps : Places) (next : ℕ) (u : Tree) (path q : Names) (n : List ℕ) (d : ℕ) → Spot s root ps next u path q n d → s.entries d n ≡ Some (target.Inode d) → ⊥
not_itself s root ps next u path q n d spot is = longer q n (spot.makes.table.forest (q ++ n ∷ []) q d spot.dir (walk_push s.entries root d q n spot.leads ∙ is) spot.leads)
  where
    longer : (xs : Names) (y : List ℕ) → xs ++ y ∷ [] ≡ xs → ⊥
    longer [] y e = cc
    longer (x ∷ xs) y e = longer xs y (cc)

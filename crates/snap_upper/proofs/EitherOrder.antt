-- A new file, where nothing stood, and the directories above another path are added in either order.
use Rattle.std.proofs.Common.{◌≡◌, inl, inr, ◌+◌, Bool, true, false, List, [], ◌∷◌, ◌++◌, drop, length, Option, Some, None, is_some, refl, sym, ap, ◌∙◌, arith, append_assoc, append-nil}
use Rattle.std.specs.Prelude.{option_and_then, if◌then◌else◌}
use Rattle.std.specs.Ordering.{nat_cmp}
use Rattle.std.specs.List.Sorted.{IsStrictlySortedBy}
use Rattle.std.specs.Map.{keys_of}
use Rattle.std.specs.BTreeMap.{insert_entry}
use Rattle.snap_path.specs.Text.{Names, begins}
use Rattle.snap_layer.specs.declared.node.Node.{Node}
use Rattle.snap_layer.specs.declared.node.Node.TheVariants.{Dir}
use Rattle.snap_layer.specs.declared.node.Body.{Body}
use Rattle.snap_layer.specs.Tree.{Tree, path_cmp, at, number_at, number_of, node_hides}
use Rattle.snap_layer.specs.Counts.{inode_count}
use Rattle.snap_layer.specs.Layers.{IsLayer}
use Rattle.snap_layer.specs.Edits.{bodies_without, outside, with_entry, with_new, with_node}
use Rattle.snap_layer.proofs.Paths.{begins-append, begins_rest}
use Rattle.snap_layer.proofs.Looks.{Sets, Sets-with_entry, same_tree, split_path}
use Rattle.snap_layer.proofs.Counting.{inodes_of, inode_count-with_entry, length-insert_new}
use Rattle.snap_layer.proofs.Kept.{next_is_fresh}
use Rattle.snap_layer.proofs.Laws.{Replaces, Replaces-with_new, sorted-with_entry, sorted-with_node}
use Rattle.snap_merge.specs.Objects.{Object, dir, file, symlink, seen, is_shown_dir}
use Rattle.snap_merge.specs.Walk.{walk_from}
use Rattle.snap_merge.proofs.Views.{walk_same}
use Rattle.snap_merge.proofs.Hiding.{hides_alike}
use Rattle.snap_copyup.specs.Copying.{below, copied, with_object, with_parents_from}
use Rattle.snap_copyup.proofs.Alone.{walk_passes, below_seen, copied_there, copied_missing}
use Rattle.snap_copyup.proofs.ParentDirs.{dir_copied}
use Rattle.snap_copyup.proofs.Growing.{grows_once}
use Rattle.snap_upper.proofs.Growth.{without_bare}
use Rattle.snap_upper.proofs.Taken.{front_out}

no_bool : true ≡ false → ⊥
no_bool e = cc

-- nothing stands at the path or below it, in a layer whose paths rise
pub record IsBare (t : Tree) (p : Names) : Type 0 where
  pub sorted : IsStrictlySortedBy path_cmp (keys_of t.entries)
  pub none : (r : Names) → at t (p ++ r) ≡ None

pub bare_here : (t : Tree) (p : Names) → IsBare t p → at t p ≡ None
bare_here t p bare = ap (at t) (sym (append-nil p)) ∙ bare.none []

pub bare_number : (t : Tree) (p : Names) → IsBare t p → number_at t p ≡ None
bare_number t p bare = ap (option_and_then number_of) (bare_here t p bare)

-- ---- what is put there

module _ (t : Tree) (p : Names) (bare : IsBare t p) where
  -- it takes its own inodes
  pub node_inodes : (n : Node) → inode_count (with_node t p n) ≡ inode_count t + inodes_of (Some n)
  node_inodes n =
      ap (λ (v : Tree). inode_count (with_entry v p n)) (without_bare t p bare.sorted bare.none)
      ∙ omega (arith, inode_count-with_entry t p n bare.sorted, ap inodes_of (bare_here t p bare))

  -- and a new file or symlink one, where the bodies and the next number are those of a layer
  pub file_inodes : (u : Tree) → IsLayer u → t.bodies ≡ u.bodies → t.next ≡ u.next → (n : Node) (b : Body) → inodes_of (Some n) ≡ 0 → inode_count (with_new t p n b) ≡ inode_count t + 1
  file_inodes u ok bodies next n b is =
      ap (λ (v : Tree). inode_count (record v { entries = insert_entry path_cmp v.entries p n; bodies = insert_entry nat_cmp v.bodies t.next b; next = t.next + 1 })) (without_bare t p bare.sorted bare.none)
      ∙ omega (arith, inode_count-with_entry t p n bare.sorted, ap inodes_of (bare_here t p bare), is, more)
    where
      more : length (insert_entry nat_cmp t.bodies t.next b) ≡ length t.bodies + 1
      more = (λ i. length (insert_entry nat_cmp (bodies i) (next i) b)) ∙ length-insert_new u.bodies u.next b ok.sorted_numbers (next_is_fresh u ok) ∙ sym (ap (λ bs. length bs + 1) bodies)

-- ---- one directory

module _ (v : Tree) (ls : List Tree) (from : Names) (bare : IsBare v from) (f : Names) (out : begins from f ≡ false) where
  not_same : (r : Names) → from ++ r ≡ f → ⊥
  not_same r e = no_bool (sym (ap (begins from) (sym e) ∙ begins-append from r) ∙ out)

  -- a node put at the front
  entry_bare : (m : Node) → IsBare (with_entry v f m) from
  entry_bare m = record {
    sorted = sorted-with_entry v f m bare.sorted;
    none = λ r. (Sets-with_entry v f m).others (from ++ r) (not_same r) ∙ bare.none r;
  }

  copied_bare : is_shown_dir (seen (v ∷ ls) f) ≡ true → IsBare (copied v ls f) from
  copied_bare is = record { sorted = (grows_once v ls f bare.sorted is).sorted; none = by (at v f) refl }
    where
      put : (o : Option Object) → is_shown_dir o ≡ true → (r : Names) → at (with_object v f o) (from ++ r) ≡ None
      put None e r = absurd (cc)
      put (Some (dir meta)) e r = (entry_bare (Dir meta false)).none r
      put (Some (file meta content)) e r = absurd (cc)
      put (Some (symlink target)) e r = absurd (cc)

      by : (o : Option Node) → at v f ≡ o → (r : Names) → at (copied v ls f) (from ++ r) ≡ None
      by (Some m) e r = ap (λ (t : Tree). at t (from ++ r)) (copied_there v ls f (ap is_some e)) ∙ bare.none r
      by None e r = ap (λ (t : Tree). at t (from ++ r)) (copied_missing v ls f e) ∙ put (below v ls f) (ap is_shown_dir (sym (below_seen v ls f e)) ∙ is) r

  module _ (n : Node) (b : Body) where
    abbrev x : Tree
    x = with_new v from n b

    put_new : Replaces v (with_new v from n b) from n
    put_new = Replaces-with_new v from n b

    -- the entry, and the new file
    entry_either : (m : Node) → with_entry (with_new v from n b) f m ≡ with_new (with_entry v f m) from n b
    entry_either m =
        let y = with_entry v f m in
        same_tree (with_entry x f m) (with_new y from n b)
        (sorted-with_entry x f m (sorted-with_node v from n bare.sorted))
        (sorted-with_node y from n (entry_bare m).sorted)
        alike
        (ap (λ o. insert_entry nat_cmp (bodies_without o (outside from v.entries) v.bodies) v.next b) (bare_number v from bare) ∙ sym (ap (λ o. insert_entry nat_cmp (bodies_without o (outside from y.entries) v.bodies) v.next b) (bare_number y from (entry_bare m))))
        refl
        refl
      where
        sets : Sets v (with_entry v f m) f (Some m)
        sets = Sets-with_entry v f m

        sets_new : Sets x (with_entry x f m) f (Some m)
        sets_new = Sets-with_entry x f m

        put_after : Replaces (with_entry v f m) (with_new (with_entry v f m) from n b) from n
        put_after = Replaces-with_new (with_entry v f m) from n b

        inside : (r : Names) → at (with_new v from n b) (from ++ r) ≡ at (with_new (with_entry v f m) from n b) (from ++ r)
        inside [] = ap (at x) (append-nil from) ∙ put_new.here ∙ sym (ap (at (with_new (with_entry v f m) from n b)) (append-nil from) ∙ put_after.here)
        inside (k ∷ r) = put_new.below k r ∙ sym (put_after.below k r)

        by : (q : Names) → (q ≡ f → ⊥) → (c : Bool) → begins from q ≡ c → at (with_new v from n b) q ≡ at (with_new (with_entry v f m) from n b) q
        by q apart true e = ap (at x) (begins_rest from q e) ∙ inside (drop (length from) q) ∙ ap (at (with_new (with_entry v f m) from n b)) (sym (begins_rest from q e))
        by q apart false e = put_new.others q e ∙ sym (put_after.others q e ∙ sets.others q apart)

        alike : (q : Names) → at (with_entry (with_new v from n b) f m) q ≡ at (with_new (with_entry v f m) from n b) q
        alike q = elim (split_path q f) [
          | inl same ↦ ap (at (with_entry x f m)) same.0 ∙ sets_new.here ∙ sym (ap (at (with_new (with_entry v f m) from n b)) same.0 ∙ put_after.others f out ∙ sets.here)
          | inr apart ↦ sets_new.others q (λ e. apart.0 (sym e)) ∙ by q (λ e. apart.0 (sym e)) (begins from q) refl
        ]

    below_same : below (with_new v from n b) ls f ≡ below v ls f
    below_same = ap {B = Option Object} (λ c. if c then None else seen ls f) (hides_alike v x f [] (λ q m r e. ap node_hides (put_new.others q (front_out from q (m ∷ r) (ap (begins from) (sym e) ∙ out)))))

    copied_either : is_shown_dir (seen (v ∷ ls) f) ≡ true → copied (with_new v from n b) ls f ≡ with_new (copied v ls f) from n b
    copied_either is = by (at v f) refl
      where
        put : (o : Option Object) → is_shown_dir o ≡ true → with_object (with_new v from n b) f o ≡ with_new (with_object v f o) from n b
        put None e = absurd (cc)
        put (Some (dir meta)) e = entry_either (Dir meta false)
        put (Some (file meta content)) e = absurd (cc)
        put (Some (symlink target)) e = absurd (cc)

        by : (o : Option Node) → at v f ≡ o → copied (with_new v from n b) ls f ≡ with_new (copied v ls f) from n b
        by (Some m) e = copied_there x ls f (ap is_some (put_new.others f out ∙ e)) ∙ sym (ap (λ (t : Tree). with_new t from n b) (copied_there v ls f (ap is_some e)))
        by None e =
            copied_missing x ls f (put_new.others f out ∙ e)
            ∙ ap (with_object x f) below_same
            ∙ put (below v ls f) (ap is_shown_dir (sym (below_seen v ls f e)) ∙ is)
            ∙ sym (ap (λ (t : Tree). with_new t from n b) (copied_missing v ls f e))

-- ---- all directories above a path

pub parents_either : (v : Tree) (ls : List Tree) (from : Names) → IsBare v from → (n : Node) (b : Body) (front rest : Names) → begins from (front ++ rest) ≡ false → walk_from (v ∷ ls) front rest ≡ None
    → with_parents_from (with_new v from n b) ls front rest ≡ with_new (with_parents_from v ls front rest) from n b
parents_either v ls from bare n b front [] out way = refl
parents_either v ls from bare n b front (m ∷ rest) out way =
    let passes = walk_passes (seen (v ∷ ls) front) (walk_from (v ∷ ls) (front ++ m ∷ []) rest) way in
    let adds = dir_copied v ls front (length front + 1) passes.0 (omega arith) in
    let here = front_out from front (m ∷ rest) out in
    ap (λ (t : Tree). with_parents_from t ls (front ++ m ∷ []) rest) (copied_either v ls from bare front here n b passes.0)
    ∙ parents_either (copied v ls front) ls from (copied_bare v ls from bare front here passes.0) n b (front ++ m ∷ []) rest
    (ap (begins from) (append_assoc front (m ∷ []) rest) ∙ out) (walk_same (v ∷ ls) (copied v ls front ∷ ls) adds.view (front ++ m ∷ []) rest ∙ passes.1)

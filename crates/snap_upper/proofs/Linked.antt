-- One more name of what is seen.
use Rattle.std.proofs.Common.{◌≡◌, inl, inr, ℕ, ◌≤◌, true, false, List, [], ◌∷◌, ◌++◌, length, Option, Some, None, IsSome, is_some, refl, sym, ap, subst, ◌∙◌, arith, append-nil, length-append}
use Rattle.std.specs.Prelude.{option_and_then, nat_le, ◌&&◌}
use Rattle.std.specs.Ordering.{nat_cmp}
use Rattle.std.specs.Cmp.{nat_cmp_total}
use Rattle.std.specs.List.Sorted.{IsStrictlySortedBy}
use Rattle.std.specs.Map.{keys_of}
use Rattle.snap_path.specs.Limits.{most_number}
use Rattle.snap_path.specs.Text.{Names, IsPath, begins}
use Rattle.snap_layer.specs.declared.node.Node.{Node}
use Rattle.snap_layer.specs.declared.node.Node.TheVariants.{Dir, File, Symlink, Whiteout}
use Rattle.snap_layer.specs.declared.node.Body.{Body}
use Rattle.snap_layer.specs.declared.node.Body.TheVariants as body_kinds
use Rattle.snap_layer.specs.Tree.{Tree, Bodies, IsDirAt, path_cmp, at, body, number_at, number_of, node_hides}
use Rattle.snap_layer.specs.Counts.{inode_count, block_count, is_within}
use Rattle.snap_layer.specs.Layers.{IsLayer, IsWhole, IsFile, IsSymlink}
use Rattle.snap_layer.specs.Edits.{HasPlace, IsFree, IsTakeable, named_node, with_entry, with_name, with_new, with_node, without, outside}
use Rattle.snap_layer.proofs.Lists.{sorted-insert_entry}
use Rattle.snap_layer.proofs.Paths.{begins-append, begins_itself, split_front}
use Rattle.snap_layer.proofs.Looks.{at-without_inside, at-without_outside, sorted-bodies_without}
use Rattle.snap_layer.proofs.Counting.{inodes_of, dirs, weight, inode_count-with_entry, block_count-with_entry}
use Rattle.snap_layer.proofs.Kept.{dir_above, free_is_no_dir, node_with_number, nothing_below}
use Rattle.snap_layer.proofs.Laws.{Replaces, Replaces-with_node, Replaces-with_new, sorted-with_node}
use Rattle.snap_layer.proofs.Replacing.{IsLayer-with_node}
use Rattle.snap_layer.proofs.Moves.{not_longer, not_root, sorted-without}
use Rattle.snap_merge.specs.declared.error.FsError.TheVariants.{Exists}
use Rattle.snap_merge.specs.Objects.{Object, dir, file, symlink, seen, is_shown_dir, AreLayers}
use Rattle.snap_merge.specs.Walk.{walk_error}
use Rattle.snap_merge.proofs.Views.{seen_node, seen_through, seen_alike, walk_same}
use Rattle.snap_merge.proofs.Hiding.{hides_from_above}
use Rattle.snap_merge.proofs.Above.{nothing_seen}
use Rattle.snap_copyup.specs.Copying.{copied, with_object, with_parents, copied_up}
use Rattle.snap_copyup.proofs.Alone.{below_seen, copied_there, copied_missing, free_unseen, some_dir}
use Rattle.snap_copyup.proofs.Elsewhere.{shown_same}
use Rattle.snap_copyup.proofs.ParentDirs.{AddsParents, adds_parents, parents_stand}
use Rattle.snap_copyup.proofs.Growing.{grows_from}
use Rattle.snap_copyup.proofs.Layers.{no_missing}
use Rattle.snap_copyup.proofs.Copies.{Puts-with_new, copied_view}
use Rattle.snap_upper.specs.declared.op.Op.TheVariants as op
use Rattle.snap_upper.specs.After.{tests, first_error, error_if, next_layer}
use Rattle.snap_upper.proofs.Most.{most_before_move}
use Rattle.snap_upper.proofs.KindErrors.{link_error}
use Rattle.snap_upper.specs.Changed.{ShowsAt}
use Rattle.snap_upper.proofs.Outcomes.{test_passes, error_if_passes}
use Rattle.snap_upper.proofs.Erased.{above_out, body_stays}
use Rattle.snap_upper.proofs.Growth.{without_bare}
use Rattle.snap_upper.proofs.Taken.{IsKept, kept_from, none_added, walk_out, parents_out, copied_out, copied_out_there}

-- ---- tests that have passed

-- a file or a symlink is seen at `from`, and nothing at `to`
pub record IsLinkable (s : List Tree) (from to : Names) : Type 0 where
  pub way_from : walk_error s from ≡ None
  pub way_to : walk_error s to ≡ None
  pub name : link_error (seen s from) ≡ None
  pub unseen : is_some (seen s to) ≡ false

pub IsLinkable-passed : (s : List Tree) (from to : Names) → first_error (tests (op.Link from to) s) ≡ None → IsLinkable s from to
IsLinkable-passed s from to passes =
    let last = error_if (is_some (seen s to)) Exists in
    let first = test_passes (walk_error s from) (walk_error s to ∷ link_error (seen s from) ∷ last ∷ []) passes in
    let second = test_passes (walk_error s to) (link_error (seen s from) ∷ last ∷ []) first.1 in
    let third = test_passes (link_error (seen s from)) (last ∷ []) second.1 in
    let fourth = test_passes last [] third.1 in
    record {
      way_from = first.0;
      way_to = second.0;
      name = third.0;
      unseen = error_if_passes (is_some (seen s to)) Exists fourth.0;
    }

pub none_from : {A : Type 0} (o : Option A) → is_some o ≡ false → o ≡ None
none_from None e = refl
none_from (Some x) e = absurd (cc)

unlinked : (o : Option Object) → link_error o ≡ None → o ≡ None → ⊥
unlinked None e none = cc
unlinked (Some o) e none = cc

-- what stands where nothing is seen is a whiteout
pub whiteout_from : (o : Option Node) → IsFree o → is_some o ≡ true → o ≡ Some Whiteout
whiteout_from None free some = absurd (cc)
whiteout_from (Some (Dir m b)) free some = absurd (cc)
whiteout_from (Some (File k)) free some = absurd (cc)
whiteout_from (Some (Symlink k)) free some = absurd (cc)
whiteout_from (Some Whiteout) free some = refl

-- ---- a name of a layer

pub no_inode : (n : Node) (k : ℕ) → number_of n ≡ Some k → inodes_of (Some n) ≡ 0
no_inode (Dir m b) k e = absurd (cc)
no_inode (File j) k e = refl
no_inode (Symlink j) k e = refl
no_inode Whiteout k e = absurd (cc)

no_dir : (n : Node) (k : ℕ) → number_of n ≡ Some k → dirs n ≡ 0
no_dir (Dir m b) k e = absurd (cc)
no_dir (File j) k e = refl
no_dir (Symlink j) k e = refl
no_dir Whiteout k e = absurd (cc)

hides_all : (n : Node) (k : ℕ) → number_of n ≡ Some k → node_hides (Some n) ≡ true
hides_all (Dir m b) k e = absurd (cc)
hides_all (File j) k e = refl
hides_all (Symlink j) k e = refl
hides_all Whiteout k e = absurd (cc)

file_name : (o : Option Body) (k : ℕ) → IsFile o → named_node k o ≡ Some (File k)
file_name None k is = absurd is
file_name (Some (body_kinds.File m content)) k is = refl
file_name (Some (body_kinds.Symlink target)) k is = absurd is

symlink_name : (o : Option Body) (k : ℕ) → IsSymlink o → named_node k o ≡ Some (Symlink k)
symlink_name None k is = absurd is
symlink_name (Some (body_kinds.File m content)) k is = absurd is
symlink_name (Some (body_kinds.Symlink target)) k is = refl

-- a name of a number is that of its body
pub name_is : (t : Tree) (n : Node) (k : ℕ) → number_of n ≡ Some k → IsWhole t n → named_node k (body t k) ≡ Some n
name_is t (Dir m b) k e whole = absurd (cc)
name_is t (File j) k e whole = let same : j ≡ k = cc in subst (λ (i : ℕ). named_node i (body t i) ≡ Some (File j)) same (file_name (body t j) j whole)
name_is t (Symlink j) k e whole = let same : j ≡ k = cc in subst (λ (i : ℕ). named_node i (body t i) ≡ Some (Symlink j)) same (symlink_name (body t j) j whole)
name_is t Whiteout k e whole = absurd (cc)

-- ---- what is copied up

-- the layer v is u with what is seen at the path, and shows the same
pub record CopiesName (u v : Tree) (ls : List Tree) (p : Names) : Type 0 where
  pub number : (k : ℕ) × (number_at v p ≡ Some k)
  pub paths : IsStrictlySortedBy path_cmp (keys_of v.entries)
  pub numbers : IsStrictlySortedBy nat_cmp (keys_of v.bodies)
  pub kept : (q : Names) → IsKept u ls q → at v q ≡ at u q

module _ (u : Tree) (ls : List Tree) (p : Names) (ok : IsLayer u) (way : walk_error (u ∷ ls) p ≡ None) (name : link_error (seen (u ∷ ls) p) ≡ None) where
  abbrev parents : Tree
  parents = with_parents u ls p

  adds : AddsParents u (with_parents u ls p) ls (length p)
  adds = adds_parents u ls p way

  own : (k : ℕ) → number_at u p ≡ Some k → CopiesName u u ls p
  own k e = record { number = (k, e); paths = ok.sorted_paths; numbers = ok.sorted_numbers; kept = λ q is. refl }

  new : at u p ≡ None → (n : Node) (b : Body) → number_of n ≡ Some parents.next → CopiesName u (with_new (with_parents u ls p) p n b) ls p
  new none n b number = record {
    number = (parents.next, ap (option_and_then number_of) (Replaces-with_new parents p n b).here ∙ number);
    paths = sorted-with_node parents p n (grows_from u ls [] p ok.sorted_paths way).sorted;
    numbers = sorted-insert_entry nat_cmp_total _ parents.next b (sorted-bodies_without (number_at parents p) (outside p parents.entries) parents.bodies (subst (λ (bs : Bodies). IsStrictlySortedBy nat_cmp (keys_of bs)) (sym adds.bodies) ok.sorted_numbers));
    kept = λ q is.
        (Puts-with_new u parents ls p ok (subst IsFree (sym none) tt) adds n number b).others q (λ same. unlinked (seen (u ∷ ls) p) name (ap (seen (u ∷ ls)) (sym same) ∙ is (ap (at u) same ∙ none)))
        ∙ kept_from u ls q [] p is way;
  }

  copied_own : is_some (at u p) ≡ true → copied_up u ls p ≡ u
  copied_own some = ap (λ (t : Tree). copied t ls p) (no_missing u ls p ok some) ∙ copied_there u ls p some

  copies_name : CopiesName u (copied_up u ls p) ls p
  copies_name = by (at u p) refl
    where
      Goal : Tree → Type 0
      Goal v = CopiesName u v ls p

      copy : (o : Option Object) → at u p ≡ None → link_error o ≡ None → CopiesName u (with_object (with_parents u ls p) p o) ls p
      copy None none is = absurd (cc)
      copy (Some (dir m)) none is = absurd (cc)
      copy (Some (file m content)) none is = new none (File parents.next) (body_kinds.File m content) refl
      copy (Some (symlink target)) none is = new none (Symlink parents.next) (body_kinds.Symlink target) refl

      by : (o : Option Node) → at u p ≡ o → CopiesName u (copied_up u ls p) ls p
      by None e =
          let empty = adds.leaves p (omega arith) ∙ e in
          subst Goal (sym (copied_missing parents ls p empty)) (copy _ e (ap link_error (sym (below_seen parents ls p empty) ∙ adds.view p) ∙ name))
      by (Some (Dir m b)) e = let other = sym (ap link_error (seen_node u ls p (Dir m b) e)) ∙ name in absurd (cc)
      by (Some (File k)) e = subst Goal (sym (copied_own (ap is_some e))) (own k (ap (option_and_then number_of) e))
      by (Some (Symlink k)) e = subst Goal (sym (copied_own (ap is_some e))) (own k (ap (option_and_then number_of) e))
      by (Some Whiteout) e = let other = sym (ap link_error (seen_node u ls p Whiteout e)) ∙ name in absurd (cc)

-- ---- the layer with the name

module _ (u : Tree) (ls : List Tree) (from to : Names) (ok : IsLayer u) (layers : AreLayers ls) (passes : first_error (tests (op.Link from to) (u ∷ ls)) ≡ None) where
  -- what is copied up, then the directories, and then the place of the name
  abbrev copy : Tree
  copy = copied_up u ls from

  abbrev t : Tree
  t = with_parents (copied_up u ls from) ls to

  abbrev room : Tree
  room = without (with_parents (copied_up u ls from) ls to) to

  ready : IsLinkable (u ∷ ls) from to
  ready = IsLinkable-passed (u ∷ ls) from to passes

  pub free : IsFree (at u to)
  free = free_unseen u ls to ok ready.unseen

  pub unseen : seen (u ∷ ls) to ≡ None
  unseen = none_from (seen (u ∷ ls) to) ready.unseen

  nothing : (m : List ℕ) (r : Names) → seen (u ∷ ls) (to ++ m ∷ r) ≡ None
  nothing m r = nothing_seen (u ∷ ls) (ok, layers) r to m (ap is_shown_dir unseen)

  -- what is seen doesn't lie at or below the new name
  pub out : begins to from ≡ false
  out = elim (split_front to from) [
    | inl within ↦ absurd (unlinked (seen (u ∷ ls) from) ready.name (by within.1 within.2))
    | inr away ↦ away.0
  ]
    where
      by : (r : Names) → from ≡ to ++ r → seen (u ∷ ls) from ≡ None
      by [] is = ap (seen (u ∷ ls)) (is ∙ append-nil to) ∙ unseen
      by (m ∷ r) is = ap (seen (u ∷ ls)) is ∙ nothing m r

  pub copies : CopiesName u (copied_up u ls from) ls from
  copies = copies_name u ls from ok ready.way_from ready.name

  copy_shows : (q : Names) → seen (copied_up u ls from ∷ ls) q ≡ seen (u ∷ ls) q
  copy_shows = copied_view u ls from ready.way_from ok layers

  pub way_to : walk_error (copied_up u ls from ∷ ls) to ≡ None
  way_to = walk_same (u ∷ ls) (copy ∷ ls) copy_shows [] to ∙ ready.way_to

  pub adds_to : AddsParents (copied_up u ls from) (with_parents (copied_up u ls from) ls to) ls (length to)
  adds_to = adds_parents copy ls to way_to

  kept_to : (q : Names) → IsKept u ls q → at (with_parents (copied_up u ls from) ls to) q ≡ at u q
  kept_to q is = kept_from copy ls q [] to (λ none. copy_shows q ∙ is (sym (copies.kept q is) ∙ none)) way_to ∙ copies.kept q is

  pub below_to : (m : List ℕ) (r : Names) → at (with_parents (copied_up u ls from) ls to) (to ++ m ∷ r) ≡ None
  below_to m r = kept_to (to ++ m ∷ r) (λ none. nothing m r) ∙ nothing_below u ok to (free_is_no_dir (at u to) free) m r

  pub grows : IsStrictlySortedBy path_cmp (keys_of (with_parents (copied_up u ls from) ls to).entries)
  grows = (grows_from copy ls [] to copies.paths way_to).sorted

  -- what stands is kept
  kept_up : (q : Names) → is_some (at u q) ≡ true → IsKept u ls q
  kept_up q some none = absurd (no_bool (sym some ∙ ap is_some none))
    where
      no_bool : true ≡ false → ⊥
      no_bool e = cc

  -- the name at `from`
  named : (n : Node) × (at (with_parents (copied_up u ls from) ls to) from ≡ Some n) × (number_of n ≡ Some copies.number.0)
  named = node_with_number (at t from) copies.number.0 (adds_to.numbers from ∙ copies.number.1)

  linked_is : next_layer (op.Link from to) u ls ≡ with_entry room to named.0
  linked_is = ap (with_name t to) named.1

  bare : (r : Names) → at room (to ++ r) ≡ None
  bare r = at-without_inside t to (to ++ r) (begins-append to r)

  same_inodes : inode_count (with_entry room to named.0) ≡ inode_count room
  same_inodes = omega (arith, inode_count-with_entry room to named.0 (sorted-without t to grows), ap inodes_of (at-without_inside t to to (begins_itself to)), no_inode named.0 copies.number.0 named.2)

  pub same_within : is_within (next_layer (op.Link from to) u ls) ≡ is_within room
  same_within = ap is_within linked_is ∙ (λ i. nat_le (same_inodes i) room.most && nat_le room.next most_number)

  -- ---- the name is put

  pub place : HasPlace room to
  place = record {
    clear = λ n. subst IsFree (sym (bare (n ∷ []))) tt;
    above = record {
      below_root = not_root to from out;
      parent = λ q n is. subst IsDirAt (sym (at-without_outside t to q (ap (λ (x : Names). begins x q) is ∙ not_longer q n))) (parents_stand copy ls to way_to q n is);
    };
  }

  node_left : at room from ≡ Some named.0
  node_left = at-without_outside t to from out ∙ named.1

  -- ---- what the name takes

  pub linked_inodes : inode_count (next_layer (op.Link from to) u ls) ≡ inode_count room
  linked_inodes = ap inode_count linked_is ∙ same_inodes

  pub linked_number : (next_layer (op.Link from to) u ls).next ≡ (with_parents (copied_up u ls from) ls to).next
  linked_number = ap (λ (v : Tree). v.next) linked_is

  pub linked_most : (next_layer (op.Link from to) u ls).most ≡ u.most
  linked_most = ap (λ (v : Tree). v.most) linked_is ∙ most_before_move u ls from to

  pub linked_blocks : block_count (next_layer (op.Link from to) u ls) ≡ block_count room
  linked_blocks =
      let same : block_count (with_entry room to named.0) ≡ block_count room = omega (arith, block_count-with_entry room to named.0 (sorted-without t to grows), ap (weight dirs) (at-without_inside t to to (begins_itself to)), no_dir named.0 copies.number.0 named.2) in
      ap block_count linked_is ∙ same

  pub linked_layer : IsLayer room → IsPath to → IsLayer (next_layer (op.Link from to) u ls)
  linked_layer okr path =
      let same = without_bare room to (sorted-without t to grows) bare in
      let put : with_node room to named.0 ≡ next_layer (op.Link from to) u ls = ap (λ (v : Tree). with_entry v to named.0) same ∙ sym linked_is in
      let few : inode_count (with_node room to named.0) ≤ room.most = subst (λ n. n ≤ room.most) (sym (ap inode_count put ∙ linked_inodes)) okr.few in
      subst IsLayer put (IsLayer-with_node room to named.0 okr place path (subst (λ (v : Tree). IsWhole v named.0) (sym same) (okr.nodes from named.0 node_left)) few)

  pub own_copy : (k : ℕ) → number_at u from ≡ Some k → copied_up u ls from ≡ u
  own_copy k number = copied_own u ls from ok ready.way_from ready.name (ap is_some (node_with_number (at u from) k number).1)

  -- ---- room, where nothing stands at the new name

  module _ (none : at u to ≡ None) where
    pub room_is : with_parents (copied_up u ls from) ls to ≡ room
    room_is = sym (without_bare t to grows by)
      where
        by : (r : Names) → at (with_parents (copied_up u ls from) ls to) (to ++ r) ≡ None
        by [] = ap (at t) (append-nil to) ∙ kept_to to (λ e. unseen) ∙ none
        by (m ∷ r) = below_to m r

  -- ---- room, where a whiteout stands there

  module _ (white : at u to ≡ Some Whiteout) where
    some_to : IsSome (at u to)
    some_to = subst IsSome (sym white) refl

    pub takeable : IsTakeable u to
    takeable = record {
      there = some_to;
      clear = λ n. subst IsFree (sym (nothing_below u ok to (free_is_no_dir (at u to) free) n [])) tt;
      below_root = not_root to from out;
    }

    pub way_without : walk_error (without u to ∷ ls) from ≡ None
    way_without = walk_out u ls to white [] from out ∙ ready.way_from

    stands : (q : Names) (n : List ℕ) (r : Names) → to ≡ q ++ n ∷ r → is_some (at (copied_up u ls from) q) ≡ true
    stands q n r is =
        let some = some_dir (at u q) (dir_above u ok r q n (subst (λ (x : Names). IsSome (at u x)) is some_to)) in
        ap is_some (copies.kept q (kept_up q some)) ∙ some

    -- no directory is added above the new name
    pub held_above : with_parents (copied_up u ls from) ls to ≡ copied_up u ls from
    held_above = none_added copy ls [] to stands

    copied_first : copied_up (without u to) ls from ≡ without (copied_up u ls from) to
    copied_first =
        ap (λ (v : Tree). copied v ls from) (parents_out u ls to white ok.sorted_paths [] from out ready.way_from)
        ∙ by (at u from) refl
      where
        v : Tree
        v = with_parents u ls from

        still : at (with_parents u ls from) to ≡ Some Whiteout
        still = kept_from u ls to [] from (λ e. unseen) ready.way_from ∙ white

        rise : IsStrictlySortedBy path_cmp (keys_of (with_parents u ls from).entries)
        rise = (grows_from u ls [] from ok.sorted_paths ready.way_from).sorted

        leaves : (r : Names) → at (with_parents u ls from) (from ++ r) ≡ at u (from ++ r)
        leaves r = (adds_parents u ls from ready.way_from).leaves (from ++ r) (omega (arith, length-append from r))

        empty : at u from ≡ None → (r : Names) → at (with_parents u ls from) (from ++ r) ≡ None
        empty none [] = leaves [] ∙ ap (at u) (append-nil from) ∙ none
        empty none (m ∷ r) = leaves (m ∷ r) ∙ nothing_below u ok from (λ is. subst IsDirAt none is) m r

        by : (o : Option Node) → at u from ≡ o → copied (without (with_parents u ls from) to) ls from ≡ without (copied_up u ls from) to
        by None e = copied_out v ls to still rise from out (empty e)
        by (Some n) e = copied_out_there v ls to still rise from out (ap is_some (ap (at v) (sym (append-nil from)) ∙ leaves [] ∙ ap (at u) (append-nil from) ∙ e))

    pub room_first : copied_up (without u to) ls from ≡ room
    room_first = copied_first ∙ ap (λ (v : Tree). without v to) (sym held_above)

  -- ---- what is seen then

  pub link_changes : ShowsAt (seen (u ∷ ls)) (seen (next_layer (op.Link from to) u ls ∷ ls)) to (seen (u ∷ ls) from)
  link_changes = subst (λ (v : Tree). ShowsAt (seen (u ∷ ls)) (seen (v ∷ ls)) to (seen (u ∷ ls) from)) (sym linked_is) (record {
    here =
        seen_node v ls to named.0 replaces.here
        ∙ shown_same t v named.0 (λ j is. body_stays t to from named.0 j numbers out named.1 is)
        ∙ sym (seen_node t ls from named.0 named.1)
        ∙ shows from;
    others = λ q apart. elim (split_front to q) [
      | inl within ↦ by q apart within.1 within.2
      | inr away ↦
          seen_alike t v ls q (record {
            here = replaces.others q away.0;
            shows = λ n e. shown_same t v n (λ j is. body_stays t to q n j numbers away.0 e is);
            above = λ r n rest is. ap node_hides (replaces.others r (above_out to q r n rest away.1 is));
          })
          ∙ shows q
    ];
  })
    where
      v : Tree
      v = with_node t to named.0

      replaces : Replaces t (with_node t to named.0) to named.0
      replaces = Replaces-with_node t to named.0

      numbers : IsStrictlySortedBy nat_cmp (keys_of (with_parents (copied_up u ls from) ls to).bodies)
      numbers = subst (λ (bs : Bodies). IsStrictlySortedBy nat_cmp (keys_of bs)) (sym adds_to.bodies) copies.numbers

      shows : (q : Names) → seen (with_parents (copied_up u ls from) ls to ∷ ls) q ≡ seen (u ∷ ls) q
      shows q = adds_to.view q ∙ copy_shows q

      by : (q : Names) → (q ≡ to → ⊥) → (rest : Names) → q ≡ to ++ rest → seen (with_node t to named.0 ∷ ls) q ≡ seen (u ∷ ls) q
      by q apart [] is = absurd (apart (is ∙ append-nil to))
      by q apart (n ∷ r) is =
          ap (seen (v ∷ ls)) is
          ∙ seen_through v ls (to ++ n ∷ r) true (replaces.below n r) (hides_from_above v (to ++ n ∷ r) (to, n, r, refl, ap node_hides replaces.here ∙ hides_all named.0 copies.number.0 named.2))
          ∙ sym (ap (seen (u ∷ ls)) is ∙ nothing n r)

-- What a layer takes once what is seen at a path is copied up, and the directories above another are there.
use Rattle.std.proofs.Common.{◌≡◌, ℕ, ◌+◌, ◌≤◌, Bool, true, false, List, [], ◌∷◌, ◌++◌, length, Option, Some, None, is_some, refl, sym, ap, subst, ◌∙◌, arith, length-append}
use Rattle.std.specs.Prelude.{if◌then◌else◌}
use Rattle.std.specs.Ordering.{nat_cmp}
use Rattle.std.specs.List.Sorted.{IsStrictlySortedBy}
use Rattle.std.specs.Map.{lookup, keys_of}
use Rattle.std.specs.BTreeMap.{is_at}
use Rattle.snap_path.specs.Limits.{most_number}
use Rattle.snap_path.specs.Text.{Names, IsPath, begins}
use Rattle.snap_layer.specs.declared.node.Node.{Node}
use Rattle.snap_layer.specs.Tree.{Tree, Bodies, path_cmp, at, body, number_at}
use Rattle.snap_layer.proofs.Bounds.{content_blocks}
use Rattle.snap_layer.specs.Counts.{inode_count, block_count, name_count, most_file_blocks}
use Rattle.snap_layer.specs.Layers.{IsLayer}
use Rattle.snap_layer.specs.Edits.{IsFree, without}
use Rattle.snap_layer.proofs.Kept.{has_body}
use Rattle.snap_layer.proofs.Paths.{begins_itself}
use Rattle.snap_layer.proofs.Replacing.{is_within_yes}
use Rattle.snap_merge.specs.Objects.{Object, dir, file, symlink, seen, is_shown_dir, AreLayers}
use Rattle.snap_merge.specs.Walk.{walk_error}
use Rattle.snap_merge.proofs.Views.{walk_same}
use Rattle.snap_copyup.specs.declared.parents.Last.{Last}
use Rattle.snap_copyup.specs.Copying.{with_object, with_parents, copied_up}
use Rattle.snap_copyup.specs.Places.{TakesMore, last_of, with_last}
use Rattle.snap_copyup.proofs.Most.{most_parents}
use Rattle.snap_copyup.proofs.Missing.{missing_from}
use Rattle.snap_copyup.proofs.Alone.{below_seen, copied_missing}
use Rattle.snap_copyup.proofs.Copies.{copied_view, same_object}
use Rattle.snap_copyup.proofs.Growing.{Grows, grows_from, missing_same, takes_missing}
use Rattle.snap_copyup.proofs.Layers.{IsLayer-with_parents, IsLayer-copied_up}
use Rattle.snap_copyup.proofs.ParentDirs.{AddsParents, adds_parents}
use Rattle.snap_copyup.proofs.Wholes.{IsWholeObject, whole_seen}
use Rattle.snap_upper.specs.After.{is_whiteout_at, before_move}
use Rattle.snap_upper.specs.Adding.{IsPlaceable, Takes, object_blocks}
use Rattle.snap_upper.proofs.Growth.{all_inodes, all_blocks, all_paths, all_others, all_names, all_bodies, next_number}
use Rattle.snap_upper.proofs.Left.{Keeps, left_inodes, left_blocks}
use Rattle.snap_upper.proofs.Prepared.{IsCopy, lower_copy, longer_out, own_copy}
use Rattle.snap_upper.proofs.Taken.{front_out}

-- the layer t takes this usage without what stands at the path
pub record LeavesSo (t : Tree) (p : Names) (inodes blocks : ℕ) : Type 0 where
  pub inodes_are : inode_count (without t p) ≡ inodes
  pub blocks_are : block_count (without t p) ≡ blocks

-- a file or a symlink takes an inode, its blocks and a number
object_takes : (o : Option Object) → is_some o ≡ true → is_shown_dir o ≡ false → Takes (last_of None o) (object_blocks o) true
object_takes None some no_dir = absurd (cc)
object_takes (Some (dir m)) some no_dir = absurd (cc)
object_takes (Some (file m content)) some no_dir = (refl, refl)
object_takes (Some (symlink target)) some no_dir = (refl, refl)

few_of_object : (o : Option Object) → IsWholeObject o → object_blocks o ≤ most_file_blocks
few_of_object None whole = omega arith
few_of_object (Some (dir m)) whole = omega arith
few_of_object (Some (file m content)) whole = content_blocks content whole.1
few_of_object (Some (symlink target)) whole = omega arith

-- what is seen has at most 2 ^ 28 blocks
pub few_seen : (s : List Tree) → AreLayers s → (p : Names) → object_blocks (seen s p) ≤ most_file_blocks
few_seen s layers p = few_of_object (seen s p) (whole_seen s layers p)

module _ (u : Tree) (ls : List Tree) (from to : Names) (ok : IsLayer u) (layers : AreLayers ls) (is : IsPlaceable u ls from to) where
  abbrev t : Tree
  t = before_move u ls from to

  -- ---- the layer has what is seen at `from`

  module _ (some : is_some (at u from) ≡ true) where
    pub prepared_own : before_move u ls from to ≡ with_parents u ls to
    prepared_own = ap (λ (v : Tree). with_parents v ls to) (own_copy u ls from ok some)

    own_adds : AddsParents u (with_parents u ls to) ls (length to)
    own_adds = adds_parents u ls to is.way_to

    own_keeps : Keeps u (with_parents u ls to) to
    own_keeps =
        let grows = grows_from u ls [] to ok.sorted_paths is.way_to in
        record {
          paths = grows.sorted;
          same = λ r. own_adds.leaves (to ++ r) (omega (arith, length-append to r));
          names = λ k number. grows.names k;
          bodies = λ k number. ap (λ (bs : Bodies). lookup (is_at (nat_cmp k)) bs) own_adds.bodies;
        }

    pub own_next : (before_move u ls from to).next ≡ u.next
    own_next = ap (λ (v : Tree). v.next) prepared_own ∙ own_adds.next

    module _ (missing : ℕ) (more : TakesMore missing u (with_parents u ls to)) where
      pub own_inodes : inode_count (before_move u ls from to) ≡ inode_count u + missing
      own_inodes = ap inode_count prepared_own ∙ more.0

      pub own_left : LeavesSo (before_move u ls from to) to (inode_count (without u to) + missing) (block_count (without u to) + missing)
      own_left = subst (λ (v : Tree). LeavesSo v to (inode_count (without u to) + missing) (block_count (without u to) + missing)) (sym prepared_own) (record {
        inodes_are = omega (arith, left_inodes u (with_parents u ls to) to ok own_keeps, more.0);
        blocks_are = omega (arith, left_blocks u (with_parents u ls to) to ok own_keeps, more.1);
      })

  -- ---- a lower layer has it

  module _ (none : at u from ≡ None) where
    abbrev v : Tree
    v = with_parents u ls from

    abbrev copy : Tree
    copy = copied_up u ls from

    abbrev last : Last
    last = last_of None (seen (u ∷ ls) from)

    abbrev blocks : ℕ
    blocks = object_blocks (seen (u ∷ ls) from)

    parents : AddsParents u (with_parents u ls from) ls (length from)
    parents = adds_parents u ls from is.way_from

    takes : Takes (last_of None (seen (u ∷ ls) from)) (object_blocks (seen (u ∷ ls) from)) true
    takes = object_takes (seen (u ∷ ls) from) is.there (is.lower none)

    free : IsFree (at u from)
    free = subst IsFree (sym none) tt

    no_white : ◌≡◌ {A = ℕ} (if is_whiteout_at (at u from) then 1 else 0) 0
    no_white = ap {B = ℕ} (λ (o : Option Node). if is_whiteout_at o then 1 else 0) none

    above : TakesMore (missing_from u [] from) u (with_parents u ls from)
    above = takes_missing u ls from ok is.way_from

    copy_is : copied_up u ls from ≡ with_last (last_of None (seen (u ∷ ls) from)) (with_parents u ls from) from
    copy_is =
        let empty = parents.leaves from (omega arith) ∙ none in
        copied_missing v ls from empty
        ∙ ap (with_object v from) (sym (below_seen v ls from empty) ∙ parents.view from)
        ∙ sym (same_object v from (seen (u ∷ ls) from))

    copy_inodes : inode_count (copied_up u ls from) ≡ inode_count u + missing_from u [] from + 1
    copy_inodes = ap inode_count copy_is ∙ omega (arith, all_inodes u ls from last blocks true ok is.way_from takes free (missing_from u [] from) above, no_white)

    copy_blocks : block_count (copied_up u ls from) ≡ block_count u + missing_from u [] from + object_blocks (seen (u ∷ ls) from)
    copy_blocks = ap block_count copy_is ∙ all_blocks u ls from last blocks true ok is.way_from takes free (missing_from u [] from) above

    copy_next : (copied_up u ls from).next ≡ u.next + 1
    copy_next = ap (λ (x : Tree). x.next) copy_is ∙ next_number u ls from last blocks true ok is.way_from takes free (missing_from u [] from) above

    copy_paths : IsStrictlySortedBy path_cmp (keys_of (copied_up u ls from).entries)
    copy_paths = subst (λ (x : Tree). IsStrictlySortedBy path_cmp (keys_of x.entries)) (sym copy_is) (all_paths u ls from last blocks true ok is.way_from takes free (missing_from u [] from) above)

    way_after : walk_error (copied_up u ls from ∷ ls) to ≡ None
    way_after = walk_same (u ∷ ls) (copy ∷ ls) (copied_view u ls from is.way_from ok layers) [] to ∙ is.way_to

    grows : Grows (copied_up u ls from) (before_move u ls from to) (missing_from (copied_up u ls from) [] to)
    grows = grows_from copy ls [] to copy_paths way_after

    adds : AddsParents (copied_up u ls from) (before_move u ls from to) ls (length to)
    adds = adds_parents copy ls to way_after

    -- above `to` the copy adds nothing but the directories above it
    further : missing_from (copied_up u ls from) [] to ≡ missing_from (with_parents u ls from) [] to
    further = missing_same v copy [] to (λ a n b e. ap (λ (x : Tree). at x a) copy_is ∙ all_others u ls from last blocks true ok is.way_from takes free (missing_from u [] from) above a (λ same. no_bool (sym (ap (begins from) same ∙ begins_itself from) ∙ front_out from a (n ∷ b) (ap (begins from) (sym e) ∙ is.not_inside))))
      where
        no_bool : true ≡ false → ⊥
        no_bool e = cc

    lower_is : IsCopy u (copied_up u ls from) from
    lower_is = lower_copy u ls from ok is.way_from none is.there (is.lower none)

    -- the next number is no name's
    other : (k : ℕ) → number_at u to ≡ Some k → k ≡ u.next → ⊥
    other k number same = omega (arith, same, (ok.numbers k (has_body u ok to k number)).1)

    lower_keeps : Keeps u (before_move u ls from to) to
    lower_keeps = record {
      paths = grows.sorted;
      same = λ r. adds.leaves (to ++ r) (omega (arith, length-append to r)) ∙ lower_is.beside (to ++ r) (longer_out to from r is.not_around);
      names = λ k number. grows.names k ∙ ap (λ (x : Tree). name_count k x.entries) copy_is ∙ all_names u ls from last blocks true ok is.way_from takes free (missing_from u [] from) above k (other k number);
      bodies = λ k number.
          ap (λ (bs : Bodies). lookup (is_at (nat_cmp k)) bs) adds.bodies
          ∙ ap (λ (x : Tree). body x k) copy_is
          ∙ all_bodies u ls from last blocks true ok is.way_from takes free (missing_from u [] from) above k (other k number);
    }

    pub lower_next : (before_move u ls from to).next ≡ u.next + 1
    lower_next = adds.next ∙ copy_next

    module _ (missing : ℕ) (more : TakesMore missing u (with_parents (with_parents u ls from) ls to)) where
      all_missing : missing ≡ missing_from u [] from + missing_from (copied_up u ls from) [] to
      all_missing =
          let later = grows_from v ls [] to (grows_from u ls [] from ok.sorted_paths is.way_from).sorted (walk_same (u ∷ ls) (v ∷ ls) parents.view [] to ∙ is.way_to) in
          omega (arith, more.0, above.0, later.inodes, further)

      pub lower_inodes : inode_count (before_move u ls from to) ≡ inode_count u + missing + 1
      lower_inodes = omega (arith, grows.inodes, copy_inodes, all_missing)

      lower_blocks : block_count (before_move u ls from to) ≡ block_count u + missing + object_blocks (seen (u ∷ ls) from)
      lower_blocks = omega (arith, grows.blocks, copy_blocks, all_missing)

      pub lower_left : LeavesSo (before_move u ls from to) to (inode_count (without u to) + missing + 1) (block_count (without u to) + missing + object_blocks (seen (u ∷ ls) from))
      lower_left = record {
        inodes_are = omega (arith, left_inodes u t to ok lower_keeps, lower_inodes);
        blocks_are = omega (arith, left_blocks u t to ok lower_keeps, lower_blocks);
      }

  -- ---- the limits

  -- the next number, and one more where a file is copied up
  pub prepared_next : (lower : Bool) → (lower ≡ true → at u from ≡ None) → (lower ≡ false → is_some (at u from) ≡ true) → (before_move u ls from to).next ≡ u.next + (if lower then 1 else 0)
  prepared_next true none some = lower_next (none refl)
  prepared_next false none some = omega (arith, own_next (some refl))

  -- it is a layer where it is within the limits
  pub prepared_layer : IsPath from → IsPath to → inode_count (before_move u ls from to) ≤ (before_move u ls from to).most → (before_move u ls from to).next ≤ most_number → IsLayer (before_move u ls from to)
  prepared_layer path_from path_to few low = by (at u from) refl
    where
      by : (o : Option Node) → at u from ≡ o → IsLayer (before_move u ls from to)
      by (Some n) e =
          let same = prepared_own (ap is_some e) in
          subst IsLayer (sym same) (IsLayer-with_parents u ls to ok layers is.way_to path_to (subst (λ (x : Tree). inode_count x ≤ x.most) same few))
      by None e =
          let growing = grows e in
          let copy_ok = IsLayer-copied_up u ls from ok layers is.way_from path_from (is_within_yes (copied_up u ls from) (omega (arith, growing.inodes, few, most_parents (copied_up u ls from) ls to)) (omega (arith, (adds e).next, low))) in
          IsLayer-with_parents (copied_up u ls from) ls to copy_ok layers (way_after e) path_to few

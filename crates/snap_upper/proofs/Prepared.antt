-- The layer that a rename moves in: the file that is seen at `from` is copied up, and the directories above `to` are there.
use Rattle.std.proofs.Common.{◌≡◌, inl, inr, ℕ, Bool, true, false, List, [], ◌∷◌, ◌++◌, length, Option, Some, None, is_some, refl, sym, ap, subst, ◌∙◌, append_assoc, append-nil}
use Rattle.std.specs.Prelude.{option_and_then}
use Rattle.std.specs.Ordering.{nat_cmp}
use Rattle.std.specs.List.Sorted.{IsStrictlySortedBy}
use Rattle.std.specs.Map.{lookup, keys_of}
use Rattle.std.specs.BTreeMap.{is_at}
use Rattle.snap_path.specs.Text.{Names, IsPath, begins}
use Rattle.snap_layer.specs.declared.node.Node.{Node}
use Rattle.snap_layer.specs.declared.node.Node.TheVariants.{File, Symlink}
use Rattle.snap_layer.specs.declared.node.Body.{Body}
use Rattle.snap_layer.specs.declared.node.Body.TheVariants as body_kinds
use Rattle.snap_layer.specs.Tree.{Tree, Bodies, path_cmp, at, body, number_at, number_of}
use Rattle.snap_layer.specs.Layers.{IsLayer}
use Rattle.snap_layer.specs.Edits.{IsFree, IsMovable, with_new, bodies_without, outside}
use Rattle.snap_layer.proofs.Paths.{begins_from, begins_itself, split_front}
use Rattle.snap_layer.proofs.Kept.{has_body}
use Rattle.snap_layer.proofs.Laws.{Replaces, Replaces-with_new, SetsBody-with_new, sorted-with_node}
use Rattle.snap_layer.proofs.Testing.{moved_names}
use Rattle.snap_merge.specs.Objects.{Object, dir, file, symlink, seen, is_shown_dir, AreLayers}
use Rattle.snap_merge.specs.Walk.{walk_error}
use Rattle.snap_merge.proofs.Views.{walk_same}
use Rattle.snap_copyup.specs.Copying.{below, copied, copied_up, with_parents, is_pure_over}
use Rattle.snap_copyup.specs.Places.{with_last, last_of}
use Rattle.snap_copyup.proofs.Alone.{below_seen, copied_there, free_unseen}
use Rattle.snap_copyup.proofs.ParentDirs.{AddsParents, Extends, adds_parents, parents_extend, parents_stand}
use Rattle.snap_copyup.proofs.Growing.{grows_from}
use Rattle.snap_copyup.proofs.Layers.{no_missing}
use Rattle.snap_copyup.proofs.Copies.{Puts-with_new, not_next, last_copied, copied_view}
use Rattle.snap_upper.specs.After.{before_move}
use Rattle.snap_upper.proofs.Movable.{IsRenamable, short_paths}

no_bool : true ≡ false → ⊥
no_bool e = cc

none_some : {A : Type 0} {x : A} → None ≡ Some x → ⊥
none_some e = cc

-- ---- a file that is copied up

-- v is u with a new file or symlink at the path, and with the directories above it
pub record IsCopy (u v : Tree) (p : Names) : Type 0 where
  pub here : is_some (at v p) ≡ true
  pub bare : (n : List ℕ) (r : Names) → at v (p ++ n ∷ r) ≡ None
  pub beside : (q : Names) → begins q p ≡ false → at v q ≡ at u q
  pub bodies : (q : Names) (k : ℕ) → begins q p ≡ false → number_at v q ≡ Some k → is_some (body v k) ≡ true
  pub sorted : IsStrictlySortedBy path_cmp (keys_of v.entries)

module _ (u : Tree) (ls : List Tree) (p : Names) (ok : IsLayer u) (way : walk_error (u ∷ ls) p ≡ None) (none : at u p ≡ None) where
  abbrev w : Tree
  w = with_parents u ls p

  adds : AddsParents u (with_parents u ls p) ls (length p)
  adds = adds_parents u ls p way

  free : IsFree (at u p)
  free = subst IsFree (sym none) tt

  no_number : number_at (with_parents u ls p) p ≡ None
  no_number = adds.numbers p ∙ ap (option_and_then number_of) none

  new_copy : (n : Node) (b : Body) → number_of n ≡ Some w.next → IsCopy u (with_new w p n b) p
  new_copy n b number = record {
    here = ap is_some replaces.here;
    bare = replaces.below;
    beside = beside;
    bodies = λ q k out is.
        let old : number_at u q ≡ Some k = sym (ap (option_and_then number_of) (beside q out)) ∙ is in
        ap is_some (
        (SetsBody-with_new w p n b).others k (not_next u w ls p ok free adds n number b q k (adds.numbers q ∙ old))
        ∙ ap (λ o. lookup (is_at (nat_cmp k)) (bodies_without o (outside p w.entries) w.bodies)) no_number
        ∙ ap (λ (bs : Bodies). lookup (is_at (nat_cmp k)) bs) adds.bodies
        )
        ∙ has_body u ok q k old;
    sorted = sorted-with_node w p n (grows_from u ls [] p ok.sorted_paths way).sorted;
  }
    where
      replaces : Replaces w (with_new w p n b) p n
      replaces = Replaces-with_new w p n b

      beside : (q : Names) → begins q p ≡ false → at (with_new w p n b) q ≡ at u q
      beside q out =
          (Puts-with_new u w ls p ok free adds n number b).others q (λ same. no_bool (sym (ap (λ (x : Names). begins x p) same ∙ begins_itself p) ∙ out))
          ∙ (parents_extend u ls p way).beside q out

  -- what is copied up is no directory
  pub lower_copy : is_some (seen (u ∷ ls) p) ≡ true → is_shown_dir (seen (u ∷ ls) p) ≡ false → IsCopy u (copied_up u ls p) p
  lower_copy there no_dir = subst (λ (v : Tree). IsCopy u v p) (ap (λ (o : Option Node). with_last (last_of o (below u ls p)) w p) (sym none) ∙ last_copied u ls p way) (by (below u ls p) (sym (ap is_some (below_seen u ls p none)) ∙ there) (sym (ap is_shown_dir (below_seen u ls p none)) ∙ no_dir))
    where
      by : (o : Option Object) → is_some o ≡ true → is_shown_dir o ≡ false → IsCopy u (with_last (last_of None o) w p) p
      by None some no_dir = absurd (cc)
      by (Some (dir m)) some no_dir = absurd (cc)
      by (Some (file m content)) some no_dir = new_copy (File w.next) (body_kinds.File m content) refl
      by (Some (symlink target)) some no_dir = new_copy (Symlink w.next) (body_kinds.Symlink target) refl

-- what the layer has is not copied
pub own_copy : (u : Tree) (ls : List Tree) (p : Names) → IsLayer u → is_some (at u p) ≡ true → copied_up u ls p ≡ u
own_copy u ls p ok some = ap (λ (t : Tree). copied t ls p) (no_missing u ls p ok some) ∙ copied_there u ls p some

-- ---- where it moves

-- what does not begin a path does not with more names either
pub longer_out : (a b r : Names) → begins a b ≡ false → begins (a ++ r) b ≡ false
longer_out a b r e = elim (split_front (a ++ r) b) [
  | inl within ↦ absurd (no_bool (sym (begins_from a b (r ++ within.1) (within.2 ∙ append_assoc a r within.1)) ∙ e))
  | inr out ↦ out.0
]

module _ (u : Tree) (ls : List Tree) (from to : Names) (ok : IsLayer u) (layers : AreLayers ls) (is : IsRenamable u ls from to) where
  -- the layer with what is seen at `from`
  abbrev v : Tree
  v = copied_up u ls from

  pub copied_seen : (q : Names) → seen (copied_up u ls from ∷ ls) q ≡ seen (u ∷ ls) q
  copied_seen = copied_view u ls from is.way_from ok layers

  pub way_after : walk_error (copied_up u ls from ∷ ls) to ≡ None
  way_after = walk_same (u ∷ ls) (v ∷ ls) copied_seen [] to ∙ is.way_to

  pub added : AddsParents (copied_up u ls from) (before_move u ls from to) ls (length to)
  added = adds_parents v ls to way_after

  extended : Extends (copied_up u ls from) (before_move u ls from to) to
  extended = parents_extend v ls to way_after

  pub prepared_seen : (q : Names) → seen (before_move u ls from to ∷ ls) q ≡ seen (u ∷ ls) q
  prepared_seen q = added.view q ∙ copied_seen q

  -- a lower directory is not pure
  pub lower_no_dir : at u from ≡ None → is_shown_dir (seen (u ∷ ls) from) ≡ false
  lower_no_dir none = by (is_shown_dir (seen (u ∷ ls) from)) refl
    where
      by : (b : Bool) → is_shown_dir (seen (u ∷ ls) from) ≡ b → is_shown_dir (seen (u ∷ ls) from) ≡ false
      by false e = e
      by true e = absurd (no_bool (sym (is.pure e) ∙ ap (λ (o : Option Node). is_pure_over o (below u ls from)) none))

  pub lower_is_copy : at u from ≡ None → IsCopy u (copied_up u ls from) from
  lower_is_copy none = lower_copy u ls from ok is.way_from none is.there (lower_no_dir none)

  copied_some : is_some (at (copied_up u ls from) from) ≡ true
  copied_some = by (at u from) refl
    where
      by : (o : Option Node) → at u from ≡ o → is_some (at (copied_up u ls from) from) ≡ true
      by (Some n) e = ap (λ (t : Tree). is_some (at t from)) (own_copy u ls from ok (ap is_some e)) ∙ ap is_some e
      by None e = (lower_is_copy e).here

  kept : is_some (at (before_move u ls from to) from) ≡ true
  kept = by (at v from) refl copied_some
    where
      by : (o : Option Node) → at v from ≡ o → is_some o ≡ true → is_some (at (before_move u ls from to) from) ≡ true
      by (Some n) e some = ap is_some (extended.keeps from n e)
      by None e some = absurd (cc)

  fits : IsPath to → (r : Names) → is_some (at (before_move u ls from to) (from ++ r)) ≡ true → IsPath (to ++ r)
  fits path r some = by (at u from) refl r (ap is_some (sym (extended.beside (from ++ r) (longer_out from to r is.not_inside))) ∙ some)
    where
      by : (o : Option Node) → at u from ≡ o → (r : Names) → is_some (at v (from ++ r)) ≡ true → IsPath (to ++ r)
      by (Some n) e r some =
          let own : is_some (at u (from ++ r)) ≡ true = ap (λ (t : Tree). is_some (at t (from ++ r))) (sym (own_copy u ls from ok (ap is_some e))) ∙ some in
          moved_names from to r path (ok.paths (from ++ r) own) (short_paths u from to is.short r own)
      by None e [] some = subst IsPath (sym (append-nil to)) path
      by None e (n ∷ r) some = absurd (no_bool (sym some ∙ ap is_some ((lower_is_copy e).bare n r)))

  -- what is seen at `from` can move
  pub prepared_movable : IsPath to → IsLayer (before_move u ls from to) → IsMovable (before_move u ls from to) from to
  prepared_movable path okt = record {
    there = kept;
    place = record {
      clear = λ n. free_unseen (before_move u ls from to) ls (to ++ n ∷ []) okt (ap is_some (prepared_seen (to ++ n ∷ [])) ∙ is.clear n);
      above = record { below_root = is.not_root; parent = λ q n e. parents_stand v ls to way_after q n e };
    };
    not_inside = is.not_inside;
    not_around = is.not_around;
    fits = fits path;
  }

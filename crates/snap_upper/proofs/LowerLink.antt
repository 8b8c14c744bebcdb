-- A link of a lower file: what is put once the directories above both names are there.
use Rattle.std.proofs.Common.{◌≡◌, inl, inr, ◌≤◌, Bool, true, false, cond, List, [], ◌∷◌, ◌++◌, Some, None, is_some, refl, sym, ap, subst, ◌∙◌, arith, append-nil}
use Rattle.std.specs.Prelude.{option_and_then}
use Rattle.snap_path.specs.Text.{Names, begins}
use Rattle.snap_layer.specs.declared.node.Body.{Body}
use Rattle.snap_layer.specs.Tree.{Tree, at, leaf_node, number_at, number_of}
use Rattle.snap_layer.specs.Counts.{is_within}
use Rattle.snap_layer.specs.Layers.{IsLayer}
use Rattle.snap_layer.specs.Edits.{HasRooms, IsFree, with_linked, with_name, with_new}
use Rattle.snap_layer.proofs.Paths.{begins_itself, split_front}
use Rattle.snap_layer.proofs.Kept.{free_has_no_number}
use Rattle.snap_layer.proofs.Laws.{Replaces-with_new}
use Rattle.snap_layer.proofs.Moves.{not_root}
use Rattle.snap_layer.proofs.Replacing.{is_within_many}
use Rattle.snap_merge.specs.declared.error.FsError.{FsError}
use Rattle.snap_merge.specs.Objects.{seen, is_shown_dir, AreLayers}
use Rattle.snap_merge.specs.Walk.{walk_error}
use Rattle.snap_copyup.specs.Copying.{below, copied_up, object_body, with_parents}
use Rattle.snap_copyup.specs.Places.{IsRefusal}
use Rattle.snap_copyup.proofs.ParentDirs.{parents_stand}
use Rattle.snap_upper.specs.declared.op.Op.TheVariants as op
use Rattle.snap_upper.specs.After.{tests, first_error, next_layer}
use Rattle.snap_upper.proofs.Movable.{dir_above}
use Rattle.snap_upper.proofs.Linked.{IsLinkable, IsLinkable-passed, adds_to, below_to, copies, free, grows, linked_inodes, linked_most, out, unseen}
use Rattle.snap_upper.proofs.Linking.{lower_absent, name_no_dir, name_there}
use Rattle.snap_upper.proofs.Shifted.{taken}
use Rattle.snap_upper.proofs.Taken.{kept_from}
use Rattle.snap_upper.proofs.EitherOrder.{bare_here}
use Rattle.snap_upper.proofs.LowerCopy.{IsLowerFile, above_to, copy_inodes, copy_last, lower_body, ready_bare, ready_many, ready_parent, way_later}

no_bool : true ≡ false → ⊥
no_bool e = cc

none_some : {A : Type 0} {x : A} → None ≡ Some x → ⊥
none_some e = cc

module _ (u : Tree) (ls : List Tree) (from to : Names) (ok : IsLayer u) (layers : AreLayers ls) (passes : first_error (tests (op.Link from to) (u ∷ ls)) ≡ None) (none : number_at u from ≡ None) where
  abbrev w : Tree
  w = with_parents (with_parents u ls from) ls to

  abbrev t : Tree
  t = with_parents (copied_up u ls from) ls to

  ready : IsLinkable (u ∷ ls) from to
  ready = IsLinkable-passed (u ∷ ls) from to passes

  no_dir : is_shown_dir (seen (u ∷ ls) from) ≡ false
  no_dir = name_no_dir (seen (u ∷ ls) from) ready.name

  -- the new name doesn't lie at or below the file
  not_inside : begins from to ≡ false
  not_inside = elim (split_front from to) [
    | inl within ↦ absurd (by within.1 within.2)
    | inr away ↦ away.0
  ]
    where
      by : (r : Names) → to ≡ from ++ r → ⊥
      by [] is = no_bool (sym (name_there (seen (u ∷ ls) from) ready.name) ∙ ap (λ (q : Names). is_some (seen (u ∷ ls) q)) (sym (is ∙ append-nil from)) ∙ ready.unseen)
      by (n ∷ r) is = no_bool (sym (dir_above (u ∷ ls) to from n r ready.way_to is) ∙ no_dir)

  lower_file : IsLowerFile u ls from to
  lower_file = record {
    way_from = ready.way_from;
    way_to = ready.way_to;
    lower = lower_absent u ls from to ok layers passes none;
    there = name_there (seen (u ∷ ls) from) ready.name;
    no_dir = no_dir;
    not_inside = not_inside;
  }

  pub link_way_from : walk_error (u ∷ ls) from ≡ None
  link_way_from = ready.way_from

  pub link_way_to : walk_error (u ∷ ls) to ≡ None
  link_way_to = ready.way_to

  -- there is room for both names
  pub link_rooms : HasRooms (with_parents (with_parents u ls from) ls to) from to
  link_rooms = record {
    bare = bare_here w from (ready_bare u ls from to ok lower_file);
    above = ready_parent u ls from to ok lower_file;
    room = record {
      free = subst IsFree (sym kept) (free u ls from to ok layers passes);
      above = record { below_root = not_root to from (out u ls from to ok layers passes); parent = λ q n e. parents_stand (with_parents u ls from) ls to (way_later u ls from to ok lower_file) q n e };
    };
    apart = λ e. no_bool (sym (begins_itself from) ∙ ap (begins from) e ∙ not_inside);
  }
    where
      kept : at (with_parents (with_parents u ls from) ls to) to ≡ at u to
      kept = (above_to u ls from to ok lower_file).leaves to (omega arith) ∙ kept_from u ls to [] from (λ e. unseen u ls from to ok layers passes) ready.way_from

  -- the directories alone pass no limit that the link doesn't
  pub link_full : is_within (with_parents (with_parents u ls from) ls to) ≡ false → is_within (next_layer (op.Link from to) u ls) ≡ false
  link_full full =
      let whole = taken t to (grows u ls from to ok layers passes) (below_to u ls from to ok layers passes) (at t to) refl (λ k e. absurd (none_some (sym no_number ∙ e))) in
      is_within_many (next_layer (op.Link from to) u ls) (omega (arith, ready_many u ls from to ok lower_file full, copy_inodes u ls from to ok lower_file, whole, few (is_some (at t to)), linked_inodes u ls from to ok layers passes, linked_most u ls from to ok layers passes))
    where
      no_number : number_at (with_parents (copied_up u ls from) ls to) to ≡ None
      no_number =
          (adds_to u ls from to ok layers passes).numbers to
          ∙ ap (option_and_then number_of) ((copies u ls from to ok layers passes).kept to (λ e. unseen u ls from to ok layers passes))
          ∙ free_has_no_number (at u to) (free u ls from to ok layers passes)

      few : (b : Bool) → ◌≤◌ (cond b 1 0) 1
      few true = omega arith
      few false = omega arith

  -- ---- the layer with both names

  abbrev copy : Body
  copy = (lower_body u ls from to ok lower_file).0

  link_is : with_linked (with_parents (with_parents u ls from) ls to) from to copy ≡ next_layer (op.Link from to) u ls
  link_is =
      let x = with_new w from (leaf_node w.next copy) copy in
      sym (ap (λ (z : Tree). with_name z to (at z from)) (copy_last u ls from to ok lower_file) ∙ ap (with_name x to) (Replaces-with_new w from (leaf_node w.next copy) copy).here)

  -- what is put there, or why it isn't, is so for the link
  module _ (y : Tree) (same : y ≡ with_parents (with_parents u ls from) ls to) where
    copy_there : object_body (below y ls from) ≡ Some copy
    copy_there = ap (λ (z : Tree). object_body (below z ls from)) same ∙ (lower_body u ls from to ok lower_file).1

    copy_is : with_linked y from to copy ≡ next_layer (op.Link from to) u ls
    copy_is = ap (λ (z : Tree). with_linked z from to copy) same ∙ link_is

    pub link_made : (t : Tree) → ((b : Body) → object_body (below y ls from) ≡ Some b → t ≡ with_linked y from to b) → t ≡ next_layer (op.Link from to) u ls
    link_made t made = made copy copy_there ∙ copy_is

    pub link_refused : (e : FsError) → ((b : Body) → object_body (below y ls from) ≡ Some b → IsRefusal (with_linked y from to b) e) → IsRefusal (next_layer (op.Link from to) u ls) e
    link_refused e refusal = subst (λ (z : Tree). IsRefusal z e) copy_is (refusal copy copy_there)

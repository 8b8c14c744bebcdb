-- What a layer takes with one more name.
use Rattle.std.proofs.Common.{◌≡◌, inl, inr, ℕ, Bool, true, false, List, [], ◌∷◌, ◌++◌, Option, Some, None, is_some, refl, sym, ap, subst, ◌∙◌, append-nil}
use Rattle.std.specs.Prelude.{if◌then◌else◌, ◌+◌}
use Rattle.snap_path.specs.Text.{Names, IsPath, begins}
use Rattle.snap_layer.specs.declared.node.Node.{Node}
use Rattle.snap_layer.specs.declared.node.Node.TheVariants.{Whiteout}
use Rattle.snap_layer.specs.Tree.{Tree, at}
use Rattle.snap_layer.specs.Counts.{inode_count, block_count, is_within}
use Rattle.snap_layer.specs.Layers.{IsLayer}
use Rattle.snap_layer.specs.Edits.{HasPlace, IsFree, without}
use Rattle.snap_layer.proofs.Kept.{free_is_no_dir, nothing_below}
use Rattle.snap_layer.proofs.Paths.{split_front}
use Rattle.snap_layer.proofs.Replacing.{clears_place}
use Rattle.snap_usage.specs.declared.usage.Usage.{Usage}
use Rattle.snap_merge.specs.Objects.{seen, is_shown_dir, AreLayers}
use Rattle.snap_copyup.proofs.Layers.{IsLayer-copied_up}
use Rattle.snap_upper.specs.declared.op.Op.TheVariants as op
use Rattle.snap_upper.specs.After.{tests, first_error, next_layer, before_move}
use Rattle.snap_upper.specs.Adding.{IsPlaceable, IsNext}
use Rattle.snap_upper.proofs.Outcomes.{few_from}
use Rattle.snap_upper.proofs.Movable.{dir_above}
use Rattle.snap_upper.proofs.PreparedCounts.{prepared_layer}
use Rattle.snap_upper.proofs.Shifted.{last_from}
use Rattle.snap_upper.proofs.Linking.{name_there, name_no_dir}
use Rattle.snap_upper.proofs.Linked.{IsLinkable, IsLinkable-passed, whiteout_from, free, out, takeable, room_is, room_first, way_without, same_within, linked_inodes, linked_blocks, linked_most, linked_number, linked_layer}

no_bool : true ≡ false → ⊥
no_bool e = cc

module _ (u : Tree) (ls : List Tree) (from to : Names) (ok : IsLayer u) (layers : AreLayers ls) (passes : first_error (tests (op.Link from to) (u ∷ ls)) ≡ None) where
  -- before the name is put
  abbrev room : Tree
  room = without (before_move u ls from to) to

  abbrev next : Tree
  next = next_layer (op.Link from to) u ls

  ready : IsLinkable (u ∷ ls) from to
  ready = IsLinkable-passed (u ∷ ls) from to passes

  there : is_some (seen (u ∷ ls) from) ≡ true
  there = name_there (seen (u ∷ ls) from) ready.name

  no_dir : is_shown_dir (seen (u ∷ ls) from) ≡ false
  no_dir = name_no_dir (seen (u ∷ ls) from) ready.name

  -- nothing lies below the new name
  clear_to : (n : List ℕ) → IsFree (at u (to ++ n ∷ []))
  clear_to n = subst IsFree (sym (nothing_below u ok to (free_is_no_dir (at u to) (free u ls from to ok layers passes)) n [])) tt

  not_inside : begins from to ≡ false
  not_inside = elim (split_front from to) [
    | inr away ↦ away.0
    | inl within ↦ absurd (by within.1 within.2)
  ]
    where
      by : (r : Names) → to ≡ from ++ r → ⊥
      by [] is = no_bool (sym there ∙ ap (λ (q : Names). is_some (seen (u ∷ ls) q)) (sym (is ∙ append-nil from)) ∙ ready.unseen)
      by (n ∷ r) is = no_bool (sym (dir_above (u ∷ ls) to from n r ready.way_to is) ∙ no_dir)

  pub linkable : IsPlaceable u ls from to
  linkable = record {
    way_from = ready.way_from;
    way_to = ready.way_to;
    there = there;
    lower = λ none. no_dir;
    not_inside = not_inside;
    not_around = out u ls from to ok layers passes;
    clear = clear_to;
  }

  name_place : at u to ≡ Some Whiteout → HasPlace u to
  name_place white = record {
    clear = clear_to;
    above = record { below_root = (takeable u ls from to ok layers passes white).below_root; parent = λ q n is. ok.parents q n (subst (λ (r : Names). is_some (at u r) ≡ true) is (ap is_some white)) };
  }

  room_layer : IsPath from → IsPath to → is_within next ≡ true → IsLayer room
  room_layer path_from path_to within = by (at u to) refl
    where
      fits : is_within room ≡ true
      fits = sym (same_within u ls from to ok layers passes) ∙ within

      by : (o : Option Node) → at u to ≡ o → IsLayer room
      by None e =
          let same = room_is u ls from to ok layers passes e in
          let prepared_fits : is_within (before_move u ls from to) ≡ true = ap is_within same ∙ fits in
          subst IsLayer same (prepared_layer u ls from to ok layers linkable path_from path_to (few_from (before_move u ls from to) prepared_fits) (last_from (before_move u ls from to) prepared_fits))
      by (Some x) e =
          let white = whiteout_from (at u to) (free u ls from to ok layers passes) (ap is_some e) in
          let base = (clears_place u to ok (name_place white)).layer in
          let same = room_first u ls from to ok layers passes white in
          subst IsLayer same (IsLayer-copied_up (without u to) ls from base layers (way_without u ls from to ok layers passes white) path_from (ap is_within same ∙ fits))

  pub linked_next : IsPath from → IsPath to → (usage : Usage) → usage ≡ record { blocks = block_count (without (before_move u ls from to) to); inodes = inode_count (without (before_move u ls from to) to) } → (lower : Bool) → (before_move u ls from to).next ≡ u.next + (if lower then 1 else 0) → IsNext u (next_layer (op.Link from to) u ls) usage lower
  linked_next path_from path_to usage counted lower number = record {
    inodes = ap (λ (x : Usage). x.inodes) counted ∙ sym (linked_inodes u ls from to ok layers passes);
    blocks = ap (λ (x : Usage). x.blocks) counted ∙ sym (linked_blocks u ls from to ok layers passes);
    number = linked_number u ls from to ok layers passes ∙ number;
    most = linked_most u ls from to ok layers passes;
    layer = λ within. linked_layer u ls from to ok layers passes (room_layer path_from path_to within) path_to;
  }

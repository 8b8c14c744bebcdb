-- How a name is added: to a file of the layer, or to a copy of a lower one.
use Rattle.std.proofs.Common.{◌≡◌, ℕ, true, false, List, [], ◌∷◌, Option, Some, None, is_some, Result, Ok, Err, IfErr, refl, sym, ap, subst, ◌∙◌}
use Rattle.std.specs.Prelude.{option_and_then}
use Rattle.snap_path.specs.Text.{Names}
use Rattle.snap_layer.specs.declared.node.Node.{Node}
use Rattle.snap_layer.specs.declared.node.Node.TheVariants.{Dir, File, Symlink, Whiteout}
use Rattle.snap_layer.specs.Tree.{Tree, at, body, number_at, number_of}
use Rattle.snap_layer.specs.Counts.{is_within}
use Rattle.snap_layer.specs.Layers.{IsLayer}
use Rattle.snap_layer.specs.Edits.{HasPlace, IsFree, named_node, with_name}
use Rattle.snap_layer.proofs.Kept.{free_has_no_number, node_with_number}
use Rattle.snap_layer.proofs.Moves.{not_root}
use Rattle.snap_merge.specs.declared.error.FsError.{FsError}
use Rattle.snap_merge.specs.Objects.{Object, dir, file, symlink, is_shown_dir, AreLayers}
use Rattle.snap_merge.specs.Walk.{walk_error}
use Rattle.snap_merge.proofs.Views.{seen_node}
use Rattle.snap_copyup.specs.Copying.{copied_up, with_parents}
use Rattle.snap_copyup.specs.Places.{IsRefusal}
use Rattle.snap_copyup.proofs.ParentDirs.{parents_extend, parents_stand}
use Rattle.snap_copyup.proofs.Layers.{no_missing}
use Rattle.snap_copyup.proofs.Wholes.{refused_later}
use Rattle.snap_upper.specs.declared.op.Op.TheVariants as op
use Rattle.snap_upper.specs.After.{tests, first_error, next_layer}
use Rattle.snap_upper.proofs.KindErrors.{link_error}
use Rattle.snap_upper.proofs.Outcomes.{layer_fits}
use Rattle.snap_upper.proofs.Linked.{IsLinkable, IsLinkable-passed, name_is, way_to, below_to, same_within, out, free, own_copy, room_is}

no_bool : true ≡ false → ⊥
no_bool e = cc

none_some : {A : Type 0} {x : A} → None ≡ Some x → ⊥
none_some e = cc

-- a file or a symlink is seen, and no directory
pub name_there : (o : Option Object) → link_error o ≡ None → is_some o ≡ true
name_there None e = absurd (cc)
name_there (Some o) e = refl

pub name_no_dir : (o : Option Object) → link_error o ≡ None → is_shown_dir o ≡ false
name_no_dir None e = refl
name_no_dir (Some (dir m)) e = absurd (cc)
name_no_dir (Some (file m content)) e = refl
name_no_dir (Some (symlink target)) e = refl

-- why an earlier layer was not made is why a later one was not
pub later_refused : {A : Type 0} (r : Result A FsError) (v t : Tree) → (is_within v ≡ false → is_within t ≡ false) → IfErr r (λ e. IsRefusal v e) → IfErr r (λ e. IsRefusal t e)
later_refused (Ok x) v t full refusal = tt
later_refused (Err e) v t full refusal = refused_later e v t full refusal

module _ (u : Tree) (ls : List Tree) (from to : Names) (ok : IsLayer u) (layers : AreLayers ls) (passes : first_error (tests (op.Link from to) (u ∷ ls)) ≡ None) where
  abbrev copy : Tree
  copy = copied_up u ls from

  abbrev t : Tree
  t = with_parents (copied_up u ls from) ls to

  ready : IsLinkable (u ∷ ls) from to
  ready = IsLinkable-passed (u ∷ ls) from to passes

  pub way_last : walk_error (u ∷ ls) to ≡ None
  way_last = ready.way_to

  -- what the layer has no number for is below it
  pub lower_absent : number_at u from ≡ None → at u from ≡ None
  lower_absent none = by (at u from) refl
    where
      by : (o : Option Node) → at u from ≡ o → o ≡ None
      by None e = refl
      by (Some (Dir m b)) e = let other = sym (ap link_error (seen_node u ls from (Dir m b) e)) ∙ ready.name in absurd (cc)
      by (Some (File k)) e = absurd (none_some (sym none ∙ ap (option_and_then number_of) e))
      by (Some (Symlink k)) e = absurd (none_some (sym none ∙ ap (option_and_then number_of) e))
      by (Some Whiteout) e = let other = sym (ap link_error (seen_node u ls from Whiteout e)) ∙ ready.name in absurd (cc)

  -- the place of the name
  pub name_place : HasPlace (with_parents (copied_up u ls from) ls to) to
  name_place = record {
    clear = λ n. subst IsFree (sym (below_to u ls from to ok layers passes n [])) tt;
    above = record { below_root = not_root to from (out u ls from to ok layers passes); parent = λ q n is. parents_stand copy ls to (way_to u ls from to ok layers passes) q n is };
  }

  -- it is no name of the file yet
  pub other_number : (k : ℕ) → number_at u to ≡ Some k → ⊥
  other_number k e = none_some (sym (free_has_no_number (at u to) (free u ls from to ok layers passes)) ∙ e)

  -- the layer with the name is the one that is wanted
  pub name_made : (k : ℕ) → number_at (copied_up u ls from) from ≡ Some k → IsLayer (copied_up u ls from) → with_name (with_parents (copied_up u ls from) ls to) to (named_node k (body (copied_up u ls from) k)) ≡ next_layer (op.Link from to) u ls
  name_made k is okc =
      let node = node_with_number (at copy from) k is in
      ap (with_name t to) (name_is copy node.0 k node.2 (okc.nodes from node.0 node.1) ∙ sym ((parents_extend copy ls to (way_to u ls from to ok layers passes)).keeps from node.0 node.1))

  -- where nothing stands at the new name
  module _ (none : at u to ≡ None) where
    pub parents_full : is_within (with_parents (copied_up u ls from) ls to) ≡ false → is_within (next_layer (op.Link from to) u ls) ≡ false
    parents_full full = same_within u ls from to ok layers passes ∙ ap is_within (sym (room_is u ls from to ok layers passes none)) ∙ full

  -- ---- of a file of the layer

  module _ (k : ℕ) (number : number_at u from ≡ Some k) where
    own : copied_up u ls from ≡ u
    own = own_copy u ls from to ok layers passes k number

    pub own_name_place : HasPlace (with_parents u ls to) to
    own_name_place = subst (λ (v : Tree). HasPlace (with_parents v ls to) to) own name_place

    pub own_made : with_name (with_parents u ls to) to (named_node k (body u k)) ≡ next_layer (op.Link from to) u ls
    own_made = (λ i. with_name (with_parents (sym own i) ls to) to (named_node k (body (sym own i) k))) ∙ name_made k (ap (λ (v : Tree). number_at v from) own ∙ number) (subst IsLayer (sym own) ok)

    pub own_full : is_within (with_parents u ls to) ≡ false → is_within (next_layer (op.Link from to) u ls) ≡ false
    own_full full = by (at u to) refl
      where
        by : (o : Option Node) → at u to ≡ o → is_within (next_layer (op.Link from to) u ls) ≡ false
        by None e = parents_full e (ap (λ (v : Tree). is_within (with_parents v ls to)) own ∙ full)
        by (Some n) e = absurd (no_bool (sym (layer_fits u ok) ∙ ap is_within (sym (no_missing u ls to ok (ap is_some e))) ∙ full))

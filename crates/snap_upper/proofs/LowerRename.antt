-- A rename of a lower file: what is put once the directories above both paths are there.
use Rattle.std.proofs.Common.{◌≡◌, ◌⊎◌, true, false, List, [], ◌∷◌, ◌++◌, Some, None, is_some, sym, ap, subst, ◌∙◌}
use Rattle.snap_path.specs.Text.{Names}
use Rattle.snap_layer.specs.declared.node.Node.TheVariants.{Whiteout}
use Rattle.snap_layer.specs.declared.node.Body.{Body}
use Rattle.snap_layer.specs.Tree.{Tree, at}
use Rattle.snap_layer.specs.Counts.{is_within}
use Rattle.snap_layer.specs.Layers.{IsLayer}
use Rattle.snap_layer.specs.Edits.{HasParent, HasPlace, with_node}
use Rattle.snap_merge.specs.declared.error.FsError.{FsError}
use Rattle.snap_merge.specs.Objects.{AreLayers}
use Rattle.snap_copyup.specs.Copying.{below, object_body, with_parents}
use Rattle.snap_copyup.specs.Places.{IsRefusal}
use Rattle.snap_copyup.proofs.Alone.{below_seen, free_unseen}
use Rattle.snap_copyup.proofs.ParentDirs.{parents_stand}
use Rattle.snap_upper.specs.After.{renamed, shifted}
use Rattle.snap_upper.specs.Adding.{with_shifted}
use Rattle.snap_upper.proofs.Movable.{IsRenamable}
use Rattle.snap_upper.proofs.Prepared.{lower_no_dir}
use Rattle.snap_upper.proofs.Shifted.{either_refused, prepared_full}
use Rattle.snap_upper.proofs.EitherOrder.{bare_here}
use Rattle.snap_upper.proofs.LowerCopy.{IsLowerFile, copy_last, lower_body, ready_bare, ready_full, ready_parent, ready_seen, way_later, white_full}
use Rattle.snap_upper.proofs.ShiftedCopy.{shifted_is}

module _ (u : Tree) (ls : List Tree) (from to : Names) (ok : IsLayer u) (layers : AreLayers ls) (is : IsRenamable u ls from to) (none : at u from ≡ None) where
  abbrev w : Tree
  w = with_parents (with_parents u ls from) ls to

  lower_file : IsLowerFile u ls from to
  lower_file = record {
    way_from = is.way_from;
    way_to = is.way_to;
    lower = none;
    there = is.there;
    no_dir = lower_no_dir u ls from to ok layers is none;
    not_inside = is.not_inside;
  }

  -- ---- where the whiteout and the copy are put

  pub rename_bare : at (with_parents (with_parents u ls from) ls to) from ≡ None
  rename_bare = bare_here w from (ready_bare u ls from to ok lower_file)

  pub rename_parent : HasParent (with_parents (with_parents u ls from) ls to) from
  rename_parent = ready_parent u ls from to ok lower_file

  pub rename_place : IsLayer (with_parents (with_parents u ls from) ls to) → HasPlace (with_parents (with_parents u ls from) ls to) to
  rename_place okw = record {
    clear = λ n. free_unseen w ls (to ++ n ∷ []) okw (ap is_some (ready_seen u ls from to ok lower_file (to ++ n ∷ [])) ∙ is.clear n);
    above = record { below_root = is.not_root; parent = λ q n e. parents_stand (with_parents u ls from) ls to (way_later u ls from to ok lower_file) q n e };
  }

  -- ---- the layer with both

  abbrev copy : Body
  copy = (lower_body u ls from to ok lower_file).0

  copy_below : object_body (below (with_parents (with_parents u ls from) ls to) ls from) ≡ Some copy
  copy_below = (lower_body u ls from to ok lower_file).1

  leaves : is_some (below u ls from) ≡ true
  leaves = sym (ap is_some (below_seen u ls from none)) ∙ is.there

  rename_is : IsLayer (with_parents (with_parents u ls from) ls to) → with_shifted (with_parents (with_parents u ls from) ls to) from to copy ≡ renamed u ls from to
  rename_is okw =
      sym (shifted_is w from to okw rename_bare is.not_inside is.not_around copy (is_some (below u ls to)))
      ∙ (λ i. shifted (sym (copy_last u ls from to ok lower_file) i) from to (sym leaves i) (is_some (below u ls to)))

  -- what is put there, or why it isn't, is so for the rename
  module _ (y : Tree) (same : y ≡ with_parents (with_parents u ls from) ls to) (oky : IsLayer y) where
    copy_there : object_body (below y ls from) ≡ Some copy
    copy_there = ap (λ (z : Tree). object_body (below z ls from)) same ∙ copy_below

    copy_is : with_shifted y from to copy ≡ renamed u ls from to
    copy_is = ap (λ (z : Tree). with_shifted z from to copy) same ∙ rename_is (subst IsLayer same oky)

    pub rename_made : (t : Tree) → ((b : Body) → object_body (below y ls from) ≡ Some b → t ≡ with_shifted y from to b) → t ≡ renamed u ls from to
    rename_made t made = made copy copy_there ∙ copy_is

    pub rename_refused : (e : FsError) → ((b : Body) → object_body (below y ls from) ≡ Some b → IsRefusal (with_node y from Whiteout) e ⊎ IsRefusal (with_shifted y from to b) e) → IsRefusal (renamed u ls from to) e
    rename_refused e refusal =
        either_refused e (with_node y from Whiteout) (with_shifted y from to copy) (renamed u ls from to)
        (λ full. prepared_full u ls from to ok layers is (white_full u ls from to ok lower_file (ap (λ (z : Tree). is_within (with_node z from Whiteout)) (sym same) ∙ full)))
        copy_is (refusal copy copy_there)

  -- the directories alone pass no limit that the rename doesn't
  pub rename_full : is_within (with_parents (with_parents u ls from) ls to) ≡ false → is_within (renamed u ls from to) ≡ false
  rename_full full = prepared_full u ls from to ok layers is (ready_full u ls from to ok lower_file full)

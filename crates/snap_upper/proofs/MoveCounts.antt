-- What a layer takes after a move in it.
use Rattle.std.proofs.Common.{◌≡◌, ◌+◌, ◌≤◌, Bool, true, false, List, [], ◌∷◌, ◌++◌, Option, Some, None, refl, sym, ◌∙◌, arith}
use Rattle.std.specs.Prelude.{is_some, if◌then◌else◌}
use Rattle.snap_path.specs.Text.{Names, IsPath}
use Rattle.snap_layer.specs.declared.node.Node.{Node}
use Rattle.snap_layer.specs.declared.node.Node.TheVariants.{Dir, File, Symlink, Whiteout}
use Rattle.snap_layer.specs.Tree.{Tree, at}
use Rattle.snap_layer.specs.Counts.{inode_count, block_count, is_within}
use Rattle.snap_layer.specs.Layers.{IsLayer}
use Rattle.snap_layer.specs.Edits.{with_moved, with_opaque, without}
use Rattle.snap_layer.proofs.Moves.{most_moved}
use Rattle.snap_layer.proofs.Moving.{moved_becomes}
use Rattle.snap_layer.proofs.Setting.{dir_meta, dir_stays}
use Rattle.snap_usage.specs.declared.usage.Usage.{Usage}
use Rattle.snap_merge.specs.Objects.{AreLayers}
use Rattle.snap_copyup.specs.Copying.{below}
use Rattle.snap_copyup.proofs.Alone.{free_unseen}
use Rattle.snap_upper.specs.After.{before_move, renamed, shifted}
use Rattle.snap_upper.specs.Adding.{IsPlaceable, IsNext}
use Rattle.snap_upper.proofs.Most.{most_before_move, most_renamed}
use Rattle.snap_upper.proofs.Outcomes.{few_from}
use Rattle.snap_upper.proofs.Movable.{IsRenamable}
use Rattle.snap_upper.proofs.Prepared.{lower_no_dir, prepared_movable}
use Rattle.snap_upper.proofs.PreparedCounts.{prepared_layer}
use Rattle.snap_upper.proofs.Shifted.{last_from, prepared_full, prepared_sorted, shifted_blocks, shifted_inodes, shifted_next}

-- a layer stays one where a directory becomes opaque
pub opaque_layer : (t : Tree) → IsLayer t → (p : Names) → IsLayer (with_opaque t p (at t p) true)
opaque_layer t ok p = by (at t p) refl
  where
    by : (o : Option Node) → at t p ≡ o → IsLayer (with_opaque t p o true)
    by None e = ok
    by (Some (Dir m b)) e = (dir_stays t ok p m m b true e (dir_meta t ok p m b e)).layer
    by (Some (File k)) e = ok
    by (Some (Symlink k)) e = ok
    by (Some Whiteout) e = ok

module _ (u : Tree) (ls : List Tree) (from to : Names) (ok : IsLayer u) (layers : AreLayers ls) (is : IsRenamable u ls from to) where
  pub placeable : IsPlaceable u ls from to
  placeable = record {
    way_from = is.way_from;
    way_to = is.way_to;
    there = is.there;
    lower = lower_no_dir u ls from to ok layers is;
    not_inside = is.not_inside;
    not_around = is.not_around;
    clear = λ n. free_unseen u ls (to ++ n ∷ []) ok (is.clear n);
  }

  abbrev t : Tree
  t = before_move u ls from to

  abbrev leaves : Bool
  leaves = is_some (below u ls from)

  abbrev covers : Bool
  covers = is_some (below u ls to)

  counted : inode_count (renamed u ls from to) ≡ inode_count (without (before_move u ls from to) to) + (if is_some (below u ls from) then 1 else 0)
  counted = shifted_inodes t from to (prepared_sorted u ls from to ok layers is) is.not_around leaves covers

  -- where it is within the limits, so was the layer before the move
  prepared_fits : is_within (renamed u ls from to) ≡ true → is_within (before_move u ls from to) ≡ true
  prepared_fits within = by (is_within (before_move u ls from to)) refl
    where
      no_bool : true ≡ false → ⊥
      no_bool e = cc

      by : (b : Bool) → is_within (before_move u ls from to) ≡ b → is_within (before_move u ls from to) ≡ true
      by true e = e
      by false e = absurd (no_bool (sym within ∙ prepared_full u ls from to ok layers is e))

  layer : IsPath from → IsPath to → is_within (renamed u ls from to) ≡ true → IsLayer (renamed u ls from to)
  layer path_from path_to within =
      let fits = prepared_fits within in
      let ready = prepared_layer u ls from to ok layers placeable path_from path_to (few_from t fits) (last_from t fits) in
      let few : inode_count (without (before_move u ls from to) to) + (if is_some (below u ls from) then 1 else 0) ≤ (with_moved t from to leaves).most = omega (arith, counted, few_from (renamed u ls from to) within, most_renamed u ls from to, most_before_move u ls from to, most_moved t from to leaves) in
      let movable = prepared_movable u ls from to ok layers is path_to ready in
      by covers ((moved_becomes t from to leaves (inode_count (without t to)) (inode_count (without t to) + (if leaves then 1 else 0)) ready movable refl refl).layer few)
    where
      by : (b : Bool) → IsLayer (with_moved t from to leaves) → IsLayer (shifted t from to leaves b)
      by true moved = opaque_layer (with_moved t from to leaves) moved to
      by false moved = moved

  pub renamed_next : IsPath from → IsPath to → (usage : Usage) → usage.inodes ≡ inode_count (without (before_move u ls from to) to) + (if is_some (below u ls from) then 1 else 0) → usage.blocks ≡ block_count (without (before_move u ls from to) to) → (lower : Bool) → (before_move u ls from to).next ≡ u.next + (if lower then 1 else 0) → IsNext u (renamed u ls from to) usage lower
  renamed_next path_from path_to usage inodes blocks lower number = record {
    inodes = omega (arith, inodes, counted);
    blocks = blocks ∙ sym (shifted_blocks t from to (prepared_sorted u ls from to ok layers is) is.not_around leaves covers);
    number = shifted_next t from to (prepared_sorted u ls from to ok layers is) leaves covers ∙ number;
    most = most_renamed u ls from to;
    layer = λ within. layer path_from path_to within;
  }

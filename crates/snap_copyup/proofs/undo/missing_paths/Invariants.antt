use Rattle.std.proofs.Common.{◌≡◌, ◌≤◌, ◌∷◌, List, None, take}
use Rattle.snap_layer.specs.Tree.{Tree}
use Rattle.snap_merge.specs.Walk.{walk_error}
use Rattle.snap_copyup.specs.Copying.{with_parents}
use Rattle.snap_copyup.specs.Undoing.{Undoes}
use Rattle.snap_copyup.proofs.undo.missing_paths.Given as goal

-- the directories that were found lead back to the layer with those above them
abbrev pub invariant-loop-names : goal.invariant-loop-names
invariant-loop-names l = record {
  far : l.first ≤ l.names;
  undo : (lowers : List Tree) → walk_error (l.layer ∷ lowers) l.path ≡ None → Undoes l.missing.items (with_parents l.layer lowers l.path) (with_parents l.layer lowers (take l.names l.path));
}

-- What names, put one by one, leave of a layer's saved form.
use Rattle.std.specs.Prelude.{◌≡◌, ℕ, ◌++◌, List, [], None}
use Rattle.std.specs.Map.{lookup}
use Rattle.std.specs.BTreeMap.{is_at}
use Rattle.snap_path.specs.Text.{Names}
use Rattle.snap_layer.specs.Tree.{Tree, Entries, path_cmp, at}
use Rattle.snap_layer.specs.Edits.{HasParent}
use Rattle.snap_saved.specs.Saved.{dirs_of, whiteouts_of, file_names}

-- nothing stands at the path, which lies in a directory
pub record IsFreePath (t : Tree) (p : Names) : Type 0 where
  pub none : at t p ≡ None
  pub above : HasParent t p

-- of the entries fs the number has the paths as names after those that it has of es, and all else is the same
pub record AddsNames (k : ℕ) (es fs : Entries) (ps : List Names) : Type 0 where
  pub root : lookup (is_at (path_cmp [])) fs ≡ lookup (is_at (path_cmp [])) es
  pub dirs : dirs_of fs ≡ dirs_of es
  pub whiteouts : whiteouts_of fs ≡ whiteouts_of es
  pub names : file_names k fs ≡ file_names k es ++ ps
  pub others : (j : ℕ) → (j ≡ k → ⊥) → file_names j fs ≡ file_names j es

-- How many directories above a path a layer lacks, name by name.
use Rattle.std.specs.Prelude.{ℕ, ◌+◌, [], ◌∷◌, ◌++◌, is_some, if◌then◌else◌}
use Rattle.snap_path.specs.Text.{Names}
use Rattle.snap_layer.specs.Tree.{Tree, at}

-- of the directories at the front and at the longer proper prefixes of front ++ rest this number are missing in the layer
abbrev pub missing_from : Tree → Names → Names → ℕ
missing_from t front [] = 0
missing_from t front (n ∷ rest) = (if is_some (at t front) then 0 else 1) + missing_from t (front ++ n ∷ []) rest

-- The saved form path by path.
use Rattle.std.specs.Prelude.{ℕ, List, [], Option, option_and_then}
use Rattle.std.specs.Option.{option_map_or}
use Rattle.std.specs.Ordering.{nat_cmp}
use Rattle.std.specs.Map.{lookup}
use Rattle.std.specs.BTreeMap.{is_at}
use Rattle.snap_path.specs.Text.{Names}
use Rattle.snap_layer.specs.Tree.{Tree, at, is_whiteout, has_number}
use Rattle.snap_saved.specs.declared.dir.SavedDir.{SavedDir}
use Rattle.snap_saved.specs.Saved.{dir_part, path_if}

-- the directory at a path, if there is one other than the root
abbrev pub saved_dir_at : Tree → Names → Option SavedDir
saved_dir_at t p = option_and_then (λ n. dir_part n p) (at t p)

-- the path, if a whiteout stands there
abbrev pub whiteout_at : Tree → Names → Option Names
whiteout_at t p = option_and_then (λ n. path_if (is_whiteout n) p) (at t p)

-- the path, if the file number stands there
abbrev pub saved_name_at : Tree → ℕ → Names → Option Names
saved_name_at t k p = option_and_then (λ n. path_if (has_number k n) p) (at t p)

-- the names of a number in a list of numbers with their names
abbrev pub listed_names : List (ℕ × List Names) → ℕ → List Names
listed_names m k = option_map_or (λ names. names) (lookup (is_at (nat_cmp k)) m) []

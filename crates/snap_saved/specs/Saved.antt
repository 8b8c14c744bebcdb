-- The saved form of a layer.
use Rattle.std.specs.Prelude.{ℕ, Bool, false, if◌then◌else◌, List, [], ◌∷◌, map, filter_map, Option, Some, None}
use Rattle.snap_path.specs.Text.{Names}
use Rattle.snap_layer.specs.declared.node.Meta.{Meta}
use Rattle.snap_layer.specs.declared.node.Node.{Node}
use Rattle.snap_layer.specs.declared.node.Node.TheVariants.{Dir}
use Rattle.snap_layer.specs.Tree.{Tree, Entries, Bodies, at, is_whiteout, has_number}
use Rattle.snap_saved.specs.declared.dir.SavedDir.{SavedDir}
use Rattle.snap_saved.specs.Values.{SavedFileValue, SavedValue}

-- the path of a saved directory
abbrev pub dir_path : SavedDir → Names
dir_path d = d.path

-- what stands at a path, if it is a directory other than the root
abbrev pub dir_part : Node → Names → Option SavedDir
dir_part (Dir meta opaque) (n ∷ p) = Some (record { path = n ∷ p; meta = meta; opaque = opaque })
dir_part other p = None

-- the path, where the test holds
abbrev pub path_if : Bool → Names → Option Names
path_if holds p = if holds then Some p else None

-- the directories but the root, in order of their paths
abbrev pub dirs_of : Entries → List SavedDir
dirs_of es = filter_map (λ e. dir_part e.1 e.0) es

-- the paths of the whiteouts, in order
abbrev pub whiteouts_of : Entries → List Names
whiteouts_of es = filter_map (λ e. path_if (is_whiteout e.1) e.0) es

-- the names of a file number: the paths at which it stands, in order
abbrev pub file_names : ℕ → Entries → List Names
file_names k es = filter_map (λ e. path_if (has_number k e.1) e.0) es

-- the files and symlinks in order of their numbers, each with its names
abbrev pub files_of : Entries → Bodies → List SavedFileValue
files_of es bs = map (λ b. record { number = b.0; body = b.1; names = file_names b.0 es }) bs

-- the meta of a directory
abbrev pub dir_meta : Option Node → Meta
dir_meta (Some (Dir meta opaque)) = meta
dir_meta other = record { mode = 0 }

-- its mark
abbrev pub dir_opaque : Option Node → Bool
dir_opaque (Some (Dir meta opaque)) = opaque
dir_opaque other = false

-- the saved form: all that the layer has, each thing once
abbrev pub saved : Tree → SavedValue
saved t = record {
  meta = dir_meta (at t []);
  opaque = dir_opaque (at t []);
  dirs = dirs_of t.entries;
  whiteouts = whiteouts_of t.entries;
  files = files_of t.entries t.bodies;
  next = t.next;
  most = t.most;
}

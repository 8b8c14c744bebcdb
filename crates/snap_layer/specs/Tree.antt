-- What a layer holds: its paths, the bodies of its files, the number of its next file, and the most inodes that it may have.
use Rattle.std.specs.Prelude.{◌≡◌, ℕ, Bool, true, false, ◌==◌, ◌||◌, if◌then◌else◌, List, [], ◌∷◌, ◌++◌, Option, Some, None, option_and_then}
use Rattle.std.specs.declared.cmp.Ordering.{Ordering}
use Rattle.std.specs.Ordering.{nat_cmp}
use Rattle.std.specs.Cmp.Lexicographic.{slice_cmp}
use Rattle.std.specs.Map.{lookup, keys_of}
use Rattle.std.specs.List.{filter_map}
use Rattle.std.specs.Str.{bytes_eq}
use Rattle.std.specs.BTreeMap.{is_at}
use Rattle.snap_path.specs.Text.{Names}
use Rattle.snap_layer.specs.declared.node.Node.{Node}
use Rattle.snap_layer.specs.declared.node.Node.TheVariants.{Dir, File, Symlink, Whiteout}
use Rattle.snap_layer.specs.declared.node.Body.{Body}
use Rattle.snap_layer.specs.declared.node.Body.TheVariants as body_kinds

-- paths are ordered name by name, and names by their bytes
abbrev pub path_cmp : Names → Names → Ordering
path_cmp = slice_cmp (slice_cmp nat_cmp)

-- paths with what stands there
abbrev pub Entries : Type 0
Entries = List (Names × Node)

-- file numbers with the file or the symlink
abbrev pub Bodies : Type 0
Bodies = List (ℕ × Body)

-- a layer: its entries in order of paths, its bodies in order of numbers, the number of its next file, and its most inodes
pub record Tree : Type 0 where
  pub entries : Entries
  pub bodies : Bodies
  pub next : ℕ
  pub most : ℕ

-- the node at a path, or nothing
abbrev pub at : Tree → Names → Option Node
at t p = lookup (is_at (path_cmp p)) t.entries

-- the body of a file number, or nothing
abbrev pub body : Tree → ℕ → Option Body
body t k = lookup (is_at (nat_cmp k)) t.bodies

-- a directory
abbrev pub is_dir : Node → Bool
is_dir (Dir meta opaque) = true
is_dir other = false

-- a whiteout: it hides its name in the layers below (overlayfs.rst, "whiteouts and opaque directories")
abbrev pub is_whiteout : Node → Bool
is_whiteout Whiteout = true
is_whiteout other = false

-- the file number that a node names: hard links to one file share it (link(2))
abbrev pub number_of : Node → Option ℕ
number_of (File number) = Some number
number_of (Symlink number) = Some number
number_of other = None

-- the node that names the file or symlink with the number
abbrev pub leaf_node : ℕ → Body → Node
leaf_node k (body_kinds.File meta content) = File k
leaf_node k (body_kinds.Symlink target) = Symlink k

-- a node that names the file number
abbrev pub has_number : ℕ → Node → Bool
has_number k (File number) = number == k
has_number k (Symlink number) = number == k
has_number k other = false

-- the file number at a path, or nothing
abbrev pub number_at : Tree → Names → Option ℕ
number_at t p = option_and_then number_of (at t p)

-- a directory stands there
abbrev pub IsDirAt : Option Node → Type 0
IsDirAt None = ⊥
IsDirAt (Some n) = is_dir n ≡ true

-- the name, where the path is that of the directory and one name more
abbrev pub name_below : Names → Names → Option (List ℕ)
name_below [] (n ∷ []) = Some n
name_below (d ∷ ds) (n ∷ ns) = if bytes_eq d n then name_below ds ns else None
name_below ds ns = None

-- the names in a directory, in order
abbrev pub names_below : Names → Entries → Names
names_below d es = filter_map (name_below d) (keys_of es)

-- what stands there hides what the layers below have under it: a whiteout, a non-directory, an opaque directory
abbrev pub node_hides : Option Node → Bool
node_hides None = false
node_hides (Some (Dir meta opaque)) = opaque
node_hides (Some other) = true

-- the layer hides the path front ++ rest at the front, or at a longer proper prefix
abbrev pub hides_from : Tree → Names → Names → Bool
hides_from t front [] = false
hides_from t front (n ∷ rest) = node_hides (at t front) || hides_from t (front ++ n ∷ []) rest

-- at some proper prefix of the path the layer has a whiteout, a file, a symlink or an opaque directory
abbrev pub hides : Tree → Names → Bool
hides t p = hides_from t [] p

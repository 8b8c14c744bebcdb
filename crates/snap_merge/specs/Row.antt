-- The directories of the layers that share in a path, from which what is below it is asked name by name.
use Rattle.std.specs.Prelude.{ℕ, zero, suc, Bool, false, ◌||◌, if◌then◌else◌, List, [], ◌∷◌, ◌++◌, filter, Option, Some, None, is_some, option_and_then}
use Rattle.std.specs.List.{flat_map}
use Rattle.snap_path.specs.Text.{Names}
use Rattle.snap_layer.specs.declared.node.Meta.{Meta}
use Rattle.snap_layer.specs.declared.node.Node.{Node}
use Rattle.snap_layer.specs.declared.node.Node.TheVariants.{Dir}
use Rattle.snap_layer.specs.Tree.{Tree, at, hides, node_hides, names_below}
use Rattle.snap_layer.specs.Directory.{Directory, dir_of, entry}
use Rattle.snap_merge.specs.declared.taken.Part.{Part}
use Rattle.snap_merge.specs.Listing.{put_names}
use Rattle.snap_merge.specs.Objects.{no_meta}
use Rattle.snap_merge.specs.Shares.{is_shown}
use Rattle.snap_merge.specs.Taken.{part_of, with_inside}

-- the directories in the order of the layers, the top one first; none of a layer that has none
abbrev pub Row : Type 0
Row = List (Option Directory)

-- the layer's directory at the path
abbrev pub dir_at : Tree → Names → Option Directory
dir_at t p = option_and_then (dir_of t p) (at t p)

-- the layer hides what the layers below have in the directory at the path
abbrev pub hides_inside : Tree → Names → Bool
hides_inside t p = hides t p || node_hides (at t p)

-- the directory of each layer at the path, down to the first layer that hides what is below
abbrev pub row : List Tree → Names → Row
row [] p = []
row (t ∷ ts) p = dir_at t p ∷ (if hides_inside t p then [] else row ts p)

-- what the directory has at the name
abbrev pub entry_in : Option Directory → List ℕ → Option (Node × Option Directory)
entry_in None n = None
entry_in (Some d) n = entry d n

-- the directory that an entry is
abbrev pub next_dir : Option (Node × Option Directory) → Option Directory
next_dir None = None
next_dir (Some e) = e.1

-- the entry hides what the layers below have under it
abbrev pub entry_hides : Option (Node × Option Directory) → Bool
entry_hides None = false
entry_hides (Some e) = node_hides (Some e.0)

-- the row of a name in the directory
abbrev pub row_at : Row → List ℕ → Row
row_at [] n = []
row_at (d ∷ ds) n = next_dir (entry_in d n) ∷ (if entry_hides (entry_in d n) then [] else row_at ds n)

-- something is seen at the name, over what the layers below have
abbrev pub is_seen_over : Option Directory → List ℕ → Bool → Bool
is_seen_over None n under = under
is_seen_over (Some d) n under = if is_some (at d.layer (d.path ++ n ∷ [])) then is_shown d n else under

-- something is seen at the name
abbrev pub is_seen_in : Row → List ℕ → Bool
is_seen_in [] n = false
is_seen_in (d ∷ ds) n = is_seen_over d n (is_seen_in ds n)

-- the names that a directory has, among others
abbrev pub gathered_over : Option Directory → Names → Names
gathered_over None ns = ns
gathered_over (Some d) ns = put_names (names_below d.path d.layer.entries) ns

-- the names that the directories have, among others
abbrev pub gathered_in : Row → Names → Names
gathered_in [] ns = ns
gathered_in (d ∷ ds) ns = gathered_in ds (gathered_over d ns)

-- the names at which something is seen
abbrev pub names_in : Row → Names
names_in r = filter (is_seen_in r) (gathered_in r [])

-- what an entry of the layer at a place shows, over what the layers below show
abbrev pub part_at : ℕ → Tree → Option (Node × Option Directory) → Option Part → Option Part
part_at place t None under = under
part_at place t (Some e) under = part_of place t e.0

-- what the directory of the layer at a place shows at a name, over what the layers below show
abbrev pub part_over_dir : ℕ → Option Directory → List ℕ → Option Part → Option Part
part_over_dir place None n under = under
part_over_dir place (Some d) n under = part_at place d.layer (entry d n) under

-- what is seen at the name
abbrev pub part_in : ℕ → Row → List ℕ → Option Part
part_in place [] n = None
part_in place (d ∷ ds) n = part_over_dir place d n (part_in (suc place) ds n)

-- what is seen in the directory and below it, at this number of names in a row at the most
unfoldable pub parts_in : ℕ → Row → List Part
parts_in zero r = []
parts_in (suc k) r = flat_map (λ n. with_inside (parts_in k (row_at r n)) (part_in 0 r n)) (names_in r)

-- the meta of a node that is a directory
abbrev pub node_meta : Option Node → Meta
node_meta (Some (Dir meta opaque)) = meta
node_meta other = no_meta

-- the meta of the directory that is seen: the topmost one's
abbrev pub meta_in : Row → Meta
meta_in [] = no_meta
meta_in (None ∷ ds) = meta_in ds
meta_in (Some d ∷ ds) = node_meta (at d.layer d.path)

-- the metas of the directories that are seen there and at each of the names but the last, one in the other
abbrev pub metas_in : Row → Names → List Meta
metas_in r [] = []
metas_in r (n ∷ names) = meta_in r ∷ metas_in (row_at r n) names

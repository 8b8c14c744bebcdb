-- A directory of a layer, what it has at a name, and its names in order.
use Rattle.std.specs.Prelude.{◌≡◌, ℕ, List, ◌∷◌, ◌++◌, [], filter, Option, Some, None}
use Rattle.std.specs.Option.{option_map}
use Rattle.std.specs.Ordering.{nat_cmp}
use Rattle.std.specs.Cmp.Lexicographic.{slice_cmp}
use Rattle.std.specs.declared.ops.Bound.{Bound}
use Rattle.std.specs.declared.ops.Bound.TheVariants.{Excluded, Unbounded}
use Rattle.std.specs.BTreeMap.Range.{range_contains}
use Rattle.snap_path.specs.Text.{Names}
use Rattle.snap_layer.specs.declared.node.Node.{Node}
use Rattle.snap_layer.specs.declared.node.Node.TheVariants as node
use Rattle.snap_layer.specs.Tree.{Tree, at}

-- a directory of a layer: the layer, and the directory's path
pub record Directory : Type 0 where
  pub layer : Tree
  pub path : Names

-- the directory that a node at the path is, if it is one
abbrev pub dir_of : Tree → Names → Node → Option Directory
dir_of t p (node.Dir meta opaque) = Some (record { layer = t; path = p })
dir_of t p other = None

-- the node at a path, and the directory that it is
abbrev pub found : Tree → Names → Option (Node × Option Directory)
found t p = option_map (λ (n : Node). (n, dir_of t p n)) (at t p)

-- what a directory has at a name: the node at its path and the name
abbrev pub entry : Directory → List ℕ → Option (Node × Option Directory)
entry d n = found d.layer (d.path ++ n ∷ [])

-- the names from the bound on: names are ordered by their bytes
abbrev pub names_from : Bound (List ℕ) → Names → Names
names_from from ns = filter (range_contains (slice_cmp nat_cmp) from Unbounded) ns

-- the first of the names from the bound on, and the others come after it; or there is none
abbrev pub IsFirstName : Bound (List ℕ) → Names → Option (List ℕ) → Type 0
IsFirstName from ns None = names_from from ns ≡ []
IsFirstName from ns (Some n) = names_from from ns ≡ n ∷ names_from (Excluded n) ns

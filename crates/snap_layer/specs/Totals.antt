-- What a layer keeps beside its inodes: what it takes, and the number of its paths.
use Rattle.std.specs.Prelude.{◌≡◌, ℕ, ◌+◌, Bool, ◌&&◌, nat_le, List, [], ◌∷◌, ◌++◌}
use Rattle.std.specs.List.{sum_by}
use Rattle.std.specs.Map.{values_of}
use Rattle.snap_path.specs.Limits.{most_number}
use Rattle.snap_layer.specs.declared.node.Node.{Node}
use Rattle.snap_layer.specs.declared.totals.Totals.{Totals}
use Rattle.snap_path.specs.Text.{Names}
use Rattle.snap_layer.specs.Tree.{Tree, at}
use Rattle.snap_layer.specs.Counts.{inode_count, block_count}
use Rattle.snap_layer.specs.Layers.{IsLayer}
use Rattle.snap_layer.specs.Edits.{without, IsFree}

-- one for each path
abbrev pub path_count : Tree → ℕ
path_count t = sum_by (λ (n : Node). 1) (values_of t.entries)

-- the inodes, the blocks and the paths are those of the layer
pub record Counts (v : Totals) (t : Tree) : Type 0 where
  pub inodes : v.inodes ≡ inode_count t
  pub blocks : v.blocks ≡ block_count t
  pub paths : v.paths ≡ path_count t

-- so it is, of a table that is a layer
abbrev pub IsCounted : Totals → Tree → Type 0
IsCounted v t = Counts v t × IsLayer t

-- nothing but whiteouts stands below the path
abbrev pub IsClear : Tree → Names → Type 0
IsClear t p = (n : List ℕ) → IsFree (at t (p ++ n ∷ []))

-- these numbers and inodes fit in place of what stands at the path
abbrev pub fits : Tree → Names → ℕ → ℕ → Bool
fits t p numbers inodes = nat_le (inode_count (without t p) + inodes) t.most && nat_le (t.next + numbers) most_number

-- what a layer takes with these inodes and blocks in place of what stands at the path; each inode has a path
pub record IsRoom (v : Totals) (t : Tree) (p : Names) (i b : ℕ) : Type 0 where
  pub inodes : v.inodes ≡ inode_count (without t p) + i
  pub blocks : v.blocks ≡ block_count (without t p) + b
  pub paths : v.paths ≡ path_count (without t p) + i

-- What is true of each layer.
use Rattle.std.specs.Prelude.{◌≡◌, ℕ, ◌<◌, ◌≤◌, Bool, true, not, ◌==◌, ◌&&◌, nat_lt, nat_le, List, [], ◌∷◌, ◌++◌, length, Option, Some, None, IsSome}
use Rattle.std.specs.Ordering.{nat_cmp}
use Rattle.std.specs.List.{list_any}
use Rattle.std.specs.List.Sorted.{IsStrictlySortedBy}
use Rattle.std.specs.Map.{keys_of}
use Rattle.snap_path.specs.Limits.{most_mode, most_number, most_target_bytes}
use Rattle.snap_path.specs.Text.{Names, IsPath}
use Rattle.snap_layer.specs.declared.node.Meta.{Meta}
use Rattle.snap_layer.specs.declared.node.Node.{Node}
use Rattle.snap_layer.specs.declared.node.Node.TheVariants.{Dir, File, Symlink, Whiteout}
use Rattle.snap_layer.specs.declared.node.Body.{Body}
use Rattle.snap_layer.specs.declared.node.Body.TheVariants as body_kinds
use Rattle.snap_layer.specs.Tree.{Tree, path_cmp, at, body, number_at, IsDirAt}
use Rattle.snap_layer.specs.Counts.{inode_count, most_inodes}
use Rattle.snap_layer.specs.Contents.{IsContent}

-- a symlink's target: 1 to 4095 bytes without NUL (symlink(2), PATH_MAX)
abbrev pub is_target : List ℕ → Bool
is_target bs = nat_lt 0 (length bs) && nat_le (length bs) most_target_bytes && not (list_any (λ b. b == 0) bs)

-- what a directory or a file may have: its mode is at most octal 7777
abbrev pub IsMeta : Meta → Type 0
IsMeta meta = meta.mode ≤ most_mode

-- a file: its meta is one, and its content is within its limits
abbrev pub IsFile : Option Body → Type 0
IsFile None = ⊥
IsFile (Some (body_kinds.File meta content)) = IsMeta meta × IsContent content
IsFile (Some (body_kinds.Symlink target)) = ⊥

-- a symlink with a target
abbrev pub IsSymlink : Option Body → Type 0
IsSymlink None = ⊥
IsSymlink (Some (body_kinds.File meta content)) = ⊥
IsSymlink (Some (body_kinds.Symlink target)) = is_target target ≡ true

-- a body that may stand in a layer: a file within its limits, or a symlink with a target
abbrev pub IsBody : Body → Type 0
IsBody (body_kinds.File meta content) = IsMeta meta × IsContent content
IsBody (body_kinds.Symlink target) = is_target target ≡ true

-- a node that may stand in the layer: a directory's meta is one, and a name has its body
abbrev pub IsWhole : Tree → Node → Type 0
IsWhole t (Dir meta opaque) = IsMeta meta
IsWhole t (File number) = IsFile (body t number)
IsWhole t (Symlink number) = IsSymlink (body t number)
IsWhole t Whiteout = Unit {0}

-- what is true of each layer
pub record IsLayer (t : Tree) : Type 0 where
  -- the root is a directory, and each entry lies in a directory of the layer
  pub root : IsDirAt (at t [])
  pub parents : (p : Names) (n : List ℕ) → IsSome (at t (p ++ n ∷ [])) → IsDirAt (at t p)
  -- each path is one, each node is whole, and each body has a name
  pub paths : (p : Names) → IsSome (at t p) → IsPath p
  pub nodes : (p : Names) (n : Node) → at t p ≡ Some n → IsWhole t n
  pub named : (k : ℕ) → IsSome (body t k) → (p : Names) × (number_at t p ≡ Some k)
  -- file numbers are 1 to 4,294,967,294 and below the next one; there are no more inodes than the layer may have
  pub numbers : (k : ℕ) → IsSome (body t k) → (1 ≤ k) × (k < t.next)
  pub next : (1 ≤ t.next) × (t.next ≤ most_number)
  pub few : inode_count t ≤ t.most
  pub most : (1 ≤ t.most) × (t.most ≤ most_inodes)
  -- both lists rise, so each path and each number stands once
  pub sorted_paths : IsStrictlySortedBy path_cmp (keys_of t.entries)
  pub sorted_numbers : IsStrictlySortedBy nat_cmp (keys_of t.bodies)

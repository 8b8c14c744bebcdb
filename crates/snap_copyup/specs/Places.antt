-- What is put at a path, once the directories above it stand.
use Rattle.std.specs.Prelude.{◌≡◌, ◌⊎◌, ℕ, ◌+◌, ◌<◌, ◌≤◌, true, false, List, [], ◌∷◌, ◌++◌, length, take, Option, Some, None, is_some}
use Rattle.snap_path.specs.Memory.{no_memory}
use Rattle.snap_path.specs.Text.{Names}
use Rattle.snap_layer.specs.declared.node.Node.{Node}
use Rattle.snap_layer.specs.declared.node.Node.TheVariants as node
use Rattle.snap_layer.specs.declared.node.Body.TheVariants as body_kinds
use Rattle.snap_layer.specs.Tree.{Tree, at, IsDirAt}
use Rattle.snap_layer.specs.Contents.{IsContent}
use Rattle.snap_layer.specs.Counts.{inode_count, block_count, is_within}
use Rattle.snap_layer.specs.Layers.{is_target, IsMeta}
use Rattle.snap_layer.specs.Edits.{with_entry, with_new, with_node, IsFree}
use Rattle.snap_merge.specs.Objects.{Object, dir, file, symlink}
use Rattle.snap_merge.specs.declared.error.FsError.{FsError}
use Rattle.snap_merge.specs.declared.error.FsError.TheVariants.{LayerFull, OutOfMemory}
use Rattle.snap_copyup.specs.declared.parents.Last.{Last}
use Rattle.snap_copyup.specs.declared.parents.Last.TheVariants.{Nothing, Dir, File, Symlink, Whiteout}

-- the layer with it: a directory, a file or a symlink with the next number, or a whiteout
abbrev pub with_last : Last → Tree → Names → Tree
with_last Nothing t p = t
with_last (Dir meta opaque) t p = with_entry t p (node.Dir meta opaque)
with_last (File meta content) t p = with_new t p (node.File t.next) (body_kinds.File meta content)
with_last (Symlink target) t p = with_new t p (node.Symlink t.next) (body_kinds.Symlink target)
with_last Whiteout t p = with_node t p node.Whiteout

-- the path is not the root, and nothing or a whiteout stands there
pub record IsFreePlace (t : Tree) (p : Names) : Type 0 where
  pub below_root : p ≡ [] → ⊥
  pub free : IsFree (at t p)

-- it may be put at the path: there is a place, and its meta, content or target is within the limits of a layer
abbrev pub CanStand : Last → Tree → Names → Type 0
CanStand Nothing t p = Unit {0}
CanStand (Dir meta opaque) t p = IsFreePlace t p × IsMeta meta
CanStand (File meta content) t p = IsFreePlace t p × IsMeta meta × IsContent content
CanStand (Symlink target) t p = IsFreePlace t p × (is_target target ≡ true)
CanStand Whiteout t p = IsFreePlace t p

-- why a next layer was not made: it would pass the limits of a layer, or memory was refused
abbrev pub IsRefusal : Tree → FsError → Type 0
IsRefusal t e = (e ≡ OutOfMemory no_memory) ⊎ ((e ≡ LayerFull) × (is_within t ≡ false))

-- the second layer takes this number of inodes more than the first, and as many blocks
abbrev pub TakesMore : ℕ → Tree → Tree → Type 0
TakesMore n u t = (inode_count t ≡ inode_count u + n) × (block_count t ≡ block_count u + n)

-- the layer has a node at the first n paths above the path, from the root on, and at no other one above it
pub record StandsAbove (t : Tree) (p : Names) (n : ℕ) : Type 0 where
  pub few : n ≤ length p
  pub there : (k : ℕ) → k < n → is_some (at t (take k p)) ≡ true
  pub end : n < length p → at t (take n p) ≡ None

-- the path's parent, if there is one, is a directory of the layer
abbrev pub ParentStands : Tree → Names → Type 0
ParentStands t p = (q : Names) (n : List ℕ) → p ≡ q ++ n ∷ [] → IsDirAt (at t q)

-- what a copy-up puts at a path: what is below, where the layer has no node
abbrev pub last_of : Option Node → Option Object → Last
last_of (Some n) under = Nothing
last_of None None = Nothing
last_of None (Some (dir meta)) = Dir meta false
last_of None (Some (file meta content)) = File meta content
last_of None (Some (symlink target)) = Symlink target

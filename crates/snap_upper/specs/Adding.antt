-- What is added to a layer, and what it takes.
use Rattle.std.specs.Prelude.{◌≡◌, ◌==◌, ◌+◌, [], ◌∷◌, ◌++◌, if◌then◌else◌, ℕ, List, Bool, true, false, Option, Some, None, is_some}
use Rattle.snap_path.specs.Text.{Names, begins}
use Rattle.snap_layer.specs.declared.node.Node.TheVariants as node
use Rattle.snap_layer.specs.declared.node.Body.{Body}
use Rattle.snap_layer.specs.Contents.{size_of}
use Rattle.snap_layer.specs.Counts.{blocks_of, body_blocks, name_count, inode_count, block_count, is_within}
use Rattle.snap_layer.specs.Tree.{Tree, at, body, leaf_node}
use Rattle.snap_layer.specs.Layers.{IsLayer}
use Rattle.snap_layer.specs.Edits.{with_new, with_node, IsFree}
use Rattle.snap_usage.specs.declared.usage.Usage.{Usage}
use Rattle.snap_merge.specs.Objects.{Object, dir, file, symlink, seen, is_shown_dir}
use Rattle.snap_merge.specs.Walk.{walk_error}
use Rattle.snap_copyup.specs.declared.parents.Last.{Last}
use Rattle.snap_copyup.specs.declared.parents.Last.TheVariants.{Nothing, Dir, File, Symlink, Whiteout}

-- it takes an inode, these blocks, and the next file number or none
abbrev pub Takes : Last → ℕ → Bool → Type 0
Takes Nothing blocks numbered = ⊥
Takes (Dir meta opaque) blocks numbered = (blocks ≡ 1) × (numbered ≡ false)
Takes (File meta content) blocks numbered = (blocks ≡ blocks_of (size_of content)) × (numbered ≡ true)
Takes (Symlink target) blocks numbered = (blocks ≡ 0) × (numbered ≡ true)
Takes Whiteout blocks numbered = (blocks ≡ 0) × (numbered ≡ false)

-- the blocks of a body, and none of no body
abbrev pub weight_of : Option Body → ℕ
weight_of None = 0
weight_of (Some b) = body_blocks b

-- the blocks that go with one name of a file number: those of its body, where it has no other name (link(2), unlink(2))
abbrev pub last_blocks : Tree → ℕ → ℕ
last_blocks t k = if name_count k t.entries == 1 then weight_of (body t k) else 0

-- the blocks of what is copied up: one of a directory, those of a file, and none of a symlink
abbrev pub object_blocks : Option Object → ℕ
object_blocks None = 0
object_blocks (Some (dir meta)) = 1
object_blocks (Some (file meta content)) = blocks_of (size_of content)
object_blocks (Some (symlink target)) = 0

-- what is seen at `from` can get the path `to`: neither path lies at or below the other, what is copied up is no directory, and in `to` there are whiteouts alone
pub record IsPlaceable (u : Tree) (ls : List Tree) (from to : Names) : Type 0 where
  pub way_from : walk_error (u ∷ ls) from ≡ None
  pub way_to : walk_error (u ∷ ls) to ≡ None
  pub there : is_some (seen (u ∷ ls) from) ≡ true
  pub lower : at u from ≡ None → is_shown_dir (seen (u ∷ ls) from) ≡ false
  pub not_inside : begins from to ≡ false
  pub not_around : begins to from ≡ false
  pub clear : (n : List ℕ) → IsFree (at u (to ++ n ∷ []))

-- the next layer t of u takes this usage, with one file number more or none and the same most inodes, and it is a layer where it is within the limits
pub record IsNext (u t : Tree) (usage : Usage) (numbered : Bool) : Type 0 where
  pub inodes : usage.inodes ≡ inode_count t
  pub blocks : usage.blocks ≡ block_count t
  pub number : t.next ≡ u.next + (if numbered then 1 else 0)
  pub most : t.most ≡ u.most
  pub layer : is_within t ≡ true → IsLayer t

-- the layer with a whiteout at `from`, and with a new file or symlink in place of what stands at `to`
abbrev pub with_shifted : Tree → Names → Names → Body → Tree
with_shifted t from to b = with_new (with_node t from node.Whiteout) to (leaf_node t.next b) b

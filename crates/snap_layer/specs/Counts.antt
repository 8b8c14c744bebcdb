-- How much a layer takes: its inodes, and its blocks of 4096 bytes.
use Rattle.std.specs.Prelude.{ℕ, ◌+◌, ◌-◌, ◌/◌, Bool, ◌&&◌, nat_le, length, count_by}
use Rattle.std.specs.Map.{values_of}
use Rattle.std.specs.List.{sum_by}
use Rattle.snap_path.specs.Limits.{block_bytes, most_number, most_sized_bytes}
use Rattle.snap_layer.specs.declared.node.Body.{Body}
use Rattle.snap_layer.specs.declared.node.Body.TheVariants.{File, Symlink}
use Rattle.snap_layer.specs.Contents.{size_of}
use Rattle.snap_layer.specs.Tree.{Tree, Entries, is_dir, is_whiteout, has_number}

-- the paths that are directories
abbrev pub dir_count : Tree → ℕ
dir_count t = count_by is_dir (values_of t.entries)

-- the paths that are whiteouts
abbrev pub whiteout_count : Tree → ℕ
whiteout_count t = count_by is_whiteout (values_of t.entries)

-- the names of a file number: its link count (stat(2), st_nlink)
abbrev pub name_count : ℕ → Entries → ℕ
name_count k es = count_by (has_number k) (values_of es)

-- an inode for each directory, each whiteout, and each file or symlink however many names it has
abbrev pub inode_count : Tree → ℕ
inode_count t = dir_count t + whiteout_count t + length t.bodies

-- the blocks of a number of bytes, the last one counted whole
abbrev pub blocks_of : ℕ → ℕ
blocks_of size = (size + (block_bytes - 1)) / block_bytes

-- the blocks of the greatest file
abbrev pub most_file_blocks : ℕ
most_file_blocks = blocks_of most_sized_bytes

-- the blocks of a file, and none of a symlink
abbrev pub body_blocks : Body → ℕ
body_blocks (File meta content) = blocks_of (size_of content)
body_blocks (Symlink target) = 0

-- a block for each directory, and those of each file however many names it has
abbrev pub block_count : Tree → ℕ
block_count t = dir_count t + sum_by body_blocks (values_of t.bodies)

-- the most inodes of a layer where nothing else is asked
abbrev pub default_inodes : ℕ
default_inodes = 65536

-- the most that may be asked
abbrev pub most_inodes : ℕ
most_inodes = 16777216

-- at most the layer's most inodes, and the last file number not passed
abbrev pub is_within : Tree → Bool
is_within t = nat_le (inode_count t) t.most && nat_le t.next most_number

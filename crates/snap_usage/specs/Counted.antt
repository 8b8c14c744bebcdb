-- What a layer takes, counted over its paths.
use Rattle.std.specs.Prelude.{ℕ, ◌+◌, ◌≤◌, ◌==◌, if◌then◌else◌, Bool, nat_le, ◌&&◌, List, [], ◌∷◌, ◌++◌, length, codes}
use Rattle.std.specs.Fmt.{decimal}
use Rattle.std.specs.List.{list_any, filter_map, sum_by}
use Rattle.std.specs.Option.{option_map_or}
use Rattle.std.specs.Map.{values_of}
use Rattle.snap_layer.specs.Tree.{Tree, Entries, number_of, body}
use Rattle.snap_layer.specs.Counts.{dir_count, whiteout_count, body_blocks}
use Rattle.snap_usage.specs.declared.usage.Usage.{Usage}

-- the file numbers that the paths have, one for each name
abbrev pub numbers_of : Entries → List ℕ
numbers_of es = filter_map number_of (values_of es)

-- the numbers of a list, each once
abbrev pub distinct : List ℕ → List ℕ
distinct [] = []
distinct (k ∷ ks) = if list_any (λ j. j == k) ks then distinct ks else k ∷ distinct ks

-- an inode for each directory, each whiteout and each file number; a block for each directory, and those of each file number's body
abbrev pub count_of : Tree → Usage
count_of t =
    let files = distinct (numbers_of t.entries) in
    record { blocks = dir_count t + sum_by (λ k. option_map_or body_blocks (body t k) 0) files; inodes = dir_count t + whiteout_count t + length files }

-- no blocks and no inodes
abbrev pub no_usage : Usage
no_usage = record { blocks = 0; inodes = 0 }

-- whether the first is at least the second in both quantities
abbrev pub covers : Usage → Usage → Bool
covers a b = nat_le b.blocks a.blocks && nat_le b.inodes a.inodes

-- at least as much of both quantities
pub record Covers (a b : Usage) : Type 0 where
  pub blocks : b.blocks ≤ a.blocks
  pub inodes : b.inodes ≤ a.inodes

-- the blocks, a slash and the inodes
abbrev pub usage_text : Usage → List ℕ
usage_text u = decimal u.blocks ++ codes "/" ++ decimal u.inodes

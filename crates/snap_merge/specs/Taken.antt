-- What is taken by what is seen at and below a path (du(1)).
use Rattle.std.specs.Prelude.{ℕ, zero, suc, ◌+◌, min, if◌then◌else◌, List, [], ◌∷◌, ◌++◌, length, Option, Some, None, Result, Ok, Err}
use Rattle.std.specs.declared.cmp.Ordering.{Ordering}
use Rattle.std.specs.Ordering.{nat_cmp, ordering_then}
use Rattle.std.specs.BTreeSet.{insert_key}
use Rattle.std.specs.List.{flat_map, sum_by}
use Rattle.std.specs.Option.{option_map_or}
use Rattle.snap_path.specs.Text.{Names}
use Rattle.snap_layer.specs.declared.node.Node.{Node}
use Rattle.snap_layer.specs.declared.node.Node.TheVariants.{Dir, File, Symlink, Whiteout}
use Rattle.snap_layer.specs.Tree.{Tree, at, body, hides}
use Rattle.snap_layer.specs.Counts.{body_blocks}
use Rattle.snap_usage.specs.declared.usage.Usage.{Usage}
use Rattle.snap_merge.specs.declared.error.FsError.{FsError}
use Rattle.snap_merge.specs.declared.error.FsError.TheVariants.{NotFound}
use Rattle.snap_merge.specs.declared.taken.FileAt.{FileAt}
use Rattle.snap_merge.specs.declared.taken.Part.{Part}
use Rattle.snap_merge.specs.declared.taken.Part.TheVariants as parts
use Rattle.snap_merge.specs.Objects.{Object, seen}
use Rattle.snap_merge.specs.Listing.{names}
use Rattle.snap_merge.specs.Walk.{walk_error, unless}

-- the file or symlink that has the number in the layer at a place from the top, with its blocks
abbrev pub file_at : ℕ → Tree → ℕ → Part
file_at place t number = parts.File (record { place = place; number = number; blocks = option_map_or body_blocks (body t number) 0 })

-- what a layer's node shows; a whiteout shows nothing
abbrev pub part_of : ℕ → Tree → Node → Option Part
part_of place t (Dir meta opaque) = Some parts.Dir
part_of place t (File number) = Some (file_at place t number)
part_of place t (Symlink number) = Some (file_at place t number)
part_of place t Whiteout = None

-- a layer's node at the path over what the layers below show there, as in `seen_over`
abbrev pub part_over : ℕ → Tree → Option Node → Names → Option Part → Option Part
part_over place t None p under = if hides t p then None else under
part_over place t (Some n) p under = part_of place t n

-- what the layers show at a path, the top one first, which has the place; as in `seen`, and which layer has it
abbrev pub part : ℕ → List Tree → Names → Option Part
part place [] p = None
part place (t ∷ ts) p = part_over place t (at t p) p (part (suc place) ts p)

-- a directory with what is in it, or a file or a symlink alone
abbrev pub with_inside : List Part → Option Part → List Part
with_inside inside None = []
with_inside inside (Some parts.Dir) = parts.Dir ∷ inside
with_inside inside (Some (parts.File f)) = parts.File f ∷ []

-- what is seen at the path and below it, at this number of names in a row at the most
unfoldable pub parts_below : ℕ → List Tree → Names → List Part
parts_below zero s p = []
parts_below (suc n) s p = with_inside (flat_map (λ name. parts_below n s (p ++ name ∷ [])) (names s p)) (part 0 s p)

-- in order of places and of numbers there
abbrev pub file_cmp : FileAt → FileAt → Ordering
file_cmp a b = ordering_then (ordering_then (nat_cmp a.place b.place) (nat_cmp a.number b.number)) (nat_cmp a.blocks b.blocks)

-- the files and symlinks, each once however many of its names are seen, and these others
abbrev pub files : List Part → List FileAt → List FileAt
files [] found = found
files (parts.Dir ∷ ps) found = files ps found
files (parts.File f ∷ ps) found = files ps (insert_key file_cmp found f)

-- the directories
abbrev pub dirs : List Part → ℕ
dirs [] = 0
dirs (parts.Dir ∷ ps) = suc (dirs ps)
dirs (parts.File f ∷ ps) = dirs ps

-- the number, or the largest of 64 bits, which no store comes to
abbrev pub capped : ℕ → ℕ
capped n = min n 18446744073709551615

-- a block and an inode for each directory, an inode for each file and each symlink, and the blocks of each file
abbrev pub usage_of_parts : List Part → Usage
usage_of_parts ps = record { blocks = capped (dirs ps + sum_by (λ f. f.blocks) (files ps [])); inodes = capped (dirs ps + length (files ps [])) }

-- what is seen at a path, or why nothing is counted; a path has at most 2,047 names (PATH_MAX)
abbrev pub taken_of : List Tree → Names → Option Object → Result Usage FsError
taken_of s p None = Err NotFound
taken_of s p (Some o) = Ok (usage_of_parts (parts_below 2048 s p))

-- the walk's error, or what is taken at and below the path, or that nothing is seen there
abbrev pub disk_usage : List Tree → Names → Result Usage FsError
disk_usage s p = unless (walk_error s p) (taken_of s p (seen s p))

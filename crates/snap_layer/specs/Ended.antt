-- The files that end with the entries of a directory.
use Rattle.std.specs.Prelude.{◌≡◌, ◌<◌, ℕ, Bool, ◌==◌, filter, List, Option, Some, None, if◌then◌else◌}
use Rattle.std.specs.Option.{unwrap_or}
use Rattle.std.specs.Ordering.{nat_cmp}
use Rattle.std.specs.Map.{lookup}
use Rattle.std.specs.BTreeMap.{is_at}
use Rattle.snap_layer.specs.declared.node.Node.{Node}
use Rattle.snap_layer.specs.declared.node.Body.{Body}
use Rattle.snap_layer.specs.Tree.{Tree, Entries, Bodies, body, number_of}
use Rattle.snap_layer.specs.Counts.{name_count, body_blocks}

-- all names of the file number are among the entries
abbrev pub has_all : Tree → Entries → ℕ → Bool
has_all t es k = name_count k es == name_count k t.entries

-- the bodies that have all their names among the entries
abbrev pub ended_in : Tree → Entries → Bodies
ended_in t es = filter (λ b. has_all t es b.0) t.bodies

-- an inode and the blocks of a body, and none of no body
abbrev pub body_totals : Option Body → ℕ × ℕ
body_totals None = (0, 0)
body_totals (Some b) = (1, body_blocks b)

-- what ends with a name of the number, where all names of it are among the entries
abbrev pub ended_number : Tree → Option ℕ → Entries → ℕ × ℕ
ended_number t None es = (0, 0)
ended_number t (Some k) es = if has_all t es k then body_totals (body t k) else (0, 0)

-- the inode and the blocks that end with the node, the last of the entries
abbrev pub ended : Tree → Node → Entries → ℕ × ℕ
ended t n es = ended_number t (number_of n) es

-- how many names of the file number have come, by the counts
abbrev pub met_of : List (ℕ × ℕ) → ℕ → ℕ
met_of met k = unwrap_or (lookup (is_at (nat_cmp k)) met) 0

-- the counts of the files with several names are those of their names among the entries
abbrev pub AreMet : Tree → Entries → List (ℕ × ℕ) → Type 0
AreMet t es met = (k : ℕ) → 1 < name_count k t.entries → met_of met k ≡ name_count k es

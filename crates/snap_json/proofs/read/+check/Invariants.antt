use Rattle.std.proofs.Common.{◌≡◌, ℕ, ◌+◌, ◌*◌, ◌≤◌, length}
use Rattle.json.specs.Json.{items, members, value, parse_map}
use Rattle.serde_json.specs.Data.{Items, Members, no_members}
use Rattle.serde_json.specs.Read.{of_items, of_members, converted}
use Rattle.snap_json.proofs.read.+check.Given as goal

abbrev pub decreases-check : goal.decreases-check
decreases-check l = 2 * l.depth

abbrev pub decreases-check_items : goal.decreases-check_items
decreases-check_items l = 2 * l.depth + 1

abbrev pub decreases-check_members : goal.decreases-check_members
decreases-check_members l = 2 * l.depth + 1

abbrev pub invariant-check_items-items : goal.invariant-check_items-items
invariant-check_items-items l =
    (n : ℕ) × (length l.reader ≤ n)
    × (before : Items → Items) × (converted of_items (items (value l.depth) (length l.initial.reader) l.initial.reader) ≡ parse_map before (converted of_items (items (value l.depth) n l.reader)))
    × (length l.reader ≤ length l.initial.reader)

abbrev pub decreases-check_items-items : goal.decreases-check_items-items
decreases-check_items-items l = length l.reader

abbrev pub invariant-check_members-members : goal.invariant-check_members-members
invariant-check_members-members l =
    (n : ℕ) × (length l.reader ≤ n)
    × (old : Members) × (converted (λ ms. of_members ms no_members) (members (value l.depth) (length l.initial.reader) l.initial.reader) ≡ converted (λ ms. of_members ms old) (members (value l.depth) n l.reader))
    × (length l.reader ≤ length l.initial.reader)

abbrev pub decreases-check_members-members : goal.decreases-check_members-members
decreases-check_members-members l = length l.reader

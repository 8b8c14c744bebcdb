use Rattle.std.proofs.Common.{◌≡◌, ℕ, ◌≤◌, length}
use Rattle.json.specs.Json.{members, value}
use Rattle.serde_json.specs.Data.{Members, no_members}
use Rattle.serde_json.specs.Read.{of_members, converted}
use Rattle.snap_json.specs.Shallow.{is_one_of, shallow_members}
use Rattle.snap_json.specs.View.{members_view}
use Rattle.snap_json.proofs.shallow.read_shallow_members.Given as goal

abbrev pub invariant-members : goal.invariant-members
invariant-members l =
    (n : ℕ) × (length l.reader ≤ n)
    × (old : Members) × (converted (λ ms. of_members ms no_members) (members (value 126) (length l.initial.reader) l.initial.reader) ≡ converted (λ ms. of_members ms old) (members (value 126) n l.reader))
    × (shallow_members (is_one_of l.whole) old ≡ members_view l.found.items)

abbrev pub decreases-members : goal.decreases-members
decreases-members l = length l.reader

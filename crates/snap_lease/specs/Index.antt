-- The counts that `Leases` keeps beside its list: how many leases of a namespace have a name.
use Rattle.std.specs.Prelude.{◌≡◌, ℕ, ◌+◌, ◌-◌, Bool, List, count_by, ◌&&◌, if◌then◌else◌}
use Rattle.snap_counts.specs.Counts.{count_within}
use Rattle.snap_lease.specs.Lease.{Lease}
use Rattle.snap_lease.specs.Leases.{guards, naming_count}

-- what contracts see of counts in namespaces
abbrev pub NameCounts : Type 0
NameCounts = List (List ℕ × List (List ℕ × ℕ))

-- each count is the number of the namespace's leases that have the name
abbrev pub AreNameCounts : List Lease → NameCounts → Type 0
AreNameCounts ls counts = (space name : List ℕ) → count_within space name counts ≡ naming_count ls space name

-- no count changes
abbrev pub IsSame : NameCounts → NameCounts → Type 0
IsSame before after = (space name : List ℕ) → count_within space name after ≡ count_within space name before

-- one lease changes, and what it had counts once less, what it has once more
abbrev pub IsRecounted : Lease → Lease → NameCounts → NameCounts → Type 0
IsRecounted old new before after = (space name : List ℕ) → count_within space name after + (if guards space name old then 1 else 0) ≡ count_within space name before + (if guards space name new then 1 else 0)

-- what the lease has counts once less
abbrev pub IsUncounted : Lease → NameCounts → NameCounts → Type 0
IsUncounted l before after = (space name : List ℕ) → count_within space name after ≡ count_within space name before - (if guards space name l then 1 else 0)

-- what the leases that pass the test have counts less by their number
abbrev pub AreUncounted : (Lease → Bool) → List Lease → NameCounts → NameCounts → Type 0
AreUncounted test ls before after = (space name : List ℕ) → count_within space name after ≡ count_within space name before - count_by (λ l. test l && guards space name l) ls

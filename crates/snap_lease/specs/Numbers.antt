-- How `Leases` keeps the leases: by numbers that rise in the order of creation, with an index of these numbers.
use Rattle.std.specs.Prelude.{◌≡◌, ◌≢◌, ℕ, ◌+◌, ◌-◌, Bool, List, length, slice_get, IfSome, [], ◌∷◌, Option, None, Some, String, string_bytes, bytes_eq, cond, ◌&&◌, option_and_then}
use Rattle.std.specs.BTreeMap.{BTreeMap, btree_map_len, get_by_text}
use Rattle.std.specs.List.{list_any}
use Rattle.std.specs.Map.{lookup}
use Rattle.std.specs.Option.{option_map_or}
use Rattle.snap_counts.specs.Counts.{by_bytes}
use Rattle.snap_lease.specs.Lease.{Lease, is_lease}

-- an index: the names of each namespace's leases, with their numbers
abbrev pub LeaseIndex : Type 0
LeaseIndex = List (List ℕ × List (List ℕ × ℕ))

-- the entries of a map of maps, with the keys as their bytes
abbrev pub index_of : {Z : Type 0} → List (String Z × BTreeMap (String Z) ℕ) → LeaseIndex
index_of [] = []
index_of (e ∷ es) = (string_bytes e.0, by_bytes e.1.entries) ∷ index_of es

-- no namespace stands there without a lease
abbrev pub HasNoBareNamespace : {Z : Type 0} → BTreeMap (String Z) (BTreeMap (String Z) ℕ) → Type 0
HasNoBareNamespace map = (space : List ℕ) → IfSome (get_by_text map space) (λ names. btree_map_len names ≢ 0)

-- the number of the namespace's lease of this name, as the index has it
abbrev pub number_in : List ℕ → List ℕ → LeaseIndex → Option ℕ
number_in space name index = option_and_then (lookup (bytes_eq name)) (lookup (bytes_eq space) index)

-- as the leases have it
abbrev pub lease_number : List ℕ → List ℕ → List (ℕ × Lease) → Option ℕ
lease_number space name [] = None
lease_number space name (e ∷ es) = cond (is_lease space name e.1) (Some e.0) (lease_number space name es)

-- the index has the number of each lease, and no other
abbrev pub AreNumbers : List (ℕ × Lease) → LeaseIndex → Type 0
AreNumbers es index = (space name : List ℕ) → number_in space name index ≡ lease_number space name es

-- the number of the next lease: one above the last, and 0 where there is none
abbrev pub next_number : List (ℕ × Lease) → ℕ
next_number es = option_map_or (λ e. e.0 + 1) (slice_get es (length es - 1)) 0

-- the leases that pass the test have no number afterwards, and all others have theirs
abbrev pub AreUnnumbered : (Lease → Bool) → List Lease → LeaseIndex → LeaseIndex → Type 0
AreUnnumbered test ls before after = (space name : List ℕ) → number_in space name after ≡ cond (list_any (λ l. test l && is_lease space name l) ls) None (number_in space name before)

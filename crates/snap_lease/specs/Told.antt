-- What is told of leases.
use Rattle.std.specs.Prelude.{ℕ, List, Option, map, filter, find}
use Rattle.std.specs.Option.{option_map}
use Rattle.snap_lease.specs.Lease.{Lease, is_of, is_lease}

-- a lease as one of a namespace: its name, its last moment, if it has one, and the snapshots that it names, in order
pub record ToldLease : Type 0 where
  pub name : List ℕ
  pub until : Option ℕ
  pub names : List (List ℕ)

-- what is told of the lease
abbrev pub told : Lease → ToldLease
told l = record { name = l.name; until = l.until; names = l.names }

-- of each of the namespace's leases, in the order in which they were created
abbrev pub told_leases : List Lease → List ℕ → List ToldLease
told_leases ls namespace = map told (filter (is_of namespace) ls)

-- of the namespace's lease of this name, if there is one
abbrev pub told_lease : List Lease → List ℕ → List ℕ → Option ToldLease
told_lease ls namespace lease = option_map told (find (is_lease namespace lease) ls)

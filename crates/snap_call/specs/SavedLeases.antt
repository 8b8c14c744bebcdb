-- A lease as it is saved, and a state that it is put back into. Saved leases come in their order, and after the snapshots that they name.
use Rattle.std.specs.Prelude.{ℕ, List, [], ◌∷◌, ◌++◌, Result, Ok, Err}
use Rattle.std.specs.Option.{is_some, option_map_or}
use Rattle.snap_lease.specs.Lease.{Lease, empty_lease}
use Rattle.snap_lease.specs.Leases.{has_lease, lease_names, with_name_added}
use Rattle.snap_record.specs.Labels.{Bytes}
use Rattle.snap_call.specs.declared.refusal.Refusal.{Refusal}
use Rattle.snap_call.specs.declared.refusal.Refusal.TheVariants.{BadArgument, LeaseExists, NoNamespace, NotCommitted, NotFound}
use Rattle.snap_call.specs.declared.saved_lease.SavedLease.{SavedLease}
use Rattle.snap_call.specs.declared.state.State.{State}
use Rattle.snap_call.specs.Forms.{is_key}
use Rattle.snap_call.specs.Records.{committed_at, has_key}
use Rattle.snap_call.specs.Results.{◌>>=◌}
use Rattle.snap_call.specs.Saved.{tests_answer}
use Rattle.snap_call.specs.State.{place_of}
use Rattle.snap_call.specs.Step.{must, must_not, tested}

-- the lease
abbrev pub lease_of : SavedLease → Lease
lease_of saved = record { namespace = saved.namespace; name = saved.name; until = saved.until; names = saved.names }

-- the state with these leases; no entry is counted
abbrev pub with_leases : State → List Lease → State
with_leases s ls = record s { leases = ls }

-- ---- its names

-- the name is a committed snapshot's of the namespace at the place, and the lease doesn't have it yet
abbrev pub name_answer : State → ℕ → Lease → Bytes → Result Unit Refusal
name_answer s place l name = tests_answer (must (has_key place name s.records) NotFound ∷ must (is_some (committed_at place name s.records)) NotCommitted ∷ must_not (lease_names s.leases l.namespace l.name name) BadArgument ∷ [])

-- the state with one more name of the lease, or the first refusal
abbrev pub put_lease_name : State → ℕ → Lease → Bytes → Result State Refusal
put_lease_name s place l name = do
  answer ← name_answer s place l name
  Ok (with_leases s (with_name_added s.leases l.namespace l.name name))

-- with one after another
abbrev pub put_lease_names : State → ℕ → Lease → List Bytes → Result State Refusal
put_lease_names s place l [] = Ok s
put_lease_names s place l (name ∷ names) = put_lease_name s place l name >>= (λ t. put_lease_names t place l names)

-- ---- the lease

-- the place of its namespace, or the first refusal of the lease
abbrev pub lease_place : State → Lease → Result ℕ Refusal
lease_place s l =
    tested Err (must (is_key l.name) BadArgument ∷ []) (option_map_or (λ place. tested Err (must_not (has_lease s.leases l.namespace l.name) LeaseExists ∷ []) (Ok place)) (place_of l.namespace s.namespaces) (Err NoNamespace))

-- the leases with it as the last one, which has no name yet
abbrev pub with_empty_lease : List Lease → Lease → List Lease
with_empty_lease ls l = ls ++ empty_lease l.namespace l.name l.until ∷ []

-- the state with the lease put back, as its last one, or the first refusal
abbrev pub put_lease : State → Lease → Result State Refusal
put_lease s l = do
  place ← lease_place s l
  put_lease_names (with_leases s (with_empty_lease s.leases l)) place l l.names

-- with one after another
abbrev pub put_leases : State → List Lease → Result State Refusal
put_leases s [] = Ok s
put_leases s (l ∷ ls) = put_lease s l >>= (λ t. put_leases t ls)

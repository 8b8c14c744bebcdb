-- What a saved snapshot that is put back gives its writer, and where a saved lease stands that is put back.
use Rattle.std.specs.Prelude.{◌≡◌, ℕ, true, Option, Some}
use Rattle.std.specs.Option.{option_map}
use Rattle.snap_ledger.specs.States.{ShareState}
use Rattle.snap_lease.specs.Lease.{Lease}
use Rattle.snap_lease.specs.Leases.{has_lease}
use Rattle.snap_record.specs.Records.{usage_of}
use Rattle.snap_record.specs.declared.record.Record.{Record}
use Rattle.snap_call.specs.declared.state.State.{State}
use Rattle.snap_call.specs.Indexes.{slot_of}
use Rattle.snap_call.specs.State.{place_of}

-- the share of the record's slot, where it is active
abbrev pub saved_share : Record → Option ShareState
saved_share r = option_map (λ slot. record { slot = slot; id = r.id; usage = usage_of r.content }) (slot_of r.content)

-- the lease is there, and its namespace is the one at the place
pub record HasLeaseAt (s : State) (place : ℕ) (l : Lease) : Type 0 where
  pub named : place_of l.namespace s.namespaces ≡ Some place
  pub there : has_lease s.leases l.namespace l.name ≡ true

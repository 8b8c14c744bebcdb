-- What is compared of a namespace, of a snapshot and of a lease; cited by the public clauses of `check_log` and `check_saved` at `Space`.
use Rattle.std.specs.Prelude.{ℕ, map}
use Rattle.snap_usage.specs.declared.usage.Usage.{Usage}
use Rattle.snap_lease.specs.Told.{ToldLease, told_leases}
use Rattle.snap_record.specs.Labels.{Bytes}
use Rattle.snap_record.specs.Records.{kind_of, usage_of}
use Rattle.snap_record.specs.declared.record.Record.{Record}
use Rattle.snap_call.specs.State.{limit_at}
use Rattle.snap_world.specs.World.{WorldValue}
use Rattle.snap_durable.specs.Holdings.{records_at}
use Rattle.snap_durable.specs.declared.picture.Snapshot.{Snapshot}
use Rattle.snap_durable.specs.declared.picture.Space.{Space}

-- a snapshot with its key
abbrev pub snapshot_entry : Record → Bytes × Snapshot
snapshot_entry r = (r.key, record { kind = kind_of r.content; parent = r.parent; labels = r.labels; usage = usage_of r.content })

-- a lease with its name
abbrev pub lease_entry : ToldLease → Bytes × ToldLease
lease_entry l = (l.name, l)

-- what the store has of the namespace of this name, which stands at the place and is charged this
abbrev pub space_at : WorldValue → Bytes → ℕ → Usage → Space
space_at w name place charged = record {
  charged = charged;
  limit = limit_at place w.state.namespaces;
  snapshots = map snapshot_entry (records_at place w.state.records);
  leases = map lease_entry (told_leases w.state.leases name);
}

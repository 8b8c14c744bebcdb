-- What a snapshot's record says of it.
use Rattle.snap_usage.specs.declared.usage.Usage.{Usage}
use Rattle.snap_usage.specs.Counted.{no_usage}
use Rattle.snap_record.specs.declared.info.Info.{Info}
use Rattle.snap_record.specs.declared.kind.Kind.{Kind}
use Rattle.snap_record.specs.declared.kind.Kind.TheVariants as kinds
use Rattle.snap_record.specs.declared.record.Content.{Content}
use Rattle.snap_record.specs.declared.record.Content.TheVariants.{View, Active, Committed}
use Rattle.snap_record.specs.declared.record.Record.{Record}

-- the kind of snapshot that holds it (containerd's snapshots.Kind)
abbrev pub kind_of : Content → Kind
kind_of (View layers) = kinds.View
kind_of (Active slot charged) = kinds.Active
kind_of (Committed layer usage) = kinds.Committed

-- what the namespace is charged for it: the charged usage while it is active, the stored usage once it is committed
abbrev pub usage_of : Content → Usage
usage_of (View layers) = no_usage
usage_of (Active slot charged) = charged
usage_of (Committed layer usage) = usage

-- what can be asked of the snapshot (containerd's snapshots.Info)
abbrev pub info_of : Record → Info
info_of r = record { kind = kind_of r.content; name = r.key; parent = r.parent; labels = r.labels; created = r.created; updated = r.updated; id = r.id }

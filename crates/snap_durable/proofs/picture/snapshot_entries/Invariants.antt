use Rattle.std.proofs.Common.{◌≡◌, map, take}
use Rattle.snap_durable.specs.Pictures.{snapshot_entry}
use Rattle.snap_durable.proofs.picture.snapshot_entries.Given as goal

abbrev pub invariant-loop-record : goal.invariant-loop-record
invariant-loop-record l = l.entries ≡ map snapshot_entry (map (λ r. r.now) (take l.record-index l.records))

use Rattle.std.proofs.Common.{◌≡◌, map, string_bytes, take}
use Rattle.snap_lease.proofs.entry.LeaseEntry.copy_names.Given as goal

abbrev pub invariant-loop-name : goal.invariant-loop-name
invariant-loop-name l = map string_bytes l.names.items ≡ map string_bytes (take l.name-index l.name-items)

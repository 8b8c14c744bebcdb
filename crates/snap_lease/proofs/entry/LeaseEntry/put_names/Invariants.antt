use Rattle.std.proofs.Common.{◌≡◌, ◌||◌, List, ℕ, map, string_bytes, take}
use Rattle.snap_lease.specs.Live.{is_among}
use Rattle.snap_lease.proofs.entry.LeaseEntry.put_names.Given as goal

abbrev pub invariant-loop-name : goal.invariant-loop-name
invariant-loop-name l = (name : List ℕ) → is_among name l.set ≡ (is_among name l.initial.set || is_among name (map string_bytes (take l.name-index l.name-items)))

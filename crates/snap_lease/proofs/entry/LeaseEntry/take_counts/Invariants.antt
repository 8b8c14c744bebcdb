use Rattle.std.proofs.Common.{◌≡◌, ◌-◌, ◌&&◌, List, ℕ, bytes_eq, map, string_bytes, take}
use Rattle.snap_counts.specs.Counts.{count_within}
use Rattle.snap_lease.specs.Live.{is_among}
use Rattle.snap_lease.proofs.IndexLemmas.{one_if}
use Rattle.snap_lease.proofs.entry.LeaseEntry.take_counts.Given as goal

abbrev pub invariant-loop-name : goal.invariant-loop-name
invariant-loop-name l = (space q : List ℕ) → count_within space q l.counts ≡ count_within space q l.initial.counts - one_if (bytes_eq space l.namespace && is_among q (map string_bytes (take l.name-index l.name-items)))

use Rattle.std.proofs.Common.{◌≡◌, map, take}
use Rattle.std.specs.Map.Iter.{deref}
use Rattle.snap_call.specs.Spaces.{joined_records}
use Rattle.snap_call.proofs.records.Records.held.Given as goal

abbrev pub invariant-loop-space : goal.invariant-loop-space
invariant-loop-space l = map deref l.list.items ≡ joined_records (take l.space-index l.space-items)

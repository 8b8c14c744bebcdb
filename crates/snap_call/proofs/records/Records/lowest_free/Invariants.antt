use Rattle.std.proofs.Common.{◌≡◌, ◌-◌, None}
use Rattle.snap_call.specs.Records.{lowest_free}
use Rattle.snap_call.proofs.records.Records.lowest_free.Given as goal

abbrev pub invariant-loop-slot : goal.invariant-loop-slot
invariant-loop-slot l = lowest_free l.slot l.self ≡ None

abbrev pub decreases-loop-slot : goal.decreases-loop-slot
decreases-loop-slot l = l.slots - l.slot

use Rattle.std.proofs.Common.{◌≡◌, map}
use Rattle.snap_durable.specs.Pictures.{lease_entry}
use Rattle.snap_durable.proofs.picture.lease_entries.Given as goal

abbrev pub invariant-loop-lease : goal.invariant-loop-lease
invariant-loop-lease l = l.entries ≡ map lease_entry l.yielded

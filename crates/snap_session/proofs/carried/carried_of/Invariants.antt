use Rattle.std.proofs.Common.{◌≡◌}
use Rattle.snap_session.specs.Carried.{carried_below}
use Rattle.snap_session.proofs.carried.carried_of.Given as goal

abbrev pub invariant-loop-slot : goal.invariant-loop-slot
invariant-loop-slot l = l.found ≡ carried_below l.slot l.state.namespaces l.state.records

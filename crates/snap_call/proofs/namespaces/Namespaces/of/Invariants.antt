use Rattle.std.proofs.Common.{take}
use Rattle.snap_call.specs.Namespaces.{ArePlaces}
use Rattle.snap_call.proofs.namespaces.Namespaces.of.Given as goal

abbrev pub invariant-loop-place : goal.invariant-loop-place
invariant-loop-place l = ArePlaces l.places (take l.place l.fn.list)

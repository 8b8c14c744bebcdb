use Rattle.std.proofs.Common.{◌≡◌}
use Rattle.snap_world.specs.Sums.{spare_in, hand_sum_below}
use Rattle.snap_world.proofs.hands.Hands.spares.Given as goal

abbrev pub invariant-loop-slot : goal.invariant-loop-slot
invariant-loop-slot g l = l.sum ≡ hand_sum_below spare_in l.place l.self l.slot

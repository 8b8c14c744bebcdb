use Rattle.std.proofs.Common.{length}
use Rattle.snap_layer.proofs.Above.{above}
use Rattle.snap_usage.proofs.Above.{Left}
use Rattle.snap_usage.proofs.usage.recount.Given as goal

-- what is counted, and what the bodies above `after` add, is what the layer takes
abbrev pub invariant-loop-number : goal.invariant-loop-number
invariant-loop-number l = Left l.layer l.usage l.after

abbrev pub decreases-loop-number : goal.decreases-loop-number
decreases-loop-number l = length (above l.after l.layer.bodies)

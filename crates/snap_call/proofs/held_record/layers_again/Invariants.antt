use Rattle.std.proofs.Common.{◌≡◌, take}
use Rattle.snap_call.proofs.held_record.layers_again.Given as goal

-- the layers so far
abbrev pub invariant-loop-layer : goal.invariant-loop-layer
invariant-loop-layer l = l.same.items ≡ take l.layer-index l.layers

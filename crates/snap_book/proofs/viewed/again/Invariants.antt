use Rattle.std.proofs.Common.{◌≡◌, take}
use Rattle.snap_book.proofs.viewed.again.Given as goal

abbrev pub invariant-loop-layer : goal.invariant-loop-layer
invariant-loop-layer l = l.same ≡ take l.layer-index l.layers

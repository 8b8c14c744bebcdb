use Rattle.std.proofs.Common.{vec_len}
use Rattle.snap_world.proofs.hands.Hands.discard_all.Given as goal

abbrev pub decreases-loop-place : goal.decreases-loop-place
decreases-loop-place g l = vec_len l.list

use Rattle.std.proofs.Common.{vec_len}
use Rattle.test_stores.proofs.stores.discard_all.Given as goal

abbrev pub decreases-loop-active : goal.decreases-loop-active
decreases-loop-active g l = vec_len l.held

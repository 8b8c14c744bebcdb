use Rattle.std.proofs.Common.{length}
use Rattle.snap_layer.proofs.chain.+put_dirs.Given as goal

-- the names that are left
abbrev pub decreases-put_dirs : goal.decreases-put_dirs
decreases-put_dirs l = length l.names.now

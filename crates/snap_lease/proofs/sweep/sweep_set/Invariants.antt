use Rattle.snap_lease.proofs.Walks.{IsMidSweep}
use Rattle.snap_lease.proofs.sweep.sweep_set.Given as goal

abbrev pub invariant-loop-place : goal.invariant-loop-place
invariant-loop-place l = IsMidSweep l.parents l.roots l.swept.items l.place

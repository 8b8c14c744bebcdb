use Rattle.std.proofs.Common.{count_by}
use Rattle.snap_lease.proofs.Walks.{IsMidWalk}
use Rattle.snap_lease.proofs.sweep.take_out_walk.Given as goal

abbrev pub invariant-loop-next : goal.invariant-loop-next
invariant-loop-next l = IsMidWalk l.parents l.initial.swept l.swept l.root l.next

abbrev pub decreases-loop-next : goal.decreases-loop-next
decreases-loop-next l = count_by (λ b. b) l.swept

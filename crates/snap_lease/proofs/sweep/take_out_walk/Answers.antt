use Rattle.std.proofs.Common.{subst}
use Rattle.snap_lease.proofs.Walks.{IsMidWalk, walk_steps}
use Rattle.snap_lease.proofs.sweep.take_out_walk.Goals as goal

pub loop-next-preserved : goal.loop-next-preserved
loop-next-preserved c =
    walk_steps c.args.parents.now c.args.swept.now c.args.root c.loop-next.swept c.in-Some.place c.requires.within
    (subst (IsMidWalk c.args.parents.now c.args.swept.now c.loop-next.swept c.args.root) c.in-Some.is c.loop-next.invariant)

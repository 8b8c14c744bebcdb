use Rattle.std.proofs.Common.{◌≡◌, ◌+◌, length, length-append, arith, sym, subst}
use Rattle.snap_writers.specs.Starting.{IsAssigned}
use Rattle.snap_writers.proofs.Every.{each_more}
use Rattle.snap_writers.proofs.assignment.assignments.Goals as goal

pub loop-place-preserved : goal.loop-place-preserved
loop-place-preserved c =
    let was = c.loop-place.invariant in
    let p = c.in_ok-push.ensures.items in
    let more : length c.push.new.self.items ≡ length c.loop-place.all.items + 1 = rw p (length-append _ _) in
    record {
      count = omega (arith, more, was.count);
      each = rw p (each_more _ _ _ was.each (subst (λ k. IsAssigned c.args.jobs.now (k + 1) c.args.workers c.in_ok-of.field-0) (sym was.count) c.in_ok-of.ensures));
    }

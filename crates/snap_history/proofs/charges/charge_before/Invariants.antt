use Rattle.std.proofs.Common.{◌≡◌, ◌≤◌, length, take}
use Rattle.snap_history.specs.Changes.{charge_before}
use Rattle.snap_history.proofs.charges.charge_before.Given as goal

-- the changes that are left lead from this charge to the one before all
abbrev pub invariant-loop-left : goal.invariant-loop-left
invariant-loop-left l = record {
  low : l.left ≤ length l.changes;
  same : charge_before l.charge (take l.left l.changes) ≡ charge_before l.fn.now l.changes;
}

abbrev pub decreases-loop-left : goal.decreases-loop-left
decreases-loop-left l = l.left

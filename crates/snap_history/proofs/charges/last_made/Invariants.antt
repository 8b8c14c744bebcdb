use Rattle.std.proofs.Common.{◌≡◌, ◌≤◌, None, drop, length}
use Rattle.snap_history.specs.History.{last_made}
use Rattle.snap_history.proofs.charges.last_made.Given as goal

-- none of the entries from here on makes the namespace
abbrev pub invariant-loop-left : goal.invariant-loop-left
invariant-loop-left l = record {
  low : l.left ≤ length l.entries;
  none : last_made l.name (drop l.left l.entries) ≡ None;
}

abbrev pub decreases-loop-left : goal.decreases-loop-left
decreases-loop-left l = l.left

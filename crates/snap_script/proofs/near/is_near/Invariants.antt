use Rattle.std.proofs.Common.{◌≡◌, length}
use Rattle.snap_script.specs.Near.{is_near}
use Rattle.snap_script.proofs.near.is_near.Given as goal

abbrev pub invariant-loop-text : goal.invariant-loop-text
invariant-loop-text l = is_near l.text l.other ≡ is_near l.fn.text l.fn.other

abbrev pub decreases-loop-text : goal.decreases-loop-text
decreases-loop-text l = length l.text

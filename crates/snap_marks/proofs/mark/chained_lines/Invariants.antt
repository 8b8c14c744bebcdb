use Rattle.std.proofs.Common.{◌≡◌, [], ◌-◌, ◌≤◌, length, take, drop}
use Rattle.snap_marks.specs.Marks.{chained_from}
use Rattle.snap_marks.proofs.mark.chained_lines.Given as goal

abbrev pub invariant-bytes : goal.invariant-bytes
invariant-bytes l = (l.from ≤ l.at) × (l.at ≤ length l.lines) × (chained_from l.next (take (l.at - l.from) (drop l.from l.lines)) (drop l.at l.lines) ≡ chained_from l.sum [] l.lines)

abbrev pub decreases-bytes : goal.decreases-bytes
decreases-bytes l = length l.lines - l.at

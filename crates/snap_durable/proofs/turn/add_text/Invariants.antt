use Rattle.std.proofs.Common.{◌≡◌, ◌≤◌, ◌-◌, ◌++◌, length, drop}
use Rattle.snap_durable.proofs.turn.add_text.Given as goal

abbrev pub invariant-lines : goal.invariant-lines
invariant-lines l = (l.from ≤ length l.text) × (l.lines ++ drop l.from l.text ≡ l.initial.lines ++ l.text)

abbrev pub decreases-lines : goal.decreases-lines
decreases-lines l = length l.text - l.from

use Rattle.std.proofs.Common.{◌≡◌, ◌+◌}
use Rattle.snap_layer.proofs.totals.paths_with.Given as goal

-- one more for each that was passed
abbrev pub invariant-loop : goal.invariant-loop
invariant-loop l = l.paths ≡ l.fn.paths + l.counter

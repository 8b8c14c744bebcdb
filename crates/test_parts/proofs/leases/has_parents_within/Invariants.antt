use Rattle.std.proofs.Common.{◌≡◌, ◌<◌, ℕ, None, Some, get_or, length}
use Rattle.test_parts.proofs.leases.has_parents_within.Given as goal

abbrev pub invariant-loop-parent : goal.invariant-loop-parent
invariant-loop-parent l = (k p : ℕ) → k < l.parent-index → get_or l.parents k None ≡ Some p → p < length l.parents

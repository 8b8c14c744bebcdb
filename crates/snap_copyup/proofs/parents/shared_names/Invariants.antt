use Rattle.std.proofs.Common.{◌≡◌, take}
use Rattle.snap_copyup.proofs.parents.shared_names.Given as goal

-- both begin with the names that were compared
abbrev pub invariant-loop-names : goal.invariant-loop-names
invariant-loop-names l = take l.names l.one ≡ take l.names l.other

use Rattle.std.proofs.Common.{◌≡◌, ◌++◌}
use Rattle.snap_merge.proofs.row.names_in.Given as goal

-- the names so far, and those that are left
abbrev pub invariant-loop-name : goal.invariant-loop-name
invariant-loop-name l = l.names.items ++ l.name-iterator ≡ l.initial.name-iterator

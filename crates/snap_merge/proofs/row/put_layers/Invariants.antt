use Rattle.std.proofs.Common.{◌≡◌, ◌++◌, drop}
use Rattle.snap_merge.specs.Row.{row}
use Rattle.snap_merge.proofs.row.put_layers.Given as goal

-- the directories so far, and those of the layers that are left
abbrev pub invariant-loop-shared : goal.invariant-loop-shared
invariant-loop-shared l = l.rows.items ++ row (drop l.shared-index l.lowers) l.names ≡ l.fn.rows.items ++ row l.lowers l.names

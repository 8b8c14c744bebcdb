use Rattle.std.proofs.Common.{◌≡◌, ◌++◌, drop}
use Rattle.snap_merge.specs.Row.{row_at}
use Rattle.snap_merge.proofs.row.put_row.Given as goal

-- the directories so far, and those that are left
abbrev pub invariant-loop-dir : goal.invariant-loop-dir
invariant-loop-dir l = l.rows.items ++ row_at (drop l.dir-index l.row) l.name ≡ l.fn.rows.items ++ row_at l.row l.name

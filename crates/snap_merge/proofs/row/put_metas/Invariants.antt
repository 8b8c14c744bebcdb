use Rattle.std.proofs.Common.{◌≡◌, ◌++◌, drop}
use Rattle.snap_merge.specs.Row.{metas_in}
use Rattle.snap_merge.proofs.row.put_metas.Given as goal

-- the metas so far, and those that are left
abbrev pub invariant-loop-name : goal.invariant-loop-name
invariant-loop-name l = l.metas.items ++ metas_in l.row.items (drop l.name-index l.names) ≡ l.fn.metas.items ++ metas_in l.fn.row.items l.names

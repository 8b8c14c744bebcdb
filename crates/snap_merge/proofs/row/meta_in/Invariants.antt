use Rattle.std.proofs.Common.{◌≡◌, drop}
use Rattle.snap_merge.specs.Row.{meta_in}
use Rattle.snap_merge.proofs.row.meta_in.Given as goal

-- the directories that are left have the meta of all
abbrev pub invariant-loop-dir : goal.invariant-loop-dir
invariant-loop-dir l = meta_in (drop l.dir-index l.row) ≡ meta_in l.row

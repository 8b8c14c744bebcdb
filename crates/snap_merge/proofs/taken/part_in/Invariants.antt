use Rattle.std.proofs.Common.{◌≡◌, drop}
use Rattle.snap_merge.specs.Row.{part_in}
use Rattle.snap_merge.proofs.taken.part_in.Given as goal

-- the directories that are left show what all show
abbrev pub invariant-loop-dir : goal.invariant-loop-dir
invariant-loop-dir l = record {
  place : l.place ≡ l.dir-index;
  shows : part_in l.place (drop l.dir-index l.row) l.name ≡ part_in 0 l.row l.name;
}

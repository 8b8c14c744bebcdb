use Rattle.std.proofs.Common.{◌≡◌, ◌+◌, drop}
use Rattle.snap_merge.specs.Taken.{part}
use Rattle.snap_merge.proofs.taken.part_below.Given as goal

-- the layers that are left show what all show
abbrev pub invariant-loop-shared : goal.invariant-loop-shared
invariant-loop-shared l = record {
  place : l.place ≡ l.fn.place + l.shared-index;
  shows : part l.place (drop l.shared-index l.lowers) l.path ≡ part l.fn.place l.lowers l.path;
}

use Rattle.std.proofs.Common.{◌≡◌, ◌≤◌, ◌+◌, drop}
use Rattle.snap_merge.specs.Taken.{capped, dirs}
use Rattle.snap_merge.proofs.taken.dirs.Given as goal

-- the directories so far, and those of the parts that are left
abbrev pub invariant-loop-part : goal.invariant-loop-part
invariant-loop-part l = record {
  fits : l.sum ≤ 18446744073709551615;
  same : capped (l.sum + dirs (drop l.part-index l.parts)) ≡ capped (dirs l.parts);
}

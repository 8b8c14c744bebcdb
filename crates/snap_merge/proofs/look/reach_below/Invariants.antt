use Rattle.std.proofs.Common.{◌≤◌, List, length, drop}
use Rattle.snap_layer.specs.Tree.{Tree}
use Rattle.snap_merge.specs.Reach.{Begun}
use Rattle.snap_merge.proofs.look.reach_below.Given as goal

-- what began with all layers goes on with those that are left
abbrev pub invariant-loop-shared : goal.invariant-loop-shared
invariant-loop-shared l = record {
  within : l.dirs ≤ length l.names;
  begun : (s : List Tree) → Begun s l.names l.fn.dirs l.lowers → Begun s l.names l.dirs (drop l.shared-index l.lowers);
}

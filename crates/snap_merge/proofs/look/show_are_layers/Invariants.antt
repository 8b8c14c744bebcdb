use Rattle.std.proofs.Common.{drop}
use Rattle.snap_merge.specs.Objects.{AreLayers}
use Rattle.snap_merge.proofs.look.show_are_layers.Given as goal

-- all are layers where those that are left are
abbrev pub invariant-loop-shared : goal.invariant-loop-shared
invariant-loop-shared l = AreLayers (drop l.shared-index l.lowers) → AreLayers l.lowers

use Rattle.std.proofs.Common.{drop}
use Rattle.snap_layer.specs.Tree.{Tree}
use Rattle.snap_copyup.specs.Undoing.{Undoes}
use Rattle.snap_copyup.proofs.undo.take_all.Given as goal

-- the paths that are left lead to the same layer
abbrev pub invariant-loop-path : goal.invariant-loop-path
invariant-loop-path l = (u : Tree) → Undoes l.paths l.initial.layer u → Undoes (drop l.path-index l.paths) l.layer u

use Rattle.std.proofs.Common.{◌-◌, ◌≤◌, length}
use Rattle.snap_layer.specs.Tree.{Tree}
use Rattle.snap_copyup.specs.Undoing.{fronts, Undoes}
use Rattle.snap_copyup.proofs.parents.take_dirs.Given as goal

-- the fronts that are left lead to the same layer
abbrev pub invariant-loop-names : goal.invariant-loop-names
invariant-loop-names l = record {
  far : l.first ≤ l.names;
  undo : (u : Tree) → Undoes (fronts l.path l.first (length l.path - l.first)) l.initial.layer u → Undoes (fronts l.path l.first (l.names - l.first)) l.layer u;
}

use Rattle.std.proofs.Common.{◌≡◌, length}
use Rattle.std.specs.Map.{keys_of}
use Rattle.snap_layer.specs.Tree.{at}
use Rattle.snap_layer.specs.Edits.{inside, without_tree}
use Rattle.snap_layer.specs.Layers.{IsLayer}
use Rattle.snap_layer.proofs.layer.Layer.take_below.Given as goal

-- the paths that are left, and what goes with all of them
abbrev pub invariant-loop-paths : goal.invariant-loop-paths
invariant-loop-paths l = record {
  paths : keys_of (inside l.path l.self.entries) ≡ l.paths.items;
  same : at l.self l.path ≡ at l.initial.self l.path;
  rest : without_tree l.self l.path ≡ without_tree l.initial.self l.path;
  layer : IsLayer l.self;
}

abbrev pub decreases-loop-paths : goal.decreases-loop-paths
decreases-loop-paths l = length l.paths.items

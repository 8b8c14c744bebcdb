use Rattle.std.proofs.Common.{ap}
use Rattle.snap_layer.specs.declared.layer.Layer.TheInside.{Inside}
use Rattle.snap_layer.proofs.layer.Layer.root_dir.Goals as goal

pub root-requires-clause-holds : goal.root-requires-clause-holds
root-requires-clause-holds c = (c.self-inside.inside.0.0.tree, ap (λ (l : Inside). l.table.entries) c.self-inside.view_is)

use Rattle.std.proofs.Common.{sym, ◌∙◌}
use Rattle.snap_layer.proofs.Dirs.{own_node}
use Rattle.snap_layer.proofs.dir.Dir.node.Goals as goal

pub returns-clause-node : goal.returns-clause-node
returns-clause-node c = own_node c.self.inside.slots.now c.self.inside.root c.self.inside.key c.self.inside.tree c.self.inside.path c.self.inside.table.now c.self.invariant.2 c.args.self.now c.self.view_is ∙ sym c.node_of.ensures.node ∙ c.in-Some.is

use Rattle.std.proofs.Common.{◌≡◌, take}
use Rattle.std.specs.Prelude.{filter_map}
use Rattle.snap_session.specs.Tree.{tree_node_of}
use Rattle.snap_session.proofs.tree.walked_page.Given as goal

abbrev pub invariant-loop-info : goal.invariant-loop-info
invariant-loop-info l = l.nodes ≡ filter_map (tree_node_of l.place l.records) (take l.info-index l.info-items)

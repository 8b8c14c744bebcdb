use Rattle.std.proofs.Common.{◌≡◌, take, map}
use Rattle.snap_session.specs.Tree.{tree_node}
use Rattle.snap_session.proofs.tree.forest.Given as goal

abbrev pub invariant-loop-record : goal.invariant-loop-record
invariant-loop-record l = l.nodes ≡ map (tree_node l.records) (map (λ r. r.now) (take l.record-index l.record-items))

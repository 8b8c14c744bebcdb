use Rattle.std.proofs.Common.{◌≡◌, take}
use Rattle.snap_durable.specs.Moved.{moving}
use Rattle.snap_durable.proofs.moved.moved_namespaces.Given as goal

abbrev pub invariant-loop-namespace : goal.invariant-loop-namespace
invariant-loop-namespace l = l.kept ≡ moving l.wanted (λ n. n.name) (take l.namespace-index l.namespaces)

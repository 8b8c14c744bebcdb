use Rattle.std.proofs.Common.{◌≡◌, take}
use Rattle.std.specs.Prelude.{filter_map}
use Rattle.snap_durable.specs.Holdings.{holding_of_place}
use Rattle.snap_durable.proofs.holding.holdings.Given as goal

abbrev pub invariant-loop-namespace : goal.invariant-loop-namespace
invariant-loop-namespace g l = l.found ≡ filter_map (holding_of_place g.H.FromNamespace.of_namespace l.world) (take l.namespace-index l.world.state.namespaces)

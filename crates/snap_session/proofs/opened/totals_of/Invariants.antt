use Rattle.std.proofs.Common.{◌≡◌, take}
use Rattle.std.specs.Prelude.{filter_map}
use Rattle.snap_session.specs.Opened.{named_total}
use Rattle.snap_session.proofs.opened.totals_of.Given as goal

abbrev pub invariant-loop-namespace : goal.invariant-loop-namespace
invariant-loop-namespace g l = l.totals ≡ filter_map (named_total l.world) (take l.namespace-index l.world.state.namespaces)

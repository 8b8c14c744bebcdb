use Rattle.std.proofs.Common.{◌≡◌, take}
use Rattle.std.specs.Prelude.{filter_map}
use Rattle.snap_session.specs.Quota.{quota_of_place}
use Rattle.snap_session.proofs.quota.quotas.Given as goal

abbrev pub invariant-loop-namespace : goal.invariant-loop-namespace
invariant-loop-namespace g l = l.found ≡ filter_map (quota_of_place l.world) (take l.namespace-index l.world.state.namespaces)

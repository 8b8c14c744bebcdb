use Rattle.std.proofs.Common.{◌≡◌, drop}
use Rattle.snap_call.specs.SavedLeases.{with_leases}
use Rattle.snap_world.specs.Restored.{put_leases_from}
use Rattle.snap_world.proofs.restoring.Restoring.put_leases.Given as goal

-- the first are there, and with the others all are
abbrev pub invariant-loop-place : goal.invariant-loop-place
invariant-loop-place g l = record {
  left : put_leases_from l.place l.self.state (drop l.place l.leases) ≡ put_leases_from 0 l.fn.self.state l.leases;
  rest : l.self ≡ record { state = with_leases l.fn.self.state l.self.state.leases; hands = l.fn.self.hands };
}

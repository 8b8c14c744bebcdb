use Rattle.std.proofs.Common.{◌≡◌, drop}
use Rattle.snap_session.specs.Commands.{all_operated}
use Rattle.snap_session.proofs.batch.operate_all.Given as goal

abbrev pub invariant-loop-place : goal.invariant-loop-place
invariant-loop-place g l = record {
  done : all_operated l.n l.namespace l.key l.slot l.id l.place (drop l.place l.ops) l.world ≡ all_operated l.n l.namespace l.key l.slot l.id 0 l.ops l.fn.world;
  opening : l.world.opening ≡ l.fn.world.opening;
}

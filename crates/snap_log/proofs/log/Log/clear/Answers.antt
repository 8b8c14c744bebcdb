use Rattle.std.proofs.Common.{[], length, sym, ap}
use Rattle.snap_log.specs.Kept.{IsDurable}
use Rattle.snap_log.proofs.GateLaws.{kept_stands, left_stands, left_opens, now_kept}
use Rattle.snap_log.proofs.log.Log.clear.Goals as goal

pub invariant_of-result : goal.invariant_of-result
invariant_of-result g c = record {
  usable = c.in-Ok.ensures.usable;
  ends = λ clean. ap length (sym (kept_stands _ _ _ c.in-Ok.ensures.kept));
  kept = λ clean. now_kept _ _ _ c.in-Ok.ensures.kept;
}

pub returns-in-Ok-clause-cleared : goal.returns-in-Ok-clause-cleared
returns-in-Ok-clause-cleared g c = λ clean.
    let is : IsDurable [] (g.D.Disk.seen c.close_gate.new.disk) (g.D.Disk.may_leave c.close_gate.new.disk) = c.in-Ok.ensures.kept in
    record { now = kept_stands _ _ _ is; crash = left_stands _ _ _ is; opens = left_opens _ _ _ is }

use Rattle.std.proofs.Common.{◌∙◌, length, sym, ap}
use Rattle.snap_log.specs.Texts.{log_text}
use Rattle.snap_log.specs.Kept.{IsDurable}
use Rattle.snap_log.proofs.GateLaws.{kept_stands, left_stands, left_opens, now_kept, opening_leaves}
use Rattle.snap_log.proofs.log.Log.open.Goals as goal

pub invariant_of-result : goal.invariant_of-result
invariant_of-result g c = record {
  usable = c.in-Ok.ensures.usable;
  ends = λ clean. c.in-Ok.ensures.end clean ∙ ap length (sym (kept_stands _ _ _ (c.in-Ok.ensures.kept clean)));
  kept = λ clean. now_kept _ _ _ (c.in-Ok.ensures.kept clean);
}

pub returns-in-Ok-clause-text : goal.returns-in-Ok-clause-text
returns-in-Ok-clause-text g c = λ clean.
    let is : IsDurable (log_text (g.D.Disk.seen c.args.disk)) (g.D.Disk.seen c.settle.new.disk) (g.D.Disk.may_leave c.settle.new.disk) = c.in-Ok.ensures.kept clean in
    record { now = kept_stands _ _ _ is; crash = left_stands _ _ _ is; opens = left_opens _ _ _ is }

pub returns-in-Err-clause-crash : goal.returns-in-Err-clause-crash
returns-in-Err-clause-crash g c = λ clean f left. opening_leaves _ f _ (c.settle.ensures.crash clean f left)

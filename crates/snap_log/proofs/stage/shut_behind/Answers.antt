use Rattle.std.proofs.Common.{List, ℕ, sym, subst, arith}
use Rattle.snap_log.specs.Kept.{IsStaged}
use Rattle.snap_log.proofs.GateLaws.{durable_torn}
use Rattle.snap_log.proofs.StageLaws.{durable_synced, shut}
use Rattle.snap_log.proofs.stage.shut_behind.Goals as goal

pub returns-in-Err-clause-kept : goal.returns-in-Err-clause-kept
returns-in-Err-clause-kept g c = λ text end is. durable_torn text _ _ _ _ _ _ (omega arith) is c.write_at.ensures.others c.write_at.ensures.crash

pub returns-in-Ok-sync-clause-kept : goal.returns-in-Ok-sync-clause-kept
returns-in-Ok-sync-clause-kept g c = λ text end is. durable_synced text _ _ _ _ (durable_torn text _ _ _ _ _ _ (omega arith) is c.write_at.ensures.others c.write_at.ensures.crash) c.sync.ensures.seen c.sync.ensures.crash

pub returns-in-Err-sync-clause-kept : goal.returns-in-Err-sync-clause-kept
returns-in-Err-sync-clause-kept g c = λ text end is. durable_synced text _ _ _ _ (durable_torn text _ _ _ _ _ _ (omega arith) is c.write_at.ensures.others c.write_at.ensures.crash) c.sync.ensures.seen c.sync.ensures.crash

pub returns-in-Ok-sync-clause-staged : goal.returns-in-Ok-sync-clause-staged
returns-in-Ok-sync-clause-staged g c = λ text rest end is long staged_is.
    subst (λ (f : List ℕ). IsStaged text rest f (g.D.Disk.may_leave c.sync.new.self)) (sym c.sync.ensures.seen)
    (record {
      lines = is.lines;
      file = shut text rest _ _ c.args.end c.args.staged end is.file c.requires.some long staged_is c.write_at.ensures.others (c.in-Ok.ensures.written (omega arith));
      durable = c.in-Ok-sync.ensures.durable;
    })

use Rattle.std.proofs.Common.{[], List, ℕ, arith, subst, sym}
use Rattle.std.proofs.lemmas.Result.{on_ok_weaker}
use Rattle.snap_log.specs.Kept.{IsDurable}
use Rattle.snap_log.proofs.ClearLaws.{cleared, closing_crash}
use Rattle.snap_log.proofs.stage.close_gate.Goals as goal

-- a crash in the write
pub returns-in_err-write_at-clause-crash : goal.returns-in_err-write_at-clause-crash
returns-in_err-write_at-clause-crash g c = λ text some is f left. closing_crash text _ _ _ some is c.write_at.ensures.crash f left

-- and in the sync
pub returns-clause-crash : goal.returns-clause-crash
returns-clause-crash g c = λ text some is f left. closing_crash text _ _ _ some is c.write_at.ensures.crash f (c.sync.ensures.crash f left)

pub returns-clause-kept : goal.returns-clause-kept
returns-clause-kept g c = on_ok_weaker _ (λ only.
    subst (λ (f : List ℕ). IsDurable [] f (g.D.Disk.may_leave c.sync.new.self)) (sym c.sync.ensures.seen)
    (cleared _ _ (c.in_ok-write_at.ensures.written (omega arith)) only)) c.sync.ensures.durable

use Rattle.std.proofs.Common.{◌∷◌, ◌++◌, List, ℕ, arith, subst, sym}
use Rattle.std.proofs.lemmas.Result.{on_ok_weaker}
use Rattle.snap_log.specs.Kept.{IsDurable}
use Rattle.snap_log.proofs.GateLaws.{gate_crash, gate_log, gate_kept}
use Rattle.snap_log.proofs.stage.open_gate.Goals as goal

-- a crash in the write
pub returns-in_err-write_at-clause-crash : goal.returns-in_err-write_at-clause-crash
returns-in_err-write_at-clause-crash g c = λ text rest end more s f left. gate_crash text rest _ _ _ end more s _ c.write_at.ensures.crash f left

pub returns-in_err-write_at-clause-opens : goal.returns-in_err-write_at-clause-opens
returns-in_err-write_at-clause-opens g c = λ text rest end more s f left. gate_log text rest _ _ _ end more s _ c.write_at.ensures.crash f left

-- and in the sync
pub returns-clause-crash : goal.returns-clause-crash
returns-clause-crash g c = λ text rest end more s f left. gate_crash text rest _ _ _ end more s _ c.write_at.ensures.crash f (c.sync.ensures.crash f left)

pub returns-clause-opens : goal.returns-clause-opens
returns-clause-opens g c = λ text rest end more s f left. gate_log text rest _ _ _ end more s _ c.write_at.ensures.crash f (c.sync.ensures.crash f left)

pub returns-clause-kept : goal.returns-clause-kept
returns-clause-kept g c = λ text rest end more s. on_ok_weaker _ (λ only.
    subst (λ (f : List ℕ). IsDurable (text ++ 123 ∷ rest) f (g.D.Disk.may_leave c.sync.new.self)) (sym c.sync.ensures.seen)
    (gate_kept text rest _ _ _ end more s _ _ c.write_at.ensures.others (c.in_ok-write_at.ensures.written (omega arith)) only)) c.sync.ensures.durable

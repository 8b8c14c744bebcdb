use Rattle.std.proofs.Common.{inl}
use Rattle.snap_log.proofs.GateLaws.{left_stands}
use Rattle.snap_durable.proofs.PartLaws.{same_text}
use Rattle.snap_durable.proofs.batch.keep.Goals as goal

pub returns-in-Err-clause-crash : goal.returns-in-Err-clause-crash
returns-in-Err-clause-crash g c = λ clean f left. inl (left_stands _ _ _ (c.args.log.kept clean) f left)

pub returns-then-not-are_there-clause-kept : goal.returns-then-not-are_there-clause-kept
returns-then-not-are_there-clause-kept g c = λ clean. same_text c.args.log clean

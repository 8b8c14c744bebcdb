use Rattle.std.proofs.Common.{[], inl, refl, sym, ◌∙◌}
use Rattle.snap_log.proofs.GateLaws.{left_stands}
use Rattle.snap_durable.proofs.PartLaws.{same_text}
use Rattle.snap_durable.proofs.logged.started.Goals as goal

pub returns-then-is_whole-clause-started : goal.returns-then-is_whole-clause-started
returns-then-is_whole-clause-started g c = record { start = []; starts = inl (sym c.is_whole.ensures ∙ c.if-is_whole.true, refl); keeps = λ clean. same_text c.args.log clean }

pub returns-then-not-rebases-clause-crash : goal.returns-then-not-rebases-clause-crash
returns-then-not-rebases-clause-crash g c = λ clean f left. inl (left_stands _ _ _ (c.args.log.kept clean) f left)

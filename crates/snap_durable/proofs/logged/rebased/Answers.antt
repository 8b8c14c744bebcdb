use Rattle.std.proofs.Common.{inl, ◌++◌, List, ℕ, subst, ◌∙◌}
use Rattle.snap_log.specs.Log.{text_in, Keeps}
use Rattle.snap_log.proofs.GateLaws.{left_stands}
use Rattle.snap_durable.proofs.logged.rebased.Goals as goal

pub returns-in-Err-clause-crash : goal.returns-in-Err-clause-crash
returns-in-Err-clause-crash g c = λ clean f left. inl (left_stands _ _ _ (c.args.log.kept clean) f left)

pub returns-in-Ok-append-clause-added : goal.returns-in-Ok-append-clause-added
returns-in-Ok-append-clause-added g c = λ clean. subst (λ (l : List ℕ). Keeps c.in-Ok-append.log (text_in c.args.log ++ l)) (c.as_slice.ensures.same ∙ c.in-Ok.ensures) (c.in-Ok-append.ensures.added clean)

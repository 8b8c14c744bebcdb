use Rattle.std.proofs.Common.{◌++◌, ℕ, List, [], ap, ◌∙◌}
use Rattle.snap_log.specs.Staged.{lines_staged}
use Rattle.snap_marks.specs.declared.sums.Sums.{Sums}
use Rattle.snap_durable.proofs.step.write_first.Goals as goal

pub returns-clause-written : goal.returns-clause-written
returns-clause-written g c = λ h.
    c.in_ok-push.ensures.pushed h
    ∙ ap (λ (t : List ℕ). lines_staged c.args.stage.now ++ t) (c.as_slice.ensures.same ∙ c.in_ok-mark.ensures.text [] (ap (λ (s : Sums). s.lines) c.new.ensures))

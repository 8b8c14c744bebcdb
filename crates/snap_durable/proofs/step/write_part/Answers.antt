use Rattle.std.proofs.Common.{◌++◌, ℕ, List, ap, ◌∙◌}
use Rattle.snap_durable.specs.Checkpoints.{saved_text}
use Rattle.snap_durable.proofs.FileLaws.{coming_part}
use Rattle.snap_durable.proofs.step.write_part.Goals as goal

pub returns-clause-coming : goal.returns-clause-coming
returns-clause-coming g c = λ v is.
    let left : List ℕ = saved_text c.fill.new.lines in
    coming_part v c.args.coming.now.stage c.push.new.self c.args.coming.now.lines c.fill.new.lines c.args.coming.now.sums c.fill.new.sums c.args.coming.now.mark c.args.coming.now.behind c.as_slice.result.now is
    c.push.ensures.clean c.in_ok-push.ensures.pushed
    (ap (λ (t : List ℕ). t ++ left) c.as_slice.ensures.same ∙ c.in_ok-fill.ensures.text ∙ ap (λ (t : List ℕ). t ++ saved_text c.args.coming.now.lines) c.new-text.ensures)
    c.in_ok-fill.ensures.sum c.in_ok-fill.ensures.told

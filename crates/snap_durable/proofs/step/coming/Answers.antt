use Rattle.std.proofs.Common.{◌≡◌, ℕ, List, [], ◌++◌, false, is_err, ap, ◌∙◌, sym, subst}
use Rattle.snap_marks.specs.declared.sums.Sums.{Sums}
use Rattle.snap_durable.specs.Checkpoints.{mark_text}
use Rattle.snap_durable.specs.Files.{IsComingBy}
use Rattle.snap_durable.proofs.FileLaws.{coming_first, on_ok}
use Rattle.snap_durable.proofs.step.coming.Goals as goal

pub returns-clause-written : goal.returns-clause-written
returns-clause-written g c = λ honest v none can.
    let fine : is_err c.write_first.result ≡ false = sym c.is_err.ensures.value ∙ c.if-is_err.false in
    let text = on_ok c.write_first.result fine c.write_first.ensures.written in
    subst (λ (b : List ℕ). IsComingBy v c.write_first.new.stage c.args.lines c.new.result c.args.mark b) (sym c.new-2.ensures)
    (subst (λ (s : Sums). IsComingBy v c.write_first.new.stage c.args.lines s c.args.mark []) (sym c.new.ensures)
    (coming_first v c.args.lines c.args.mark c.write_first.new.stage can (λ h. text h ∙ ap (λ (t : List ℕ). t ++ mark_text []) none)))

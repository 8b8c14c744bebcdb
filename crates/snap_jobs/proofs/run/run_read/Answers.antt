use Rattle.std.proofs.Common.{ℕ, List, Option, subst, sym}
use Rattle.snap_jobs.specs.Answer.{IsText, IsTextOf}
use Rattle.snap_jobs.specs.Lines.{ReadValue}
use Rattle.snap_jobs.proofs.Writing.{text_broken}
use Rattle.snap_jobs.proofs.run.run_read.Goals as goal

pub returns-in-Ok-clause-stopped : goal.returns-in-Ok-clause-stopped
returns-in-Ok-clause-stopped g c =
    let read = c.in-Some.read in
    let told = c.in-Ok.told in
    let text = c.as_str.result.now in
    let of = subst (λ (t : List ℕ). IsTextOf c.args.options read told.lacking t) (sym c.as_str.ensures.value) c.in-Ok.ensures.text in
    let is = subst (λ (r : Option ReadValue). IsText c.args.options r told.lacking text) (sym c.in-Some.is) of in
    text_broken c.args.options c.args.read told.lacking text c.in-Err-write_text.stop (g.W.Write.contents c.args.output.now) (g.W.Write.contents c.write_text.new.output) is c.in-Err-write_text.ensures.part

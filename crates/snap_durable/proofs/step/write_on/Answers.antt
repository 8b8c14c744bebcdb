use Rattle.std.proofs.Common.{◌≡◌, false, is_err, ◌∙◌, sym}
use Rattle.snap_durable.proofs.FileLaws.{on_ok}
use Rattle.snap_durable.proofs.step.write_on.Goals as goal

pub returns-clause-stand : goal.returns-clause-stand
returns-clause-stand g c = λ honest.
    let fine : is_err c.write_part.result ≡ false = sym c.is_err.ensures.value ∙ c.if-is_err.false in
    (honest.0, c.write_part.ensures.clean honest.1, λ v back is. record { back = back; written = on_ok c.write_part.result fine c.write_part.ensures.coming v is })

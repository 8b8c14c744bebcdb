use Rattle.std.proofs.Common.{◌≡◌, sym, subst, arith, true}
use Rattle.std.proofs.lemmas.Bool.Decides.{nat_tests}
use Rattle.snap_log.specs.Texts.{AreLines, is_line}
use Rattle.snap_log.proofs.TextLaws.{line_added}
use Rattle.snap_log.proofs.lines.Lines.push.Goals as goal

pub invariant_of-self : goal.invariant_of-self
invariant_of-self c =
    let is : is_line c.args.line.now ≡ true = grind (arith, nat_tests) in
    subst AreLines (sym c.in-Ok.ensures.added) (line_added _ _ c.self.invariant is)

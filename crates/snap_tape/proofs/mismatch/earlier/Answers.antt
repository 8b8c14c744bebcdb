use Rattle.std.proofs.Common.{subst}
use Rattle.snap_tape.specs.Sessions.{IsFirstMismatch}
use Rattle.snap_tape.proofs.Firsts.{of_both}
use Rattle.snap_tape.proofs.mismatch.earlier.Goals as goal

pub returns-in-Some-Some : goal.returns-in-Some-Some
returns-in-Some-Some c journal left right a b =
    c.lesser.ensures journal left right (subst (IsFirstMismatch journal left) c.in-Some-Some.is-0 a) (subst (IsFirstMismatch journal right) c.in-Some-Some.is-1 b)

pub returns-in-None-default : goal.returns-in-None-default
returns-in-None-default c journal left right a b = of_both journal left right c.args.b (subst (IsFirstMismatch journal left) c.in-None-default.is-0 a) b

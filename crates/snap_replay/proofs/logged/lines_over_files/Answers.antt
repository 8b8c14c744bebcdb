use Rattle.std.proofs.Common.{Option, None, Some, IfSome}
use Rattle.snap_replay.proofs.logged.lines_over_files.Goals as goal

each : {A : Type 0} {P Q : A → Type 0} (o : Option A) → ((a : A) → P a → Q a) → IfSome o P → IfSome o Q
each None f h = tt
each (Some a) f h = f a h

-- the files that are left are those
pub returns-in-Ok : goal.returns-in-Ok
returns-in-Ok g c = each (g.R.Read.remaining c.args.input.now) (λ bytes served. (c.in-Ok.field-0, served)) c.in-Ok.ensures.done

use Rattle.std.proofs.Common.{◌≡◌, Option, None, Some, IfSome, Result, Ok, subst}
use Rattle.std.specs.Prelude.{IfOk}
use Rattle.snap_durable.specs.Pairs.{HasServedPair}
use Rattle.snap_replay.proofs.logged.lines_over_pair.Goals as goal

each : {A : Type 0} {P Q : A → Type 0} (o : Option A) → ((a : A) → P a → Q a) → IfSome o P → IfSome o Q
each None f h = tt
each (Some a) f h = f a h

at_ok : {T E : Type 0} (P : T → Type 0) (r : Result T E) (t : T) → r ≡ Ok t → IfOk r P → P t
at_ok P r t is h = subst (λ x. IfOk x P) is h

-- the log that is left is the one
pub returns-in-Ok : goal.returns-in-Ok
returns-in-Ok g c = each (g.R.Read.remaining c.args.input.now) (λ bytes served. (c.in-Ok.field-0, served))
    (at_ok (λ log_new. IfSome (g.R.Read.remaining c.args.input.now) (λ bytes. HasServedPair c.args.rebases bytes c.args.pair (g.W.Write.contents c.args.output.now) log_new (g.W.Write.contents c.serve_pair-served.new.output)))
    c.serve_pair-served.result.served c.in-Ok.field-0 c.in-Ok.is c.serve_pair-served.ensures.done)

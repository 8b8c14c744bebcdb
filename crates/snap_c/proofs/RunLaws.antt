-- What `replay` says of its end and its text, as one fact.
use Rattle.std.proofs.Common.{◌≡◌, ℕ, List, [], Option, Some, None, Result, Ok, Err, subst}
use Rattle.std.specs.Prelude.{OnOk, IfErr, IfSome}
use Rattle.snap_lines.specs.Transcripts.{Tells}
use Rattle.snap_lines.specs.declared.stop.Stop.{Stop}
use Rattle.snap_session.specs.declared.run.RunOptions.{RunOptions}
use Rattle.snap_session.specs.Script.{script, HasStopped}
use Rattle.snap_c.specs.Run.{Ran}

run_of : (options : RunOptions) (bytes : List ℕ) (left : Option (List ℕ)) (ended : Result (Unit {0}) Stop) (text : List ℕ)
    → OnOk ended (IfSome (Some bytes) (λ all. Tells (script options all) None (Some []) (Some text)))
    → IfErr ended (λ stop. IfSome (Some bytes) (λ all. HasStopped options all left stop (Some []) (Some text)))
    → Ran options bytes ended text
run_of options bytes left (Ok done) text told stopped = told
run_of options bytes left (Err stop) text told stopped = (left, stopped)

-- the options are those that were asked for, and nothing was written before
pub ran : (options asked : RunOptions) (bytes : List ℕ) (left : Option (List ℕ)) (ended : Result (Unit {0}) Stop) (before text : List ℕ)
    → options ≡ asked → before ≡ []
    → OnOk ended (IfSome (Some bytes) (λ all. Tells (script options all) None (Some before) (Some text)))
    → IfErr ended (λ stop. IfSome (Some bytes) (λ all. HasStopped options all left stop (Some before) (Some text)))
    → Ran asked bytes ended text
ran options asked bytes left ended before text e f told stopped =
    subst (λ (o : RunOptions). Ran o bytes ended text) e (run_of options bytes left ended text
    (subst (λ (x : List ℕ). OnOk ended (IfSome (Some bytes) (λ all. Tells (script options all) None (Some x) (Some text)))) f told)
    (subst (λ (x : List ℕ). IfErr ended (λ stop. IfSome (Some bytes) (λ all. HasStopped options all left stop (Some x) (Some text)))) f stopped))

-- What the program has done over an input that tells its bytes, by what its parts have.
use Rattle.std.proofs.Common.{◌≡◌, inl, inr, ℕ, Bool, List, Option, None, Some, Result, IfSome, refl, true, subst}
use Rattle.clap.specs.Walk.{Row, Text}
use Rattle.clap.specs.declared.error.kind.ErrorKind.{ErrorKind}
use Rattle.clap.specs.declared.error.kind.ErrorKind.TheVariants.{OutOfMemory}
use Rattle.snap_session.specs.declared.run.RunOptions.{RunOptions}
use Rattle.snap_jobs.specs.declared.run.JobOptions.{JobOptions}
use Rattle.snap_replay.specs.Done.{HasActed, HasDone, IsRefusalStatus}
use Rattle.snap_replay.specs.Exit.{exit_of}
use Rattle.snap_replay.specs.Program.{are_words_taken, command_found}
use Rattle.snap_replay.specs.Replayed.{HasReplayed, HasRunJobs, HasServed}
use Rattle.snap_replay.specs.Words.{IsAsked}
use Rattle.snap_replay.specs.declared.Ended.{Ended}
use Rattle.snap_replay.specs.declared.Task.{Task}
use Rattle.snap_replay.specs.declared.Task.TheVariants.{Run, Serve, Writers}

pub run_done : (input : Option (List ℕ)) (options : RunOptions) (ended : Result (Unit {0}) Ended) (left before after : Option (List ℕ)) (status : ℕ) → status ≡ exit_of ended → IfSome input (λ bytes. HasReplayed options bytes left ended before after) → IfSome input (λ bytes. HasDone (Some (Run options)) bytes left status before after)
run_done None options ended left before after status is replayed = tt
run_done (Some bytes) options ended left before after status is replayed = (ended, is, replayed)

pub serve_done : (input : Option (List ℕ)) (rebases : Bool) (times : ℕ) (ended : Result (Unit {0}) Ended) (left before after : Option (List ℕ)) (status : ℕ) → status ≡ exit_of ended → IfSome input (λ bytes. HasServed bytes left ended before after) → IfSome input (λ bytes. HasDone (Some (Serve None rebases times)) bytes left status before after)
serve_done None rebases times ended left before after status is served = tt
serve_done (Some bytes) rebases times ended left before after status is served = (ended, is, served)

pub jobs_done : (input : Option (List ℕ)) (options : JobOptions) (ended : Result (Unit {0}) Ended) (left before after : Option (List ℕ)) (status : ℕ) → status ≡ exit_of ended → IfSome input (λ bytes. HasRunJobs options bytes left ended before after) → IfSome input (λ bytes. HasDone (Some (Writers options)) bytes left status before after)
jobs_done None options ended left before after status is ran = tt
jobs_done (Some bytes) options ended left before after status is ran = (ended, is, ran)

pub acted : (input : Option (List ℕ)) (words : List Text) (found : Option (Text × List Row)) (task : Option Task) (left before after : Option (List ℕ)) (status : ℕ) → found ≡ command_found words → IsAsked found task → IfSome input (λ bytes. HasDone task bytes left status before after) → IfSome input (λ bytes. HasActed words bytes left status before after)
acted None words found task left before after status is asked done = tt
acted (Some bytes) words found task left before after status is asked done = inl (task, subst (λ f. IsAsked f task) is asked, done)

pub words_refused : (input : Option (List ℕ)) (words : List Text) (kind : ErrorKind) (written : Option (List ℕ)) (status : ℕ) → (are_words_taken words ≡ true → kind ≡ OutOfMemory) → IsRefusalStatus kind status → IfSome input (λ bytes. HasActed words bytes input status written written)
words_refused None words kind written status taken is = tt
words_refused (Some bytes) words kind written status taken is = inr (kind, taken, is, (refl, refl))

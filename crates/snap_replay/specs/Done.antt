-- What the program does by its words; cited by private clauses alone, since a program has no other.
use Rattle.std.specs.Prelude.{◌≡◌, ◌⊎◌, ℕ, Bool, true, List, Option, None, Some, Result}
use Rattle.clap.specs.Walk.{Text}
use Rattle.clap.specs.declared.error.kind.ErrorKind.{ErrorKind}
use Rattle.clap.specs.declared.error.kind.ErrorKind.TheVariants.{DisplayHelp, DisplayVersion, OutOfMemory}
use Rattle.snap_replay.specs.Exit.{exit_of}
use Rattle.snap_replay.specs.Logged.{diff_exit_of, log_exit_of}
use Rattle.snap_replay.specs.Program.{command_found, are_words_taken}
use Rattle.snap_replay.specs.Replayed.{HasReplayed, HasRunJobs, HasServed}
use Rattle.snap_replay.specs.Words.{IsAsked}
use Rattle.snap_replay.specs.declared.Ended.{Ended}
use Rattle.snap_replay.specs.declared.Task.{Task}
use Rattle.snap_replay.specs.declared.Task.TheVariants.{Run, Serve, Writers, Save, Check, Checkpoint, Diff}
use Rattle.snap_replay.specs.declared.logged.LogStop.{LogStop}

-- nothing of these bytes was read, and nothing was written
abbrev pub IsUntouched : List ℕ → Option (List ℕ) → Option (List ℕ) → Option (List ℕ) → Type 0
IsUntouched bytes left before after = (left ≡ Some bytes) × (after ≡ before)

-- The task was done over these bytes, and gave this status: that of the end of the script, of the server or of the jobs. Without a task it is that of bad words. Of a server over a log, of a saved store, of a check, of a checkpoint and of a comparison no more is said.
abbrev pub HasDone : Option Task → List ℕ → Option (List ℕ) → ℕ → Option (List ℕ) → Option (List ℕ) → Type 0
HasDone None bytes left status before after = (status ≡ 2) × IsUntouched bytes left before after
HasDone (Some (Run options)) bytes left status before after = (ended : Result (Unit {0}) Ended) × (status ≡ exit_of ended) × HasReplayed options bytes left ended before after
HasDone (Some (Serve None rebases times)) bytes left status before after = (ended : Result (Unit {0}) Ended) × (status ≡ exit_of ended) × HasServed bytes left ended before after
HasDone (Some (Serve (Some log) rebases times)) bytes left status before after = (served : Result (Unit {0}) LogStop) × (status ≡ log_exit_of served)
HasDone (Some (Writers options)) bytes left status before after = (ended : Result (Unit {0}) Ended) × (status ≡ exit_of ended) × HasRunJobs options bytes left ended before after
HasDone (Some (Save file wanted)) bytes left status before after = (saved : Result (Unit {0}) LogStop) × (status ≡ log_exit_of saved)
HasDone (Some (Check file json)) bytes left status before after = (checked : Result (Unit {0}) LogStop) × (status ≡ log_exit_of checked)
HasDone (Some (Checkpoint file)) bytes left status before after = (made : Result (Unit {0}) LogStop) × (status ≡ log_exit_of made)
HasDone (Some (Diff a b json)) bytes left status before after = (compared : Result Bool LogStop) × (status ≡ diff_exit_of compared)

-- the status of words that are refused for this: 4 for want of memory, 2 for bad words; of a call for help or for the version 0, or 3 where its text can't be written
abbrev pub IsRefusalStatus : ErrorKind → ℕ → Type 0
IsRefusalStatus OutOfMemory status = status ≡ 4
IsRefusalStatus DisplayHelp status = (status ≡ 0) ⊎ (status ≡ 3)
IsRefusalStatus DisplayVersion status = (status ≡ 0) ⊎ (status ≡ 3)
IsRefusalStatus _ status = status ≡ 2

-- the words were refused, those that are taken for want of memory alone
abbrev pub HasRefused : List Text → List ℕ → Option (List ℕ) → ℕ → Option (List ℕ) → Option (List ℕ) → Type 0
HasRefused words bytes left status before after = (kind : ErrorKind) × (are_words_taken words ≡ true → kind ≡ OutOfMemory) × IsRefusalStatus kind status × IsUntouched bytes left before after

-- the program did what these words ask for, or refused them
abbrev pub HasActed : List Text → List ℕ → Option (List ℕ) → ℕ → Option (List ℕ) → Option (List ℕ) → Type 0
HasActed words bytes left status before after = ((task : Option Task) × IsAsked (command_found words) task × HasDone task bytes left status before after) ⊎ HasRefused words bytes left status before after

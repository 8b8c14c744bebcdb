-- What a run leaves of each kind.
use Rattle.std.specs.Prelude.{◌≡◌, ℕ, List, Option, None, Result, Ok, Err}
use Rattle.snap_lines.specs.Transcripts.{Tells}
use Rattle.snap_session.specs.declared.run.RunOptions.{RunOptions}
use Rattle.snap_session.specs.Script.{script, HasStopped}
use Rattle.snap_session.specs.Service.{service, HasStoppedServing}
use Rattle.snap_jobs.specs.Answer.{HasWritten, JobsHaveStopped}
use Rattle.snap_jobs.specs.Lines.{jobs_transcript}
use Rattle.snap_jobs.specs.declared.run.JobOptions.{JobOptions}
use Rattle.snap_jobs.specs.declared.stop.JobsStop.TheVariants.{Lines, NotClosed, WantOfMemory as LacksMemory}
use Rattle.snap_replay.specs.declared.Ended.{Ended}
use Rattle.snap_replay.specs.declared.Ended.TheVariants.{Stopped, WantOfMemory}

-- what was written where a replay of these bytes, run so, ended so: the text of the script, or that of whole lines of it
abbrev pub HasReplayed : RunOptions → List ℕ → Option (List ℕ) → Result (Unit {0}) Ended → Option (List ℕ) → Option (List ℕ) → Type 0
HasReplayed options bytes left (Ok done) before after = Tells (script options bytes) None before after
HasReplayed options bytes left (Err (Stopped (Lines stop))) before after = HasStopped options bytes left stop before after
HasReplayed options bytes left (Err (Stopped NotClosed)) before after = ⊥
HasReplayed options bytes left (Err (Stopped (LacksMemory jobs all))) before after = ⊥
HasReplayed options bytes left (Err WantOfMemory) before after = ⊥

-- the same of a server
abbrev pub HasServed : List ℕ → Option (List ℕ) → Result (Unit {0}) Ended → Option (List ℕ) → Option (List ℕ) → Type 0
HasServed bytes left (Ok done) before after = Tells (service bytes) None before after
HasServed bytes left (Err (Stopped (Lines stop))) before after = HasStoppedServing bytes left stop before after
HasServed bytes left (Err (Stopped NotClosed)) before after = ⊥
HasServed bytes left (Err (Stopped (LacksMemory jobs all))) before after = ⊥
HasServed bytes left (Err WantOfMemory) before after = ⊥

-- the same of jobs
abbrev pub HasRunJobs : JobOptions → List ℕ → Option (List ℕ) → Result (Unit {0}) Ended → Option (List ℕ) → Option (List ℕ) → Type 0
HasRunJobs options bytes left (Ok done) before after = ((jobs_transcript options.fields bytes).fault ≡ None) × HasWritten options (jobs_transcript options.fields bytes).value.read 0 before after
HasRunJobs options bytes left (Err (Stopped stop)) before after = JobsHaveStopped options bytes left stop before after
HasRunJobs options bytes left (Err WantOfMemory) before after = ⊥

-- What the lines of a script of jobs say; cited by the public clauses of `JobLines`.
use Rattle.std.specs.Prelude.{ℕ, Bool, ◌&&◌, if◌then◌else◌, List, [], ◌∷◌, ◌++◌, length, map, nat_lt, Option, Some, None, Result, Ok, Err}
use Rattle.std.specs.Option.{option_map_or}
use Rattle.snap_record.specs.Labels.{Bytes}
use Rattle.snap_call.specs.Forms.{bad_field}
use Rattle.snap_call.specs.State.{opening}
use Rattle.snap_call.specs.declared.config.Config.{Config}
use Rattle.snap_call.specs.Results.{◌>>=◌}
use Rattle.snap_round.specs.declared.rule.Round.{Round}
use Rattle.snap_script.specs.declared.fault.Fault.{Fault}
use Rattle.snap_script.specs.declared.fault.Fault.TheVariants.{TooLong, BadOpen}
use Rattle.snap_script.specs.declared.unknown.FieldRule.{FieldRule}
use Rattle.snap_script.specs.Lines.{is_empty, object_in, opening_of, told_by_rule}
use Rattle.serde_json.specs.Data.{Data}
use Rattle.snap_writers.specs.declared.job.Job.{Job}
use Rattle.snap_lines.specs.Effects.{Effects}
use Rattle.snap_lines.specs.Transcripts.{Transcript, max_bytes, transcript}
use Rattle.snap_jobs.specs.declared.asked.Asked.{Asked}
use Rattle.snap_jobs.specs.declared.job.JobLine.{JobLine}
use Rattle.snap_jobs.specs.declared.job.JobLine.TheVariants as lines
use Rattle.snap_jobs.specs.Asked.{asked_of, is_question}
use Rattle.snap_jobs.specs.Jobs.{job_of}

-- what was read once a store is open: its round, the names of its namespaces, the jobs, and the questions, in order
pub record ReadValue : Type 0 where
  pub round : Round
  pub names : List Bytes
  pub jobs : List Job
  pub questions : List Asked

-- the most jobs of a script, and the most questions
abbrev pub max_jobs : ℕ
max_jobs = 65536

-- a store of the configuration, and no job
abbrev pub opened_read : Config → ReadValue
opened_read config = record { round = record { opening = opening config; limit = config.journal }; names = map (λ n. n.name) config.namespaces; jobs = []; questions = [] }

-- the same, unless a part of the configuration is malformed: the first such is a fault
abbrev pub opened_as : Config → Result ReadValue Fault
opened_as config = option_map_or (λ field. Err (BadOpen (Some field))) (bad_field config) (Ok (opened_read config))

-- a question or a job, by the fields that it may have
unfoldable pub job_line_of : FieldRule → Data → Result JobLine Fault
job_line_of rule line = if is_question line then (do Ok (lines.Asked (← asked_of rule line))) else (do Ok (lines.Job (← job_of rule line)))

-- one of them more
abbrev pub with_line_read : ReadValue → JobLine → ReadValue
with_line_read read (lines.Job job) = record { round = read.round; names = read.names; jobs = read.jobs ++ job ∷ []; questions = read.questions }
with_line_read read (lines.Asked asked) = record { round = read.round; names = read.names; jobs = read.jobs; questions = read.questions ++ asked ∷ [] }

-- there is room for another one
abbrev pub has_room : ReadValue → Bool
has_room read = nat_lt (length read.jobs) max_jobs && nat_lt (length read.questions) max_jobs

-- what is read with the bytes of the next line that isn't empty, by the fields that it may have: the store, then jobs and questions
unfoldable pub read_with : FieldRule → Option ReadValue → List ℕ → Result ReadValue Fault
read_with rule None bytes = do opened_as (← opening_of rule (← object_in bytes))
read_with rule (Some read) bytes = if has_room read then (do Ok (with_line_read read (← job_line_of rule (← object_in bytes)))) else Err TooLong

-- what was read is there
abbrev pub there : Result ReadValue Fault → Result (Option ReadValue) Fault
there reading = do Ok (Some (← reading))

-- the same of any line, with a fault as the rule tells it; an empty one says nothing
unfoldable pub read_after_line : FieldRule → Option ReadValue → List ℕ → Result (Option ReadValue) Fault
read_after_line rule read bytes = if is_empty bytes then Ok read else there (told_by_rule rule (read_with rule read bytes))

-- which fields the lines may have, and what was read
pub record LinesValue : Type 0 where
  pub fields : FieldRule
  pub read : Option ReadValue

-- before the first line
abbrev pub unread : FieldRule → LinesValue
unread rule = record { fields = rule; read = None }

-- what a line does: nothing is written for it
unfoldable pub jobs_effect : Effects LinesValue
jobs_effect lines bytes = do Ok (record { value = record { fields = lines.fields; read = (← read_after_line lines.fields lines.read bytes) }; text = [] })

-- the transcript of a script of jobs, by the fields that its lines may have; they have at most 1 GiB
abbrev pub jobs_transcript : FieldRule → List ℕ → Transcript LinesValue
jobs_transcript rule = transcript (Some max_bytes) jobs_effect (unread rule)

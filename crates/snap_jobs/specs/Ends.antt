-- How each job ended, a line for each: JSON, the keys of each object in byte order; and which jobs were refused memory.
use Rattle.std.specs.Prelude.{ℕ, ◌+◌, ◌-◌, Bool, true, false, if◌then◌else◌, List, [], ◌∷◌, ◌++◌, slice_get, Option, None, option_and_then, option_map, codes}
use Rattle.serde_json.specs.Data.{Data, Members, boolean, string, object, member}
use Rattle.serde_json.specs.Written.{compact_text}
use Rattle.snap_merge.specs.declared.error.FsError.{FsError}
use Rattle.snap_merge.specs.declared.error.FsError.TheVariants as errors
use Rattle.snap_call.specs.declared.refusal.Refusal.{Refusal}
use Rattle.snap_call.specs.declared.refusal.Refusal.TheVariants as refusals
use Rattle.snap_call.specs.declared.reply.Reply.TheVariants as replies
use Rattle.snap_upper.specs.declared.op.Op.{Op}
use Rattle.snap_upper.specs.declared.op.Op.TheVariants as ops
use Rattle.snap_script.specs.About.{about, commit_subjects, new_subjects, operation_subjects}
use Rattle.snap_values.specs.Values.{maybe, number_data, only}
use Rattle.snap_script.specs.Answers.{reply_data}
use Rattle.snap_script.specs.Faults.{field_name}
use Rattle.snap_values.specs.Values.{refusal_name}
use Rattle.snap_script.specs.Refusals.{refused_name}
use Rattle.snap_script.specs.declared.fault.Field.{Field}
use Rattle.snap_script.specs.declared.refused.Refused.{Refused}
use Rattle.snap_script.specs.declared.refused.Refused.TheVariants as refused
use Rattle.snap_script.specs.declared.unknown.FieldRule.{FieldRule}
use Rattle.snap_script.specs.declared.unknown.FieldRule.TheVariants as rules
use Rattle.snap_writers.specs.declared.job.End.{End}
use Rattle.snap_writers.specs.declared.job.End.TheVariants as job_ends
use Rattle.snap_writers.specs.declared.job.Job.{Job}
use Rattle.snap_writers.specs.declared.job.Ended.{Ended}
use Rattle.snap_writers.specs.declared.job.Ended.TheVariants.{Committed, Discarded, NotPrepared, NoThread, Failed, NotCommitted, NotRun}
use Rattle.snap_writers.specs.declared.running.RunError.{RunError}
use Rattle.snap_writers.specs.declared.running.RunError.TheVariants.{File, Book}

-- ---- what they are about

-- why an operation was not done: the error of the file, or the refusal of the charge that it needs
abbrev pub failure : RunError → Refused
failure (File error) = refused.File error
failure (Book why) = refused.Book why

-- the walk to one of two paths may have failed: the layers, which are gone once a job has ended, would tell to which
abbrev pub is_undecided : RunError → Bool
is_undecided (File errors.NotFound) = true
is_undecided (File errors.NotDir) = true
is_undecided error = false

-- the field of an operation that its failure is about, as far as it is decided without the layers
abbrev pub about_failure : Op → RunError → Option Field
about_failure (ops.Link from to) error = if is_undecided error then None else about (operation_subjects (ops.Link from to)) (failure error)
about_failure (ops.Rename from to) error = if is_undecided error then None else about (operation_subjects (ops.Rename from to)) (failure error)
about_failure op error = about (operation_subjects op) (failure error)

-- the field of a job's end that the refusal of its commit is about
abbrev pub about_commit : End → Refusal → Option Field
about_commit (job_ends.Commit name lease labels) why = about (commit_subjects name lease) (refused.Book why)
about_commit job_ends.Discard why = None

-- the field of a job, or of its operation, that its refusal is about
abbrev pub about_end : Job → Ended → Option Field
about_end job (NotPrepared why) = about (new_subjects job.key job.parent) (refused.Book why)
about_end job (Failed op error) = option_and_then (λ it. about_failure it error) (slice_get job.ops (op - 1))
about_end job (NotCommitted why) = about_commit job.end why
about_end job end = None

-- the same of the job of a number, from 1; not told where any field may stand in a line
abbrev pub end_told : FieldRule → List Job → ℕ → Ended → Option Field
end_told rules.Any jobs number end = None
end_told rules.Known jobs number end = option_and_then (λ job. about_end job end) (slice_get jobs (number - 1))
end_told rules.KnownAndId jobs number end = option_and_then (λ job. about_end job end) (slice_get jobs (number - 1))

-- ---- the lines

-- the field that a refusal is about, where that is told, before the other members
abbrev pub of_member : Option Field → Members → Members
of_member of rest = maybe (codes "of") (option_map (λ field. string (field_name field)) of) rest

-- a call for the job was refused: its word, what it is about, and the name of the refusal
abbrev pub refused_call_data : ℕ → List ℕ → Option Field → List ℕ → Data
refused_call_data job call of name = object
    (member (codes "call") (string call)
    (member (codes "job") (number_data job)
    (of_member of
    (only (codes "refused") (string name)))))

-- an operation of the job was not done: what that is about, its place, from 1, and the name of why
abbrev pub operation_data : ℕ → Option Field → ℕ → List ℕ → Data
operation_data job of op name = object
    (member (codes "job") (number_data job)
    (of_member of
    (member (codes "op") (number_data op)
    (only (codes "refused") (string name)))))

-- nothing was called for the job
abbrev pub uncalled_data : ℕ → List ℕ → Data
uncalled_data job name = object (member (codes "job") (number_data job) (only (codes "refused") (string name)))

-- how the job of this number ended, with what a refusal is about: a commit has what a script's commit is answered
abbrev pub end_data : ℕ → Option Field → Ended → Data
end_data job of (Committed id usage) = object (member (codes "committed") (reply_data (replies.Committed id usage)) (only (codes "job") (number_data job)))
end_data job of Discarded = object (member (codes "discarded") (boolean true) (only (codes "job") (number_data job)))
end_data job of (NotPrepared why) = refused_call_data job (codes "prepare") of (refusal_name why)
end_data job of NoThread = uncalled_data job (codes "NoThread")
end_data job of (Failed op error) = operation_data job of op (refused_name (failure error))
end_data job of (NotCommitted why) = refused_call_data job (codes "commit") of (refusal_name why)
end_data job of NotRun = uncalled_data job (codes "NotRun")

-- the line of a job: its text with no space between, and a line feed
unfoldable pub end_line : ℕ → Option Field → Ended → List ℕ
end_line job of end = compact_text (end_data job of end) ++ 10 ∷ []

-- the lines of jobs of which the first has this number, each with what its refusal is about
abbrev pub end_lines : (ℕ → Ended → Option Field) → ℕ → List Ended → List ℕ
end_lines tells job [] = []
end_lines tells job (end ∷ ends) = end_line job (tells job end) end ++ end_lines tells (job + 1) ends

-- ---- want of memory

-- the refusal is want of memory
abbrev pub is_refused_memory : Refusal → Bool
is_refused_memory (refusals.OutOfMemory want) = true
is_refused_memory why = false

-- the error is
abbrev pub is_file_memory : FsError → Bool
is_file_memory (errors.OutOfMemory want) = true
is_file_memory error = false

-- either is, for an operation
abbrev pub is_failed_memory : RunError → Bool
is_failed_memory (File error) = is_file_memory error
is_failed_memory (Book why) = is_refused_memory why

-- a job that was refused memory, or whose worker got no thread
abbrev pub wants_memory : Ended → Bool
wants_memory (NotPrepared why) = is_refused_memory why
wants_memory NoThread = true
wants_memory (Failed op error) = is_failed_memory error
wants_memory (NotCommitted why) = is_refused_memory why
wants_memory end = false

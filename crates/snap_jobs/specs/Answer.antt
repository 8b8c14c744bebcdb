-- What a run of jobs is answered.
use Rattle.std.specs.Prelude.{◌≡◌, ◌⊎◌, ◌<◌, ℕ, Bool, true, false, ◌&&◌, not, if◌then◌else◌, List, [], ◌++◌, length, map, take, Option, Some, None, unwrap_or}
use Rattle.std.specs.Io.KnownBytes.{Appends, Consumes}
use Rattle.std.specs.List.{count_by}
use Rattle.std.specs.Option.{option_map}
use Rattle.snap_path.specs.Memory.{no_memory}
use Rattle.snap_usage.specs.declared.usage.Usage.{Usage}
use Rattle.snap_usage.specs.Counted.{no_usage}
use Rattle.snap_record.specs.Labels.{Bytes}
use Rattle.snap_call.specs.Records.{charge_of}
use Rattle.snap_call.specs.State.{place_of}
use Rattle.snap_book.specs.Book.{BookValue}
use Rattle.snap_round.specs.declared.rule.Round.{Round}
use Rattle.snap_tape.specs.Tapes.{SessionValue}
use Rattle.snap_store.specs.Closing.{HasCause}
use Rattle.snap_store.specs.declared.cause.Cause.{Cause}
use Rattle.snap_store.specs.declared.cause.Cause.TheVariants as causes
use Rattle.snap_script.specs.Answers.{answer_line}
use Rattle.snap_script.specs.declared.answer.Answer.{Answer}
use Rattle.snap_script.specs.declared.answer.Answer.TheVariants.{Jobs}
use Rattle.snap_writers.specs.declared.job.Ended.{Ended}
use Rattle.snap_writers.specs.declared.job.Ended.TheVariants.{Committed, Discarded}
use Rattle.snap_writers.specs.declared.job.Job.{Job}
use Rattle.snap_writers.specs.Jobs.{IsReport}
use Rattle.snap_writers.specs.Starting.{AreBack}
use Rattle.snap_lines.specs.Lines.{feeds}
use Rattle.snap_lines.specs.Transcripts.{first_lines, max_bytes}
use Rattle.snap_lines.specs.declared.stop.Stop.TheVariants.{Line, InputFailed, OutputFailed, OutOfMemory}
use Rattle.snap_jobs.specs.declared.run.JobOptions.{JobOptions}
use Rattle.snap_jobs.specs.declared.stop.JobsStop.{JobsStop}
use Rattle.snap_jobs.specs.declared.stop.JobsStop.TheVariants.{Lines, NotClosed, WantOfMemory}
use Rattle.snap_jobs.specs.Asked.{answers_text}
use Rattle.snap_jobs.specs.Ends.{end_lines, end_told, wants_memory}
use Rattle.snap_jobs.specs.Lines.{ReadValue, jobs_effect, jobs_transcript, unread}

-- a job that was committed
abbrev pub is_job_committed : Ended → Bool
is_job_committed (Committed id usage) = true
is_job_committed end = false

-- a job that was to be discarded, and was
abbrev pub is_discarded : Ended → Bool
is_discarded Discarded = true
is_discarded end = false

-- a job that ended in any other way
abbrev pub is_refused : Ended → Bool
is_refused end = not (is_job_committed end) && not (is_discarded end)

-- what the namespace of this name is charged; nothing where there is none
abbrev pub book_total_of : BookValue → Bytes → Usage
book_total_of book name = unwrap_or (option_map (λ place. charge_of place book.state.records) (place_of name book.state.namespaces)) no_usage

-- each name with its total
abbrev pub book_totals_of : BookValue → List Bytes → List (Bytes × Usage)
book_totals_of book names = map (λ name. (name, book_total_of book name)) names

-- how many jobs ended in each way, and the totals
abbrev pub answer_of : List Ended → BookValue → List Bytes → Answer
answer_of ends book names = Jobs (count_by is_job_committed ends) (count_by is_discarded ends) (count_by is_refused ends) (book_totals_of book names)

-- the lines of the jobs' ends, where they are told
abbrev pub ends_text : JobOptions → List Job → List Ended → List ℕ
ends_text options jobs ends = if options.ends then end_lines (end_told options.fields jobs) 1 ends else []

-- the text is that of some report of the jobs, by `workers` workers on a store of this round, none of whom was stopped: the jobs' ends, where they are told, the answers to the questions, of the closed store, and the answer's line last. `lacking` jobs lacked memory
pub record IsTextOf (options : JobOptions) (read : ReadValue) (lacking : ℕ) (text : List ℕ) : Type 0 where
  pub ends : List Ended
  pub closed : BookValue
  pub report : IsReport (λ worker. ⊥) read.round read.jobs options.workers ends closed
  pub count : lacking ≡ count_by wants_memory ends
  pub lines : text ≡ ends_text options read.jobs ends ++ (answers_text options.fields closed.state read.questions ++ answer_line (answer_of ends closed read.names))

-- what is written, by what was read: nothing where no line has opened a store, else the text of a report of the jobs, of which `lacking` lacked memory
abbrev pub IsText : JobOptions → Option ReadValue → ℕ → List ℕ → Type 0
IsText options None lacking text = (lacking ≡ 0) × (text ≡ [])
IsText options (Some read) lacking text = IsTextOf options read lacking text

-- the text is written
abbrev pub HasWritten : JobOptions → Option ReadValue → ℕ → Option (List ℕ) → Option (List ℕ) → Type 0
HasWritten options read lacking before after = (text : List ℕ) × IsText options read lacking text × Appends before after text

-- a write failed, and a first part of the text is written
abbrev pub HasWrittenPart : JobOptions → Option ReadValue → Option (List ℕ) → Option (List ℕ) → Type 0
HasWrittenPart options read before after = (text : List ℕ) × (lacking n : ℕ) × IsText options read lacking text × Appends before after (take n text)

-- how many jobs were read
abbrev pub job_count : Option ReadValue → ℕ
job_count None = 0
job_count (Some read) = length read.jobs

-- the text is written, and `lacking` of `all` jobs lacked memory, at least one
abbrev pub HasLacked : JobOptions → Option ReadValue → ℕ → ℕ → Option (List ℕ) → Option (List ℕ) → Type 0
HasLacked options read lacking all before after = (0 < lacking) × (all ≡ job_count read) × HasWritten options read lacking before after

-- how a run of jobs ends whose store can't be closed for the cause
abbrev pub unclosed_stop : Cause → JobsStop
unclosed_stop (causes.OutOfMemory want) = Lines (OutOfMemory want)
unclosed_stop (causes.StillOut snapshots) = NotClosed
unclosed_stop causes.SessionsMissing = NotClosed
unclosed_stop (causes.TapeMismatch mismatch) = NotClosed

-- `workers` workers, none of whom was stopped, have run the jobs on a store of this round and given back their sessions and some ends, and the store can't be closed for a cause with this stop
abbrev pub IsUnclosed : ℕ → Round → List Job → JobsStop → Type 0
IsUnclosed workers r jobs stop = (sessions : List SessionValue) × (ends : List Ended) × (cause : Cause) × AreBack (λ worker. ⊥) r.opening.layer_inodes jobs workers sessions ends × HasCause r sessions cause × (stop ≡ unclosed_stop cause)

-- a run of the jobs has no report: an allocator refused memory, or the store can't be closed
abbrev pub HasNoReport : ℕ → Round → List Job → JobsStop → Type 0
HasNoReport workers r jobs (Lines (OutOfMemory want)) = want ≡ no_memory
HasNoReport workers r jobs NotClosed = IsUnclosed workers r jobs NotClosed
HasNoReport workers r jobs stop = ⊥

-- jobs were read, and their run has no report
abbrev pub HasNoText : ℕ → Option ReadValue → JobsStop → Type 0
HasNoText workers None stop = ⊥
HasNoText workers (Some read) stop = HasNoReport workers read.round read.jobs stop

-- where that ends otherwise: jobs lacked memory; or there is no text, and nothing is written; or a write failed, and a first part of the text is
abbrev pub HasBroken : JobOptions → Option ReadValue → JobsStop → Option (List ℕ) → Option (List ℕ) → Type 0
HasBroken options read (WantOfMemory jobs all) before after = HasLacked options read jobs all before after
HasBroken options read (Lines OutputFailed) before after = HasWrittenPart options read before after
HasBroken options read stop before after = HasNoText options.workers read stop × (after ≡ before)

-- where it ends otherwise over these bytes, of which the input has some left. A line's fault is the one that the lines have. Where jobs lacked memory, no line has a fault, and the text is written. Where the store can't be closed, no line has a fault, and nothing is written. Where a read failed, no line whose line feed was read has a fault, and nothing is written; nor is it where memory was refused. Where a write failed, nothing is, or no line has a fault, and a first part of the text is
abbrev pub JobsHaveStopped : JobOptions → List ℕ → Option (List ℕ) → JobsStop → Option (List ℕ) → Option (List ℕ) → Type 0
JobsHaveStopped options bytes left (WantOfMemory jobs all) before after = ((jobs_transcript options.fields bytes).fault ≡ None) × HasLacked options (jobs_transcript options.fields bytes).value.read jobs all before after
JobsHaveStopped options bytes left NotClosed before after = ((jobs_transcript options.fields bytes).fault ≡ None) × HasNoText options.workers (jobs_transcript options.fields bytes).value.read NotClosed × Appends before after []
JobsHaveStopped options bytes left (Lines (Line f)) before after = ((jobs_transcript options.fields bytes).fault ≡ Some f) × Appends before after []
JobsHaveStopped options bytes left (Lines InputFailed) before after = (read : List ℕ) × Consumes (Some bytes) left read × ((first_lines (Some max_bytes) jobs_effect (unread options.fields) bytes (feeds read)).fault ≡ None) × Appends before after []
JobsHaveStopped options bytes left (Lines OutputFailed) before after = Appends before after [] ⊎ (((jobs_transcript options.fields bytes).fault ≡ None) × HasWrittenPart options (jobs_transcript options.fields bytes).value.read before after)
JobsHaveStopped options bytes left (Lines (OutOfMemory want)) before after = Appends before after []

-- What is written for the lines of jobs, which is nothing, and after them.
use Rattle.std.specs.Prelude.{if◌then◌else◌, IfErr, IsErrAnd, IfSome, OnOk, take}
use Rattle.std.specs.Io.KnownBytes.{Appends, Keeps}
use Rattle.std.proofs.Common.{◌≡◌, inl, inr, ℕ, Bool, true, false, List, [], ◌∷◌, ◌++◌, Option, None, Some, Result, Ok, Err, refl, sym, ap, ◌∙◌, subst, append-nil, length, arith, take_all}
use Rattle.snap_path.specs.Memory.{no_memory}
use Rattle.snap_path.specs.declared.memory.NoMemory.{NoMemory}
use Rattle.snap_call.specs.Results.{◌>>=◌}
use Rattle.snap_round.specs.declared.rule.Round.{Round}
use Rattle.snap_tape.specs.Tapes.{SessionValue}
use Rattle.snap_store.specs.Closing.{HasCause}
use Rattle.snap_store.specs.declared.cause.Cause.{Cause}
use Rattle.snap_store.specs.declared.close.NotClosed.{NotClosed as NotClosedStore}
use Rattle.snap_store.specs.declared.cause.Cause.TheVariants as causes
use Rattle.snap_writers.specs.declared.job.Job.{Job}
use Rattle.snap_writers.specs.declared.job.RunFault.{RunFault}
use Rattle.snap_writers.specs.declared.job.RunFault.TheVariants as faults
use Rattle.snap_writers.specs.declared.job.Ended.{Ended}
use Rattle.snap_writers.specs.Starting.{AreBack, IsFault}
use Rattle.snap_writers.proofs.Reporting.{back_weaker}
use Rattle.snap_script.specs.declared.fault.Fault.{Fault}
use Rattle.snap_script.specs.declared.fault.Fault.TheVariants.{TooLong}
use Rattle.snap_lines.specs.Effects.{Effect}
use Rattle.snap_lines.specs.Lines.{feeds, lines_of, without_feed}
use Rattle.snap_lines.specs.Runs.{Breaks}
use Rattle.snap_lines.specs.declared.stop.LineFault.{LineFault}
use Rattle.snap_lines.specs.declared.stop.Stop.{Stop}
use Rattle.snap_lines.specs.declared.stop.Stop.TheVariants.{Line, InputFailed, OutputFailed, OutOfMemory}
use Rattle.snap_lines.specs.Transcripts.{Place, Stops, Tells, Transcript, cut_length, effect_at, effect_within, max_bytes, first_lines, goes_on, is_over_limit, place_after, start, transcript, transcript_from}
use Rattle.snap_jobs.specs.Answer.{HasBroken, HasLacked, HasNoReport, HasNoText, JobsHaveStopped, HasWritten, HasWrittenPart, IsText, unclosed_stop}
use Rattle.snap_script.specs.declared.unknown.FieldRule.{FieldRule}
use Rattle.snap_jobs.specs.Lines.{LinesValue, ReadValue, jobs_effect, read_after_line, unread}
use Rattle.snap_jobs.specs.declared.run.JobOptions.{JobOptions}
use Rattle.snap_jobs.specs.declared.stop.JobsStop.{JobsStop}
use Rattle.snap_jobs.specs.declared.stop.JobsStop.TheVariants.{Lines, NotClosed, WantOfMemory}

-- no text
abbrev IsSilent : Result (Effect LinesValue) Fault → Type 0
IsSilent (Ok e) = e.text ≡ []
IsSilent (Err f) = Unit {0}

silent_by : (rule : FieldRule) (r : Result (Option ReadValue) Fault) → IsSilent (r >>= λ v. Ok (record { value = record { fields = rule; read = v }; text = [] }))
silent_by rule (Ok v) = refl
silent_by rule (Err f) = tt

silent : (lines : LinesValue) (bytes : List ℕ) → IsSilent (jobs_effect lines bytes)
unfolding jobs_effect
silent lines bytes = silent_by lines.fields (read_after_line lines.fields lines.read bytes)

silent_within : (left : Option ℕ) (read : LinesValue) (line : List ℕ) → IsSilent (effect_within jobs_effect left read line)
silent_within None read line = silent read (take cut_length (without_feed line))
silent_within (Some left) read line = by (is_over_limit left line)
  where
    by : (b : Bool) → IsSilent (if b then Err TooLong else jobs_effect read (without_feed line))
    by true = tt
    by false = silent read (without_feed line)

silent_at : (p : Place LinesValue) (line : List ℕ) → IsSilent (effect_at jobs_effect p line)
unfolding effect_at
silent_at p line = silent_within p.left p.value line

after_line : (p : Place LinesValue) (line : List ℕ) (r : Result (Effect LinesValue) Fault) (more : Place LinesValue → Transcript LinesValue) → IsSilent r → ((q : Place LinesValue) → (more q).text ≡ []) → (goes_on p line r more).text ≡ []
after_line p line (Err c) more quiet none = refl
after_line p line (Ok e) more quiet none = ap (λ (t : List ℕ). t ++ (more (place_after p line e.value)).text) quiet ∙ none (place_after p line e.value)

-- no text is written for any lines
pub no_text_from : (p : Place LinesValue) (lines : List (List ℕ)) → (transcript_from jobs_effect p lines).text ≡ []
no_text_from p [] = refl
no_text_from p (line ∷ lines) = after_line p line (effect_at jobs_effect p line) (λ q. transcript_from jobs_effect q lines) (silent_at p line) (λ q. no_text_from q lines)

pub none_written : (read : LinesValue) (bytes : List ℕ) → (transcript (Some max_bytes) jobs_effect read bytes).text ≡ []
unfolding transcript
none_written read bytes = no_text_from (start (Some max_bytes) read) (lines_of bytes)

-- nothing was written, and then the text
appends_after : (a b c : Option (List ℕ)) (text : List ℕ) → Appends a b [] → Appends b c text → Appends a c text
appends_after None b c text p q = tt
appends_after (Some x) None c text p q = absurd p
appends_after (Some x) (Some y) None text p q = absurd q
appends_after (Some x) (Some y) (Some z) text p q = q ∙ ap (λ l. l ++ text) (p ∙ append-nil x)

-- what the lines have left was read
pub was_read : (rule : FieldRule) (remaining : Option (List ℕ)) (lines : LinesValue) (read : Option ReadValue) → read ≡ lines.read
    → IfSome remaining (λ bytes. (transcript (Some max_bytes) jobs_effect (unread rule) bytes).value ≡ lines) → IfSome remaining (λ bytes. (transcript (Some max_bytes) jobs_effect (unread rule) bytes).value.read ≡ read)
was_read rule None lines read e h = tt
was_read rule (Some bytes) lines read e h = ap (λ (v : LinesValue). v.read) h ∙ sym e

-- where all lines were read, and then the text was written
written_then : (told : JobOptions) (rule : FieldRule) (remaining : Option (List ℕ)) (read : Option ReadValue) (before mid after : Option (List ℕ))
    → IfSome remaining (λ bytes. Tells (transcript (Some max_bytes) jobs_effect (unread rule) bytes) None before mid) → IfSome remaining (λ bytes. (transcript (Some max_bytes) jobs_effect (unread rule) bytes).value.read ≡ read)
    → HasWritten told read 0 mid after → IfSome remaining (λ bytes. HasWritten told (transcript (Some max_bytes) jobs_effect (unread rule) bytes).value.read 0 before after)
written_then told rule None read before mid after tells value wrote = tt
written_then told rule (Some bytes) read before mid after tells value (text, is, wrote) =
    subst (λ (v : Option ReadValue). HasWritten told v 0 before after) (sym value)
    (text, is, appends_after before mid after text (subst (Appends before mid) (none_written (unread rule) bytes) tells.1) wrote)

pub written : {E : Type 0} (told : JobOptions) (rule : FieldRule) (r : Result Unit E) (remaining : Option (List ℕ)) (read : Option ReadValue) (before mid after : Option (List ℕ))
    → IfSome remaining (λ bytes. Tells (transcript (Some max_bytes) jobs_effect (unread rule) bytes) None before mid) → IfSome remaining (λ bytes. (transcript (Some max_bytes) jobs_effect (unread rule) bytes).value.read ≡ read)
    → OnOk r (HasWritten told read 0 mid after) → OnOk r (IfSome remaining (λ bytes. HasWritten told (transcript (Some max_bytes) jobs_effect (unread rule) bytes).value.read 0 before after))
written told rule (Ok done) remaining read before mid after tells value wrote = written_then told rule remaining read before mid after tells value wrote
written told rule (Err e) remaining read before mid after tells value wrote = tt

-- ---- an end otherwise

-- no text is written for the first lines alone
pub none_of_first : (read : LinesValue) (bytes : List ℕ) (n : ℕ) → (first_lines (Some max_bytes) jobs_effect read bytes n).text ≡ []
unfolding first_lines
none_of_first read bytes n = no_text_from (start (Some max_bytes) read) (take n (lines_of bytes))

-- where the lines end otherwise
stopped_at : (options : JobOptions) (bytes : List ℕ) (left : Option (List ℕ)) (stop : Stop) (before after : Option (List ℕ)) → Stops (Some max_bytes) jobs_effect (unread options.fields) bytes left stop before after → JobsHaveStopped options bytes left (Lines stop) before after
stopped_at options bytes left (Line f) before after h = (h.0, subst (Appends before after) (none_written (unread options.fields) bytes) h.1)
stopped_at options bytes left InputFailed before after (read, taken, tells) = (read, taken, tells.0, subst (Appends before after) (none_of_first (unread options.fields) bytes (feeds read)) tells.1)
stopped_at options bytes left OutputFailed before after (part, rest, is, wrote) = inl (subst (Appends before after) (no_front part rest (sym is ∙ none_written (unread options.fields) bytes)) wrote)
  where
    no_front : (xs ys : List ℕ) → xs ++ ys ≡ [] → xs ≡ []
    no_front [] ys e = refl
    no_front (x ∷ xs) ys e = absurd (cc)
stopped_at options bytes left (OutOfMemory want) before after (n, tells) = subst (Appends before after) (none_of_first (unread options.fields) bytes n) tells.1

pub lines_stopped : (options : JobOptions) (remaining left : Option (List ℕ)) (stop : Stop) (before after : Option (List ℕ)) → IfSome remaining (λ bytes. Stops (Some max_bytes) jobs_effect (unread options.fields) bytes left stop before after) → IfSome remaining (λ bytes. JobsHaveStopped options bytes left (Lines stop) before after)
lines_stopped options None left stop before after h = tt
lines_stopped options (Some bytes) left stop before after h = stopped_at options bytes left stop before after h

-- want of memory has one value
only_memory : (want : NoMemory) → ◌≡◌ {A = NoMemory} want no_memory
only_memory want = refl

-- a store that can't be closed for this cause ends the run of the jobs so
unclosed : (workers : ℕ) (r : Round) (jobs : List Job) (sessions : List SessionValue) (ends : List Ended) (cause : Cause) → AreBack (λ worker. ⊥) r.opening.layer_inodes jobs workers sessions ends → HasCause r sessions cause → HasNoReport workers r jobs (unclosed_stop cause)
unclosed workers r jobs sessions ends (causes.OutOfMemory want) back has = only_memory want
unclosed workers r jobs sessions ends (causes.StillOut snapshots) back has = (sessions, ends, causes.StillOut snapshots, back, has, refl)
unclosed workers r jobs sessions ends causes.SessionsMissing back has = (sessions, ends, causes.SessionsMissing, back, has, refl)
unclosed workers r jobs sessions ends (causes.TapeMismatch mismatch) back has = (sessions, ends, causes.TapeMismatch mismatch, back, has, refl)

-- the store of the jobs comes back, since it can't be closed
pub not_closed : {N : Type 0} (S : ℕ → Type 0) (never : (worker : ℕ) → S worker → ⊥) (r : Round) (jobs : List Job) (workers : ℕ) (fault : RunFault N) (ends : List Ended) (back : NotClosedStore N) → fault ≡ faults.NotClosed ends back → IsFault S r jobs workers fault → HasNoReport workers r jobs (unclosed_stop back.cause)
not_closed S never r jobs workers fault ends back is of =
    let at = subst (IsFault S r jobs workers) is of in
    unclosed workers r jobs back.sessions.items ends back.cause (back_weaker S (λ worker. ⊥) never r.opening.layer_inodes jobs workers back.sessions.items ends at.1) at.3

-- a run's end without a report is that of what was read
pub no_report : {A : Type 0} (result : Result A JobsStop) (stop : JobsStop) (workers : ℕ) (r s : Round) (jobs read : List Job) → IsErrAnd result (λ e. e ≡ stop) → r ≡ s → jobs ≡ read → HasNoReport workers r jobs stop → IfErr result (λ e. HasNoReport workers s read e)
no_report (Ok a) stop workers r s jobs read is round same of = absurd is
no_report (Err e) stop workers r s jobs read is round same of =
    subst (λ (t : JobsStop). HasNoReport workers s read t) (sym is)
    (subst (λ (l : List Job). HasNoReport workers s l stop) same (subst (λ (q : Round). HasNoReport workers q jobs stop) round of))

-- where there is no report, no line and no read is why
no_line : (workers : ℕ) (read : Option ReadValue) (f : LineFault) → HasNoText workers read (Lines (Line f)) → ⊥
no_line workers None f none = none
no_line workers (Some read) f none = none

no_input : (workers : ℕ) (read : Option ReadValue) → HasNoText workers read (Lines InputFailed) → ⊥
no_input workers None none = none
no_input workers (Some read) none = none

-- where what follows the lines ends otherwise
broken_at : (options : JobOptions) (bytes : List ℕ) (left : Option (List ℕ)) (read : Option ReadValue) (stop : JobsStop) (before mid after : Option (List ℕ)) → (transcript (Some max_bytes) jobs_effect (unread options.fields) bytes).value.read ≡ read → (transcript (Some max_bytes) jobs_effect (unread options.fields) bytes).fault ≡ None → Appends before mid [] → HasBroken options read stop mid after → JobsHaveStopped options bytes left stop before after
broken_at options bytes left read (Lines (Line f)) before mid after value fault none broke = absurd (no_line options.workers read f broke.0)
broken_at options bytes left read (Lines InputFailed) before mid after value fault none broke = absurd (no_input options.workers read broke.0)
broken_at options bytes left read (Lines OutputFailed) before mid after value fault none (text, lacking, n, is, wrote) = inr (fault, subst (λ (v : Option ReadValue). HasWrittenPart options v before after) (sym value) (text, lacking, n, is, appends_after before mid after (take n text) none wrote))
broken_at options bytes left read (Lines (OutOfMemory want)) before mid after value fault none broke = subst (λ (o : Option (List ℕ)). Appends before o []) (sym broke.1) none
broken_at options bytes left read NotClosed before mid after value fault none broke = (fault, subst (λ (v : Option ReadValue). HasNoText options.workers v NotClosed) (sym value) broke.0, subst (λ (o : Option (List ℕ)). Appends before o []) (sym broke.1) none)
broken_at options bytes left read (WantOfMemory jobs all) before mid after value fault none (some, count, (text, is, wrote)) = (fault, subst (λ (v : Option ReadValue). HasLacked options v jobs all before after) (sym value) (some, count, (text, is, appends_after before mid after text none wrote)))

pub broken : (options : JobOptions) (r : Result Unit JobsStop) (remaining left : Option (List ℕ)) (read : Option ReadValue) (before mid after : Option (List ℕ))
    → IfSome remaining (λ bytes. Tells (transcript (Some max_bytes) jobs_effect (unread options.fields) bytes) None before mid) → IfSome remaining (λ bytes. (transcript (Some max_bytes) jobs_effect (unread options.fields) bytes).value.read ≡ read)
    → IfErr r (λ stop. HasBroken options read stop mid after) → IfErr r (λ stop. IfSome remaining (λ bytes. JobsHaveStopped options bytes left stop before after))
broken options (Ok done) remaining left read before mid after tells value broke = tt
broken options (Err stop) None left read before mid after tells value broke = tt
broken options (Err stop) (Some bytes) left read before mid after tells value broke = broken_at options bytes left read stop before mid after value tells.0 (subst (Appends before mid) (none_written (unread options.fields) bytes) tells.1) broke

-- where the text is not written whole
pub text_broken : (options : JobOptions) (read : Option ReadValue) (lacking : ℕ) (text : List ℕ) (stop : Stop) (before after : Option (List ℕ)) → IsText options read lacking text → Breaks text stop before after → HasBroken options read (Lines stop) before after
text_broken options read lacking text (Line f) before after is broke = absurd broke
text_broken options read lacking text InputFailed before after is broke = absurd broke
text_broken options read lacking text OutputFailed before after is (n, wrote) = (text, lacking, n, is, wrote)
text_broken options read lacking text (OutOfMemory want) before after is broke = absurd broke

-- the whole text is its first part of its length
pub whole : (text : List ℕ) (before mid after : Option (List ℕ)) → Appends before mid text → Keeps mid after → (n : ℕ) × Appends before after (take n text)
whole text before mid after wrote kept = (length text, subst (Appends before after) (sym (take_all (length text) text (omega arith))) (appends_kept before mid after text wrote kept))
  where
    appends_kept : (a b c : Option (List ℕ)) (bs : List ℕ) → Appends a b bs → Keeps b c → Appends a c bs
    appends_kept None b c bs p q = tt
    appends_kept (Some x) None c bs p q = absurd p
    appends_kept (Some x) (Some y) None bs p q = absurd q
    appends_kept (Some x) (Some y) (Some z) bs p q = q ∙ p

-- Laws of clauses that say that something exists: each follows from the clause alone, and a stored wrong body breaks it.
use Rattle.std.proofs.Common.{◌≡◌, inl, inr, ℕ, Bool, true, false, List, [], ◌∷◌, ◌++◌, length, map, drop, get_or, Option, None, Some, Ok, sym, ap, ◌∙◌, subst, append-nil, arith}
use Rattle.std.specs.List.{AllByRecursion, cons_option}
use Rattle.std.proofs.lemmas.List.{append_cancel_left, length-map}
use Rattle.std.proofs.lemmas.List.Elements.{All-from_recursion}
use Rattle.snap_layer.specs.Tree.{Tree}
use Rattle.snap_usage.specs.Counted.{count_of, no_usage}
use Rattle.snap_usage.specs.declared.usage.Usage.{Usage}
use Rattle.snap_record.specs.Labels.{Bytes, Label}
use Rattle.snap_call.specs.declared.call.Call.{Call}
use Rattle.snap_call.specs.declared.call.Call.TheVariants as calls
use Rattle.snap_call.specs.declared.call.Given.{Given}
use Rattle.snap_call.specs.declared.call.Given.TheVariants.{Layer, Nothing}
use Rattle.snap_call.specs.declared.entry.Entry.{Entry}
use Rattle.snap_call.specs.declared.refusal.Refusal.{Refusal}
use Rattle.snap_call.specs.declared.refusal.Refusal.TheVariants as refusals
use Rattle.snap_call.specs.declared.reply.Reply.{Reply}
use Rattle.snap_call.specs.declared.reply.Reply.TheVariants as replies
use Rattle.snap_call.specs.declared.question.Question.TheVariants as questions
use Rattle.snap_call.specs.Forms.{is_key}
use Rattle.snap_call.specs.Journal.{call_entry}
use Rattle.snap_call.specs.Records.{record_at}
use Rattle.snap_call.specs.State.{place_of}
use Rattle.snap_call.specs.Step.{counted, in_namespace, refused}
use Rattle.snap_record.specs.Records.{info_of}
use Rattle.snap_record.specs.declared.record.Record.{Record}
use Rattle.std.specs.Prelude.{◌<◌, Any, if◌then◌else◌}
use Rattle.std.specs.Fmt.{digits}
use Rattle.std.specs.Option.{option_map_or}
use Rattle.json.specs.Print.{escape_byte}
use Rattle.snap_upper.specs.declared.op.Op.{Op}
use Rattle.snap_upper.specs.After.{after}
use Rattle.snap_book.specs.Active.{ActiveValue, fresh}
use Rattle.snap_book.specs.Book.{BookValue}
use Rattle.snap_book.specs.Wanted.{wanted_charge}
use Rattle.snap_round.specs.declared.rule.Round.{Round}
use Rattle.snap_tape.specs.Sessions.{IsMismatch}
use Rattle.snap_tape.specs.Tapes.{SessionValue}
use Rattle.snap_tape.specs.declared.mismatch.Mismatch.{Mismatch}
use Rattle.snap_store.specs.declared.cause.Cause.TheVariants.{StillOut, TapeMismatch}
use Rattle.snap_store.specs.Closing.{HasCause}
use Rattle.snap_store.specs.Values.{IsAnswer, IsPrepared}
use Rattle.snap_writers.specs.declared.job.End.{End}
use Rattle.snap_writers.specs.declared.job.End.TheVariants as ends
use Rattle.snap_writers.specs.declared.job.Ended.{Ended}
use Rattle.snap_writers.specs.declared.job.Ended.TheVariants as ended
use Rattle.snap_writers.specs.declared.job.Job.{Job}
use Rattle.snap_writers.specs.declared.job.Worked.{Worked}
use Rattle.snap_writers.specs.Going.{HasEnded, HasRunJob, HasTried, Went}
use Rattle.snap_writers.specs.Jobs.{AreEnds, AreInOrder, AreWorked, HasStoppedWorker, HasWorked, HaveWorked, IsCharge, IsEnded, IsReport, IsWorked, discard_entry, prepare_call, refused_entry, sessions_of}
use Rattle.snap_writers.specs.Starting.{AreBack}
use Rattle.snap_script.specs.Answers.{answer_line}
use Rattle.snap_script.specs.declared.answer.Answer.TheVariants.{Jobs}
use Rattle.snap_lines.specs.declared.stop.Stop.TheVariants.{OutputFailed}
use Rattle.snap_jobs.specs.Answer.{HasNoReport, IsTextOf, answer_of}
use Rattle.snap_jobs.specs.Asked.{answers_text}
use Rattle.snap_jobs.specs.Ends.{end_lines, end_told}
use Rattle.snap_jobs.specs.Lines.{ReadValue}
use Rattle.snap_jobs.specs.declared.asked.Asked.{Asked}
use Rattle.snap_jobs.specs.declared.run.JobOptions.{JobOptions}
use Rattle.snap_jobs.specs.declared.stop.JobsStop.TheVariants.{Lines}

-- ---- a store's calls

-- `IsPrepared`: the layer may have the store's number of inodes, and no other
pub prepared_within : (inodes other : ℕ) (old new : SessionValue) (namespace key parent : Bytes) (labels : List Label) (a : ActiveValue)
    → IsPrepared inodes old new namespace key parent labels a → a.layer ≡ fresh other a.lowers → inodes ≡ other
prepared_within inodes other old new namespace key parent labels a is of_other = ap (λ (t : Tree). t.most) (sym is.layer ∙ of_other)

-- `HasCause`: a store that can't be closed since snapshots are open names some
pub open_ones_named : (r : Round) (sessions : List SessionValue) → HasCause r sessions (StillOut []) → ⊥
open_ones_named r sessions (b, round, kept, why) = absurd (omega (arith, why.0, sym (length-map _ _) ∙ ap length (sym why.1)))

-- and a mismatch that keeps it from being closed is one of a session that was handed in
pub mismatch_of_given : (r : Round) (sessions : List SessionValue) (m : Mismatch) → HasCause r sessions (TapeMismatch m) → m.session < length sessions
mismatch_of_given r sessions m (b, round, kept, (idle, (all, first))) = by first.there
  where
    by : Any (λ s. (s.number ≡ m.session) × IsMismatch b.journal m.place s) sessions → m.session < length sessions
    by (k, s, inside, at, (number, differs)) = subst (λ n. n < length sessions) (ap (λ (t : SessionValue). t.number) at ∙ number) (All-from_recursion (λ t. t.number < length sessions) sessions all.once.inside k s inside)

-- a reply to a stat
abbrev is_of_stat : Reply → Type 0
is_of_stat (replies.Refused why) = Unit {0}
is_of_stat (replies.Info info) = Unit {0}
is_of_stat reply = ⊥

-- `IsAnswer`: the question of a stat is answered by an info or refused
pub stat_is_answered : (namespace key : Bytes) (reply : Reply) → IsAnswer (questions.Stat namespace key) reply → is_of_stat reply
stat_is_answered namespace key reply (met, is) = subst is_of_stat (sym is) (asked (is_key key))
  where
    at : (o : Option Record) → is_of_stat (option_map_or (λ (r : Record). (counted met, replies.Info (info_of r))) o (refused met refusals.NotFound)).1
    at None = tt
    at (Some r) = tt

    placed : (o : Option ℕ) → is_of_stat (option_map_or (λ (place : ℕ). option_map_or (λ (r : Record). (counted met, replies.Info (info_of r))) (record_at place key met.records) (refused met refusals.NotFound)) o (refused met refusals.NoNamespace)).1
    placed None = tt
    placed (Some place) = at (record_at place key met.records)

    asked : (b : Bool) → is_of_stat (if b then in_namespace met namespace (λ place. option_map_or (λ (r : Record). (counted met, replies.Info (info_of r))) (record_at place key met.records) (refused met refusals.NotFound)) else refused met refusals.BadArgument).1
    asked true = placed (place_of namespace met.namespaces)
    asked false = tt

-- ---- a worker

-- `HasStoppedWorker`: a gate that lets all pass has stopped none
pub none_stopped : (worker : ℕ) → HasStoppedWorker (λ w step passes. passes ≡ true) worker → ⊥
none_stopped worker (step, stopped) = absurd (cc)

-- `HasEnded`: a job that was to be discarded isn't told as committed
pub discarded_not_committed : (j : Job) (old new : SessionValue) (a : ActiveValue) (id : ℕ) (usage : Usage) → j.end ≡ ends.Discard → HasEnded j old new a (ended.Committed id usage) → ⊥
discarded_not_committed j old new a id usage asked (name, lease, labels, end, is, count, went) = let e = sym end ∙ asked in absurd (cc)

-- nor as one whose commit was refused
pub discarded_not_refused : (j : Job) (old new : SessionValue) (a : ActiveValue) (why : Refusal) → j.end ≡ ends.Discard → HasEnded j old new a (ended.NotCommitted why) → ⊥
discarded_not_refused j old new a why asked (name, lease, labels, end, went) = let e = sym end ∙ asked in absurd (cc)

-- one that was to be committed isn't told as discarded
pub commit_not_discarded : (j : Job) (old new : SessionValue) (a : ActiveValue) (name : Bytes) (lease : Option Bytes) (labels : Option (List Label)) → j.end ≡ ends.Commit name lease labels → HasEnded j old new a ended.Discarded → ⊥
commit_not_discarded j old new a name lease labels asked (end, went) = let e = sym end ∙ asked in absurd (cc)

-- a committed one is told with its own id
pub committed_id : (j : Job) (old new : SessionValue) (a : ActiveValue) (id : ℕ) (usage : Usage) → HasEnded j old new a (ended.Committed id usage) → id ≡ a.share.id
committed_id j old new a id usage (name, lease, labels, end, is, count, went) = is

-- a session's tape went on by one list of entries
same_entries : (old new : SessionValue) (xs ys : List Entry) → Went old new xs → Went old new ys → xs ≡ ys
same_entries old new xs ys a b = append_cancel_left old.tape xs ys (sym a.tape ∙ b.tape)

abbrev refusal_of : Reply → Refusal
refusal_of (replies.Refused why) = why
refusal_of reply = refusals.JournalFull

abbrev refusal_in : List Entry → Refusal
refusal_in [] = refusals.JournalFull
refusal_in (e ∷ es) = refusal_of e.reply

-- a refusal is the one that its entry has
told_of : (n : ℕ) (call : Call) (given : Given) (told : Refusal) (rest : List Entry) → refused_entry n call given told ++ rest ≡ call_entry n call given (replies.Refused refusals.AlreadyExists) ∷ rest → told ≡ refusals.AlreadyExists
told_of n call given refusals.JournalFull rest e = absurd (omega (arith, ap length e))
told_of n call given (refusals.OutOfMemory want) rest e = absurd (omega (arith, ap length e))
told_of n call given why rest e = ap refusal_in e

abbrev name_in : End → Bytes
name_in (ends.Commit name lease labels) = name
name_in ends.Discard = []

abbrev lease_in : End → Option Bytes
lease_in (ends.Commit name lease labels) = lease
lease_in ends.Discard = None

abbrev labels_in : End → Option (List Label)
labels_in (ends.Commit name lease labels) = labels
labels_in ends.Discard = None

-- a refused commit is told with its refusal
pub refused_commit_told : (j : Job) (old new : SessionValue) (a : ActiveValue) (name : Bytes) (lease : Option Bytes) (labels : Option (List Label)) (told : Refusal)
    → j.end ≡ ends.Commit name lease labels
    → Went old new (call_entry old.number (calls.Commit a.share.slot a.share.id name lease labels) (Layer a.layer) (replies.Refused refusals.AlreadyExists) ∷ discard_entry old.number a.share.slot a.share.id a.share.usage ∷ [])
    → HasEnded j old new a (ended.NotCommitted told) → told ≡ refusals.AlreadyExists
refused_commit_told j old new a name lease labels told asked went (named, leased, labelled, end, mine) =
    let same = sym end ∙ asked in
    let discard = discard_entry old.number a.share.slot a.share.id a.share.usage ∷ [] in
    let at_name = subst (λ (b : Bytes). Went old new (refused_entry old.number (calls.Commit a.share.slot a.share.id b leased labelled) (Layer a.layer) told ++ discard)) (ap name_in same) mine in
    let at_lease = subst (λ (l : Option Bytes). Went old new (refused_entry old.number (calls.Commit a.share.slot a.share.id name l labelled) (Layer a.layer) told ++ discard)) (ap lease_in same) at_name in
    let at = subst (λ (l : Option (List Label)). Went old new (refused_entry old.number (calls.Commit a.share.slot a.share.id name lease l) (Layer a.layer) told ++ discard)) (ap labels_in same) at_lease in
    told_of old.number (calls.Commit a.share.slot a.share.id name lease labels) (Layer a.layer) told discard (same_entries old new _ _ at went)

-- the labels that a Commit gives
abbrev labels_of : Call → Option (List Label)
labels_of (calls.Commit slot id name lease labels) = labels
labels_of call = None

abbrev call_in : List Entry → Call
call_in [] = calls.Session
call_in (e ∷ es) = e.call

-- a commit gives the labels of the job's end
pub committed_labels : (j : Job) (old new : SessionValue) (a : ActiveValue) (name : Bytes) (lease : Option Bytes) (labels given : Option (List Label)) (id : ℕ) (usage : Usage)
    → j.end ≡ ends.Commit name lease labels
    → Went old new (call_entry old.number (calls.Commit a.share.slot a.share.id name lease given) (Layer a.layer) (replies.Committed a.share.id usage) ∷ [])
    → HasEnded j old new a (ended.Committed id usage) → given ≡ labels
committed_labels j old new a name lease labels given id usage asked went (named, leased, labelled, end, is, count, mine) =
    ap (λ (l : List Entry). labels_of (call_in l)) (same_entries old new _ _ went mine) ∙ ap labels_in (sym end ∙ asked)

-- `HasRunJob`: a refused prepare is told with its refusal
pub refused_prepare_told : (S : Type 0) (inodes : ℕ) (old new : SessionValue) (j : Job) (told : Refusal)
    → Went old new (call_entry old.number (prepare_call j) Nothing (replies.Refused refusals.AlreadyExists) ∷ [])
    → HasRunJob S inodes old new j [] (Some (ended.NotPrepared told)) → told ≡ refusals.AlreadyExists
refused_prepare_told S inodes old new j told went is =
    told_of old.number (prepare_call j) Nothing told [] (append-nil _ ∙ sym is.own ∙ same_entries old new is.mine _ is.went went)

-- what a Charge needs, and what it wants
abbrev amounts_of : Call → Usage × Usage
amounts_of (calls.Charge slot id need want) = (need, want)
amounts_of call = (no_usage, no_usage)

abbrev amounts_in : List Entry → Usage × Usage
amounts_in [] = (no_usage, no_usage)
amounts_in (e ∷ es) = amounts_of e.call

-- `HasTried`: the Charge of an operation that is done is for the operation's next layer, and wants the job's extra beyond it
pub charged_for_operation : (j : Job) (old new : SessionValue) (a : ActiveValue) (op : Op) (need want now : Usage)
    → Went old new (call_entry old.number (calls.Charge a.share.slot a.share.id need want) Nothing (replies.Charged now) ∷ [])
    → HasTried j old new a op (Ok tt)
    → (next : Tree) × (after op a.layer a.lowers ≡ Ok next) × (need ≡ count_of next) × (want ≡ wanted_charge (count_of next) j.extra)
charged_for_operation j old new a op need want now went (more, inl none, mine) =
    absurd (omega (arith, ap length (sym none ∙ same_entries old new more _ mine went)))
charged_for_operation j old new a op need want now went (more, inr (next, told, made, is), mine) =
    let e = same_entries old new _ more went mine ∙ is in
    (next, made, ap (λ (l : List Entry). (amounts_in l).0) e, ap (λ (l : List Entry). (amounts_in l).1) e)

-- `IsWorked`: a worker that isn't stopped has no job that is not run
pub not_run_told : (S : Type 0) (inodes : ℕ) (j : Job) (s : SessionValue) → IsWorked S inodes (j ∷ []) 1 1 (record { session = Some s; ends = ended.NotRun ∷ []; refused = false }) → ⊥
not_run_told S inodes j s is = by is.session.each
  where
    by : AreEnds (◌≡◌ {A = Bool} false true) s.number inodes (j ∷ []) (ended.NotRun ∷ []) is.session.rest → ⊥
    by (mine, rest, are, (stopped, more), left) = absurd (cc)

-- a worker's own jobs are on its tape
pub own_job : (S : Type 0) (inodes : ℕ) (j other : Job) (s : SessionValue) (reply : Reply) (more : List Entry)
    → s.tape ≡ call_entry s.number calls.Session Nothing replies.Opened ∷ call_entry s.number (prepare_call other) Nothing reply ∷ more
    → HasWorked S inodes (j ∷ []) (ended.Discarded ∷ []) s → prepare_call j ≡ prepare_call other
own_job S inodes j other s reply more tape is = by is.each
  where
    by : AreEnds S s.number inodes (j ∷ []) (ended.Discarded ∷ []) is.rest → prepare_call j ≡ prepare_call other
    by (mine, rest, are, end, left) =
        let first = are ∙ ap (λ (m : List Entry). m ++ rest) end.dropped.entries.are in
        ap (λ (l : List Entry). get_or (map (λ (e : Entry). e.call) l) 0 calls.Session) (sym first ∙ ap (drop 1) (sym is.tape ∙ tape))

-- and each is made once
pub job_once : (S : Type 0) (inodes : ℕ) (j : Job) (s : SessionValue) (first again : Entry) (slot id : ℕ) (held : Usage)
    → s.tape ≡ call_entry s.number calls.Session Nothing replies.Opened ∷ first ∷ discard_entry s.number slot id held ∷ again ∷ discard_entry s.number slot id held ∷ []
    → HasWorked S inodes (j ∷ []) (ended.Discarded ∷ []) s → ⊥
job_once S inodes j s first again slot id held tape is = by is.each
  where
    charged : (k at : ℕ) (layer : Tree) (lowers : List Tree) (charges : List Entry) (last : Entry) → AllByRecursion (IsCharge s.number j k at layer lowers) charges
        → charges ++ last ∷ [] ≡ discard_entry s.number slot id held ∷ again ∷ discard_entry s.number slot id held ∷ [] → ⊥
    charged k at layer lowers [] last each e = absurd (omega (arith, ap length e))
    charged k at layer lowers (c ∷ cs) last each e =
        let is_discard = ap (λ (l : List Entry). get_or (map (λ (x : Entry). x.call) l) 0 calls.Session) e in
        let wrong = sym (ap (λ (x : Entry). x.call) each.0.is) ∙ is_discard in
        absurd (cc)

    by : AreEnds S s.number inodes (j ∷ []) (ended.Discarded ∷ []) is.rest → ⊥
    by (mine, rest, are, end, left) =
        let entries = end.dropped.entries in
        let whole = are ∙ ap (λ (r : List Entry). mine ++ r) left ∙ append-nil mine ∙ entries.are in
        charged end.slot end.id _ end.lowers entries.charges _ entries.needed (ap (drop 1) (sym whole ∙ ap (drop 1) (sym is.tape ∙ tape)))

-- ---- all workers

-- `AreBack`: the ends of all jobs are back
pub ends_back : (S : ℕ → Type 0) (inodes : ℕ) (j : Job) (jobs : List Job) (workers : ℕ) (sessions : List SessionValue) → AreBack S inodes (j ∷ jobs) workers sessions [] → ⊥
ends_back S inodes j jobs workers sessions is = absurd (omega (arith, is.order.count))

-- and the session of a worker that has done a job
pub sessions_back : (S : ℕ → Type 0) (inodes : ℕ) (j : Job) → AreBack S inodes (j ∷ []) 1 [] (ended.Discarded ∷ []) → ⊥
sessions_back S inodes j is = by is.all is.worked is.are is.order
  where
    of : (T : Type 0) (o : Option SessionValue) (ws : List Worked) (es : List Ended) → [] ≡ cons_option o (sessions_of ws) → es ≡ ended.Discarded ∷ [] → HaveWorked T inodes (j ∷ []) es o → ⊥
    of T (Some s) ws es are told worked = absurd (omega (arith, ap length are))
    of T None ws es are told (inl never) = let wrong = sym never ∙ told in absurd (cc)
    of T None ws es are told (inr (why, of_session, never)) = let wrong = sym never ∙ told in absurd (cc)

    by : (all : List Worked) → AreWorked S inodes (j ∷ []) 1 all → [] ≡ sessions_of all → AreInOrder (j ∷ []) 1 all (ended.Discarded ∷ []) → ⊥
    by [] worked are order = absurd (omega (arith, worked.count))
    by (w ∷ ws) worked are order = of _ w.session ws w.ends are (sym (order.each 0 (omega (arith)))) worked.each.0.session

-- `IsReport`: where no worker was stopped, no job is not run
pub none_not_run : (r : Round) (j : Job) (workers : ℕ) (b : BookValue) → IsReport (λ worker. ⊥) r (j ∷ []) workers (ended.NotRun ∷ []) b → ⊥
none_not_run r j workers b is = by is.each.0
  where
    by : IsEnded ((worker : ℕ) × ⊥) r.opening.layer_inodes j ended.NotRun → ⊥
    by (inl (n, mine, not_run)) = not_run.0.1
    by (inr never) = never

-- ---- a script of jobs

-- an answer that counts no job isn't that of one job's end
one_is_counted : (b : BookValue) (names : List Bytes) (totals : List (Bytes × Usage)) (es : List Ended) → length es ≡ 1 → answer_line (Jobs 0 0 0 totals) ≡ answer_line (answer_of es b names) → ⊥
unfolding answer_line escape_byte digits
one_is_counted b names totals [] count e = absurd (omega (arith, count))
one_is_counted b names totals (ended.Committed id usage ∷ []) count e = let wrong : 48 ≡ 49 = ap (λ (t : List ℕ). get_or t 13 0) e in absurd (omega (arith, wrong))
one_is_counted b names totals (ended.Discarded ∷ []) count e = let wrong : 48 ≡ 49 = ap (λ (t : List ℕ). get_or t 27 0) e in absurd (omega (arith, wrong))
one_is_counted b names totals (end ∷ []) count e = let wrong : 48 ≡ 49 = ap (λ (t : List ℕ). get_or t 39 0) e in absurd (omega (arith, wrong))
one_is_counted b names totals (end ∷ more ∷ es) count e = absurd (omega (arith, count))

-- `IsTextOf`: where one job was read and no end is told, the text counts one
pub job_is_counted : (options : JobOptions) (read : ReadValue) (lacking : ℕ) (j : Job) (totals : List (Bytes × Usage)) → options.ends ≡ false → read.jobs ≡ j ∷ [] → read.questions ≡ []
    → IsTextOf options read lacking (answer_line (Jobs 0 0 0 totals)) → ⊥
job_is_counted options read lacking j totals quiet one none is =
    let last = answer_line (answer_of is.ends is.closed read.names) in
    let untold = ap (λ (b : Bool). (if b then end_lines (end_told options.fields read.jobs) 1 is.ends else []) ++ (answers_text options.fields is.closed.state read.questions ++ last)) quiet in
    one_is_counted is.closed read.names totals is.ends (is.report.count ∙ ap length one) (is.lines ∙ untold ∙ ap (λ (asked : List Asked). answers_text options.fields is.closed.state asked ++ last) none)

-- `HasNoReport`: a run of jobs that has no report isn't told as a failed write
pub no_failed_write : (workers : ℕ) (r : Round) (jobs : List Job) → HasNoReport workers r jobs (Lines OutputFailed) → ⊥
no_failed_write workers r jobs none = none

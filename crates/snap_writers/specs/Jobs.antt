-- Jobs, and what is owed by a worker and by a run of all workers.
use Rattle.std.specs.Prelude.{◌≡◌, ◌⊎◌, ◌<◌, ◌≤◌, ℕ, zero, suc, ◌+◌, ◌-◌, Bool, true, false, List, [], ◌∷◌, ◌++◌, length, map, filter_map, take, slice_get, Option, None, Some, Ok, Err}
use Rattle.std.specs.List.{AllByRecursion, AllZip}
use Rattle.snap_path.specs.Memory.{no_memory}
use Rattle.snap_layer.specs.Tree.{Tree}
use Rattle.snap_usage.specs.Counted.{count_of}
use Rattle.snap_usage.specs.declared.usage.Usage.{Usage}
use Rattle.snap_record.specs.Labels.{Bytes, Label}
use Rattle.snap_merge.specs.declared.error.FsError.TheVariants as errors
use Rattle.snap_upper.specs.declared.op.Op.{Op}
use Rattle.snap_upper.specs.After.{Outcome, after}
use Rattle.snap_call.specs.declared.call.Call.{Call}
use Rattle.snap_call.specs.declared.call.Call.TheVariants as calls
use Rattle.snap_call.specs.declared.call.Given.{Given}
use Rattle.snap_call.specs.declared.call.Given.TheVariants.{Nothing, Layer}
use Rattle.snap_call.specs.declared.entry.Entry.{Entry}
use Rattle.snap_call.specs.declared.refusal.Refusal.{Refusal}
use Rattle.snap_call.specs.declared.refusal.Refusal.TheVariants as refusals
use Rattle.snap_call.specs.declared.reply.Reply.{Reply}
use Rattle.snap_call.specs.declared.reply.Reply.TheVariants as replies
use Rattle.snap_call.specs.Journal.{call_entry}
use Rattle.snap_book.specs.Active.{fresh}
use Rattle.snap_book.specs.Book.{BookValue}
use Rattle.snap_book.specs.Wanted.{wanted_charge}
use Rattle.snap_tape.specs.Tapes.{SessionValue}
use Rattle.snap_grants.specs.Grants.{Stored, worth}
use Rattle.snap_round.specs.declared.rule.Round.{Round}
use Rattle.snap_store.specs.Closing.{IsClosedStore}
use Rattle.snap_writers.specs.declared.job.Job.{Job}
use Rattle.snap_writers.specs.declared.job.End.TheVariants as ends
use Rattle.snap_writers.specs.declared.job.Ended.{Ended}
use Rattle.snap_writers.specs.declared.job.Ended.TheVariants as ended
use Rattle.snap_writers.specs.declared.job.Worked.{Worked}
use Rattle.snap_writers.specs.declared.running.RunError.{RunError}
use Rattle.snap_writers.specs.declared.running.RunError.TheVariants.{File, Book}

-- ---- which jobs are a worker's

-- every n-th element, once `skip` are passed over
abbrev pub every : {X : Type 0} → ℕ → ℕ → List X → List X
every n skip [] = []
every n zero (x ∷ xs) = x ∷ every n (n - 1) xs
every n (suc skip) (x ∷ xs) = every n skip xs

-- the jobs of a worker, counted from 1, of `workers`: those whose places, from 0, leave the remainder worker - 1 on division by `workers`
abbrev pub jobs_of : List Job → ℕ → ℕ → List Job
jobs_of jobs worker workers = every workers (worker - 1) jobs

-- ---- which of them were committed

-- a job that ended Committed, and the id and the usage that its end tells
pub record Done : Type 0 where
  pub job : Job
  pub id : ℕ
  pub usage : Usage

abbrev pub with_end : Job → Ended → List Done → List Done
with_end j (ended.Committed id usage) rest = record { job = j; id = id; usage = usage } ∷ rest
with_end j end rest = rest

-- the jobs that ended Committed, in order
abbrev pub done : List Job → List Ended → List Done
done (j ∷ js) (e ∷ es) = with_end j e (done js es)
done js es = []

-- ---- what a job's operations make

-- after an outcome: the next operation's where it is a layer, and else the error
abbrev pub then_after : Outcome → (Tree → Outcome) → Outcome
then_after (Ok next) more = more next
then_after (Err e) more = Err e

-- the layer after all the operations, in order, or the first error
abbrev pub all_after : List Op → Tree → List Tree → Outcome
all_after [] layer lowers = Ok layer
all_after (op ∷ ops) layer lowers = then_after (after op layer lowers) (λ next. all_after ops next lowers)

-- the layer is what the job's operations make of a root alone, over some lower layers, and over none without a parent
pub record IsMadeBy (inodes : ℕ) (j : Job) (layer : Tree) : Type 0 where
  pub lowers : List Tree
  pub base : j.parent ≡ [] → lowers ≡ []
  pub made : all_after j.ops (fresh inodes lowers) lowers ≡ Ok layer

-- ---- the calls for a job, as they stand on a worker's tape

-- its Prepare, without labels
abbrev pub prepare_call : Job → Call
prepare_call j = calls.Prepare j.namespace j.key j.parent []

-- the entry of its granted Prepare
abbrev pub prepared_entry : ℕ → Job → ℕ → ℕ → List ℕ → Entry
prepared_entry n j slot id chain = call_entry n (prepare_call j) Nothing (replies.Prepared id slot chain)

-- a Charge of its snapshot for `need`, which wants the job's extra beyond it
abbrev pub charge_call : Job → ℕ → ℕ → Usage → Call
charge_call j slot id need = calls.Charge slot id need (wanted_charge need j.extra)

-- the entry of a Discard of its snapshot, which tells what that was charged
abbrev pub discard_entry : ℕ → ℕ → ℕ → Usage → Entry
discard_entry n slot id held = call_entry n (calls.Discard slot id) Nothing (replies.Discarded held)

-- the entry of a refused call; none where the journal was full or memory was refused
abbrev pub refused_entry : ℕ → Call → Given → Refusal → List Entry
refused_entry n call given refusals.JournalFull = []
refused_entry n call given (refusals.OutOfMemory want) = []
refused_entry n call given why = call_entry n call given (replies.Refused why) ∷ []

-- a granted Charge for one of the job's operations: what it needs is the count of the layer that the operations up to this one make
pub record IsCharge (n : ℕ) (j : Job) (slot id : ℕ) (layer : Tree) (lowers : List Tree) (e : Entry) : Type 0 where
  pub place : ℕ
  pub next : Tree
  pub now : Usage
  pub inside : place < length j.ops
  pub made : all_after (take (place + 1) j.ops) layer lowers ≡ Ok next
  pub is : e ≡ call_entry n (charge_call j slot id (count_of next)) Nothing (replies.Charged now)

-- the job's entries: its Prepare, which was granted this id and slot; granted Charges for its operations on a root alone, over these layers, of which there are none without a parent; and then the last ones
pub record HasCalls (n inodes : ℕ) (j : Job) (slot id : ℕ) (lowers : List Tree) (mine last : List Entry) : Type 0 where
  pub chain : List ℕ
  pub charges : List Entry
  pub base : j.parent ≡ [] → lowers ≡ []
  pub are : mine ≡ prepared_entry n j slot id chain ∷ (charges ++ last)
  pub needed : AllByRecursion (IsCharge n j slot id (fresh inodes lowers) lowers) charges

-- the last one is a Discard, after these
pub record IsDropped (n inodes : ℕ) (j : Job) (slot id : ℕ) (lowers : List Tree) (mine before : List Entry) : Type 0 where
  pub held : Usage
  pub entries : HasCalls n inodes j slot id lowers mine (before ++ discard_entry n slot id held ∷ [])

-- ---- where a job's operations end

-- why an operation is not done on the layer, and the entry of what was refused: the error is its own there, or memory was refused, and there is no entry; or it has a next layer, and the charge for that was refused
abbrev pub IsErrorOf : ℕ → Job → ℕ → ℕ → RunError → Op → Tree → List Tree → List Entry → Type 0
IsErrorOf n j slot id (File e) op layer lowers entry = ((e ≡ errors.OutOfMemory no_memory) ⊎ (after op layer lowers ≡ Err e)) × (entry ≡ [])
IsErrorOf n j slot id (Book why) op layer lowers entry = ((why ≡ refusals.OutOfMemory no_memory) × (entry ≡ [])) ⊎ ((next : Tree) × (after op layer lowers ≡ Ok next) × (entry ≡ refused_entry n (charge_call j slot id (count_of next)) Nothing why))

-- of the job's operations the one at this place, from 1, is not done: those before it make of the layer another one, on which it has the error
pub record IsUndone (n : ℕ) (j : Job) (slot id place : ℕ) (error : RunError) (layer : Tree) (lowers : List Tree) (entry : List Entry) : Type 0 where
  pub op : Op
  pub at : Tree
  pub first : 1 ≤ place
  pub is : slice_get j.ops (place - 1) ≡ Some op
  pub made : all_after (take (place - 1) j.ops) layer lowers ≡ Ok at
  pub why : IsErrorOf n j slot id error op at lowers entry

-- ---- how a job ended, by its entries

-- its snapshot was committed as its end says: with the layer that its operations make, and the count over that
pub record IsCommitted (n inodes : ℕ) (j : Job) (id : ℕ) (usage : Usage) (mine : List Entry) : Type 0 where
  pub slot : ℕ
  pub lowers : List Tree
  pub layer : Tree
  pub name : Bytes
  pub lease : Option Bytes
  pub labels : Option (List Label)
  pub end : j.end ≡ ends.Commit name lease labels
  pub made : all_after j.ops (fresh inodes lowers) lowers ≡ Ok layer
  pub count : usage ≡ count_of layer
  pub entries : HasCalls n inodes j slot id lowers mine (call_entry n (calls.Commit slot id name lease labels) (Layer layer) (replies.Committed id usage) ∷ [])

-- the commit as its end says was refused so, once its operations were done, and its snapshot was discarded
pub record IsNotCommitted (n inodes : ℕ) (j : Job) (why : Refusal) (mine : List Entry) : Type 0 where
  pub slot : ℕ
  pub id : ℕ
  pub lowers : List Tree
  pub layer : Tree
  pub name : Bytes
  pub lease : Option Bytes
  pub labels : Option (List Label)
  pub end : j.end ≡ ends.Commit name lease labels
  pub made : all_after j.ops (fresh inodes lowers) lowers ≡ Ok layer
  pub dropped : IsDropped n inodes j slot id lowers mine (refused_entry n (calls.Commit slot id name lease labels) (Layer layer) why)

-- its end is to discard, and its snapshot was discarded once its operations were done
pub record IsDiscarded (n inodes : ℕ) (j : Job) (mine : List Entry) : Type 0 where
  pub slot : ℕ
  pub id : ℕ
  pub lowers : List Tree
  pub layer : Tree
  pub end : j.end ≡ ends.Discard
  pub made : all_after j.ops (fresh inodes lowers) lowers ≡ Ok layer
  pub dropped : IsDropped n inodes j slot id lowers mine []

-- an operation was not done, and its snapshot was discarded
pub record IsFailed (n inodes : ℕ) (j : Job) (place : ℕ) (error : RunError) (mine : List Entry) : Type 0 where
  pub slot : ℕ
  pub id : ℕ
  pub lowers : List Tree
  pub entry : List Entry
  pub undone : IsUndone n j slot id place error (fresh inodes lowers) lowers entry
  pub dropped : IsDropped n inodes j slot id lowers mine entry

-- its snapshot was discarded before its end
pub record IsStopped (n inodes : ℕ) (j : Job) (mine : List Entry) : Type 0 where
  pub slot : ℕ
  pub id : ℕ
  pub lowers : List Tree
  pub dropped : IsDropped n inodes j slot id lowers mine []

-- what is owed for a job that ended so, by its entries on the tape of session n; S holds where the gate has stopped its worker
abbrev pub IsEndOf : Type 0 → ℕ → ℕ → Job → Ended → List Entry → Type 0
IsEndOf S n inodes j (ended.Committed id usage) mine = IsCommitted n inodes j id usage mine
IsEndOf S n inodes j ended.Discarded mine = IsDiscarded n inodes j mine
IsEndOf S n inodes j (ended.NotPrepared why) mine = mine ≡ refused_entry n (prepare_call j) Nothing why
IsEndOf S n inodes j ended.NoThread mine = ⊥
IsEndOf S n inodes j (ended.Failed place error) mine = IsFailed n inodes j place error mine
IsEndOf S n inodes j (ended.NotCommitted why) mine = IsNotCommitted n inodes j why mine
IsEndOf S n inodes j ended.NotRun mine = S × ((mine ≡ []) ⊎ IsStopped n inodes j mine)

-- ---- what a worker owes

-- the entries are those of each job, in order, and each end is its job's
abbrev pub AreEnds : Type 0 → ℕ → ℕ → List Job → List Ended → List Entry → Type 0
AreEnds S n inodes [] [] entries = entries ≡ []
AreEnds S n inodes [] (e ∷ es) entries = ⊥
AreEnds S n inodes (j ∷ js) [] entries = ⊥
AreEnds S n inodes (j ∷ js) (e ∷ es) entries = (mine rest : List Entry) × (entries ≡ mine ++ rest) × IsEndOf S n inodes j e mine × AreEnds S n inodes js es rest

-- a worker's session: its tape has its own opening, and then the calls of its jobs
pub record HasWorked (S : Type 0) (inodes : ℕ) (jobs : List Job) (es : List Ended) (s : SessionValue) : Type 0 where
  pub rest : List Entry
  pub tape : s.tape ≡ call_entry s.number calls.Session Nothing replies.Opened ∷ rest
  pub each : AreEnds S s.number inodes jobs es rest

-- no job was prepared, and each has this end
abbrev pub unprepared : {X : Type 0} → Ended → List X → List Ended
unprepared end js = map (λ _. end) js

-- why a session is refused
abbrev pub IsSessionRefusal : Refusal → Type 0
IsSessionRefusal why = (why ≡ refusals.JournalFull) ⊎ ((why ≡ refusals.OutOfMemory no_memory) ⊎ (why ≡ refusals.NumbersSpent))

-- a worker without a session has prepared no job: it got no thread, or its session was refused for one reason
abbrev pub HaveWorked : Type 0 → ℕ → List Job → List Ended → Option SessionValue → Type 0
HaveWorked S inodes jobs es None = (es ≡ unprepared ended.NoThread jobs) ⊎ ((why : Refusal) × IsSessionRefusal why × (es ≡ unprepared (ended.NotPrepared why) jobs))
HaveWorked S inodes jobs es (Some s) = HasWorked S inodes jobs es s

-- what a worker gives back: one end for each job of its own, and its session; a job is NotRun only where it tells that the gate stopped it, and then S holds
pub record IsWorked (S : Type 0) (inodes : ℕ) (jobs : List Job) (worker workers : ℕ) (w : Worked) : Type 0 where
  pub ends : length w.ends ≡ length (jobs_of jobs worker workers)
  pub stopped : w.refused ≡ true → S
  pub session : HaveWorked (w.refused ≡ true) inodes (jobs_of jobs worker workers) w.ends w.session

-- by what a gate answers to a worker at a step: it has stopped the worker
abbrev pub HasStoppedWorker : (ℕ → ℕ → Bool → Type 0) → ℕ → Type 0
HasStoppedWorker answers worker = (step : ℕ) × answers worker step false

-- each element with its place, from k on
abbrev pub Each : {X : Type 0} → (ℕ → X → Type 0) → ℕ → List X → Type 0
Each P k [] = Unit {0}
Each P k (x ∷ xs) = P k x × Each P (k + 1) xs

-- each worker gave back what it owes
pub record AreWorked (S : ℕ → Type 0) (inodes : ℕ) (jobs : List Job) (workers : ℕ) (all : List Worked) : Type 0 where
  pub count : length all ≡ workers
  pub each : Each (λ k w. IsWorked (S (k + 1)) inodes jobs (k + 1) workers w) 0 all

-- the ends of the worker at this place, from 0
abbrev pub ends_at : List Worked → ℕ → List Ended
ends_at [] k = []
ends_at (w ∷ ws) zero = w.ends
ends_at (w ∷ ws) (suc k) = ends_at ws k

-- the ends in the jobs' order: one for each job, of which those of each worker's jobs are its own, in order
pub record AreInOrder (jobs : List Job) (workers : ℕ) (all : List Worked) (ends : List Ended) : Type 0 where
  pub count : length ends ≡ length jobs
  pub each : (k : ℕ) → k < workers → every workers k ends ≡ ends_at all k

-- the sessions of the workers that have one
abbrev pub sessions_of : List Worked → List SessionValue
sessions_of ws = filter_map (λ w. w.session) ws

-- ---- what a run of all workers owes

-- a job for which nothing was called: its worker got no thread, or its session was refused
abbrev pub IsUncalled : Ended → Type 0
IsUncalled ended.NoThread = Unit {0}
IsUncalled (ended.NotPrepared why) = IsSessionRefusal why
IsUncalled end = ⊥

-- how a job ended, by its entries on some session's tape; or nothing was called for it
abbrev pub IsEnded : Type 0 → ℕ → Job → Ended → Type 0
IsEnded S inodes j end = ((n : ℕ) × (mine : List Entry) × IsEndOf S n inodes j end mine) ⊎ IsUncalled end

-- the committed snapshot is the job's: of its namespace, under its name and over its parent, of the id that its end tells, with the layer that the job's operations make; and the usage that its end tells is the count over it
pub record IsStoredOf (inodes : ℕ) (d : Done) (s : Stored) : Type 0 where
  pub namespace : s.namespace ≡ d.job.namespace
  pub name : (lease : Option Bytes) × (labels : Option (List Label)) × (d.job.end ≡ ends.Commit s.name lease labels)
  pub parent : s.parent ≡ d.job.parent
  pub id : s.id ≡ d.id
  pub made : IsMadeBy inodes d.job s.layer
  pub count : d.usage ≡ count_of s.layer

-- the weights of the snapshots, added up
abbrev pub total : (Stored → ℕ) → List Stored → ℕ
total h [] = 0
total h (s ∷ ss) = h s + total h ss

-- of a store of this round: one end for each job, in order, that is the job's; what each worker has given back, by which these are the ends, and all of the store once it is closed with the workers' sessions; and, however snapshots are weighed, its committed ones are those that the round began with and one for each job that ended Committed. S holds of a worker that the gate has stopped
pub record IsReport (S : ℕ → Type 0) (r : Round) (jobs : List Job) (workers : ℕ) (es : List Ended) (b : BookValue) : Type 0 where
  pub count : length es ≡ length jobs
  pub each : AllZip (IsEnded ((worker : ℕ) × S worker) r.opening.layer_inodes) jobs es
  pub all : List Worked
  pub worked : AreWorked S r.opening.layer_inodes jobs workers all
  pub order : AreInOrder jobs workers all es
  pub closed : IsClosedStore r b (sessions_of all)
  pub stored : List Stored
  pub of : AllZip (IsStoredOf r.opening.layer_inodes) (done jobs es) stored
  pub committed : (h : Stored → ℕ) → worth h b.state ≡ worth h b.opening + total h stored

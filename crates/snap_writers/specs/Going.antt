-- A worker on its way through its jobs.
use Rattle.std.specs.Prelude.{◌≡◌, ◌⊎◌, ℕ, ◌+◌, List, [], ◌∷◌, ◌++◌, length, map, Option, None, Some, Result, Ok, Err}
use Rattle.std.specs.List.{AllByRecursion}
use Rattle.snap_layer.specs.Tree.{Tree}
use Rattle.snap_usage.specs.Counted.{count_of}
use Rattle.snap_usage.specs.declared.usage.Usage.{Usage}
use Rattle.snap_record.specs.Labels.{Bytes, Label}
use Rattle.snap_call.specs.declared.call.Call.TheVariants as calls
use Rattle.snap_call.specs.declared.call.Given.TheVariants.{Nothing, Layer}
use Rattle.snap_call.specs.declared.entry.Entry.{Entry}
use Rattle.snap_call.specs.declared.reply.Reply.TheVariants as replies
use Rattle.snap_call.specs.Journal.{call_entry}
use Rattle.snap_upper.specs.declared.op.Op.{Op}
use Rattle.snap_upper.specs.After.{after}
use Rattle.snap_book.specs.Active.{ActiveValue, fresh}
use Rattle.snap_tape.specs.Tapes.{SessionValue}
use Rattle.snap_writers.specs.declared.job.Job.{Job}
use Rattle.snap_writers.specs.declared.job.End.TheVariants as ends
use Rattle.snap_writers.specs.declared.job.Ended.{Ended}
use Rattle.snap_writers.specs.declared.job.Ended.TheVariants as ended
use Rattle.snap_writers.specs.declared.running.RunError.{RunError}
use Rattle.snap_writers.specs.declared.worker.Stop.{Stop}
use Rattle.snap_writers.specs.declared.worker.Stop.TheVariants.{Gate, Failed}
use Rattle.snap_writers.specs.Jobs.{AreEnds, IsCharge, IsEndOf, IsErrorOf, IsUndone, charge_call, discard_entry, prepared_entry, refused_entry}

-- the session's tape went on by these entries
pub record Went (old new : SessionValue) (more : List Entry) : Type 0 where
  pub number : new.number ≡ old.number
  pub tape : new.tape ≡ old.tape ++ more

-- the job's Prepare was granted: the snapshot is a root alone
pub record IsFresh (inodes : ℕ) (old new : SessionValue) (j : Job) (a : ActiveValue) : Type 0 where
  pub chain : List ℕ
  pub went : Went old new (prepared_entry old.number j a.share.slot a.share.id chain ∷ [])
  pub base : j.parent ≡ [] → a.lowers ≡ []
  pub layer : a.layer ≡ fresh inodes a.lowers

-- the entries of an operation on the snapshot that is within its share, or was charged for: none, or the granted Charge for its next layer
abbrev pub IsWithinOrCharged : ℕ → Job → ActiveValue → Op → List Entry → Type 0
IsWithinOrCharged n j a op entries = (entries ≡ []) ⊎ ((next : Tree) × (now : Usage) × (after op a.layer a.lowers ≡ Ok next) × (entries ≡ call_entry n (charge_call j a.share.slot a.share.id (count_of next)) Nothing (replies.Charged now) ∷ []))

-- an operation on the snapshot: the entries of one that is covered; and where it is not done, why, with the entry of that
abbrev pub HasTried : Job → SessionValue → SessionValue → ActiveValue → Op → Result (Unit {0}) RunError → Type 0
HasTried j old new a op (Ok done) = (more : List Entry) × IsWithinOrCharged old.number j a op more × Went old new more
HasTried j old new a op (Err error) = (more entry : List Entry) × IsWithinOrCharged old.number j a op more × IsErrorOf old.number j a.share.slot a.share.id error op a.layer a.lowers entry × Went old new (more ++ entry)

-- operations of the job on the snapshot: granted Charges for them, and then these entries
pub record HasOperated (j : Job) (a : ActiveValue) (old new : SessionValue) (last : List Entry) : Type 0 where
  pub charges : List Entry
  pub needed : AllByRecursion (IsCharge old.number j a.share.slot a.share.id a.layer a.lowers) charges
  pub went : Went old new (charges ++ last)

-- why the operations are not all done on the snapshot, with the entry of that: the gate stopped the worker, which S says, or one was not done
abbrev pub IsStopOf : Type 0 → ℕ → Job → ActiveValue → Stop → List Entry → Type 0
IsStopOf S n j a Gate entry = S × (entry ≡ [])
IsStopOf S n j a (Failed place error) entry = IsUndone n j a.share.slot a.share.id place error a.layer a.lowers entry

-- the snapshot was committed or discarded as the job's end says; or the commit was refused, and it was discarded
abbrev pub HasEnded : Job → SessionValue → SessionValue → ActiveValue → Ended → Type 0
HasEnded j old new a (ended.Committed id usage) = (name : Bytes) × (lease : Option Bytes) × (labels : Option (List Label)) × (j.end ≡ ends.Commit name lease labels) × (id ≡ a.share.id) × (usage ≡ count_of a.layer) × Went old new (call_entry old.number (calls.Commit a.share.slot a.share.id name lease labels) (Layer a.layer) (replies.Committed a.share.id usage) ∷ [])
HasEnded j old new a ended.Discarded = (j.end ≡ ends.Discard) × Went old new (discard_entry old.number a.share.slot a.share.id a.share.usage ∷ [])
HasEnded j old new a (ended.NotCommitted why) = (name : Bytes) × (lease : Option Bytes) × (labels : Option (List Label)) × (j.end ≡ ends.Commit name lease labels) × Went old new (refused_entry old.number (calls.Commit a.share.slot a.share.id name lease labels) (Layer a.layer) why ++ discard_entry old.number a.share.slot a.share.id a.share.usage ∷ [])
HasEnded j old new a end = ⊥

-- these entries are the rest of the job's, whose first are those before, and the job ended so
pub record IsRunOf (S : Type 0) (inodes : ℕ) (old new : SessionValue) (j : Job) (before : List Entry) (end : Ended) : Type 0 where
  pub mine : List Entry
  pub went : Went old new mine
  pub own : IsEndOf S old.number inodes j end (before ++ mine)

-- the end where there is one; else the gate has stopped the worker, which S says
abbrev pub HasRunJob : Type 0 → ℕ → SessionValue → SessionValue → Job → List Entry → Option Ended → Type 0
HasRunJob S inodes old new j before None = IsRunOf S inodes old new j before ended.NotRun
HasRunJob S inodes old new j before (Some end) = IsRunOf ⊥ inodes old new j before end

abbrev pub none_run : {X : Type 0} → List X → List Ended
none_run js = map (λ _. ended.NotRun) js

-- of all a worker's jobs these are left, and `place` are behind it, whose ends are told; the others' are NotRun
pub record IsGoing (inodes : ℕ) (all left : List Job) (s : SessionValue) (es : List Ended) (place : ℕ) : Type 0 where
  pub gone : List Job
  pub front : List Ended
  pub rest : List Entry
  pub jobs : all ≡ gone ++ left
  pub count : length all ≡ place + length left
  pub behind : length front ≡ place
  pub are : es ≡ front ++ none_run left
  pub tape : s.tape ≡ call_entry s.number calls.Session Nothing replies.Opened ∷ rest
  pub own : AreEnds ⊥ s.number inodes gone front rest

-- What holds of a book whenever no call is under way, and what a recorded call makes of it.
use Rattle.std.specs.Prelude.{◌≡◌, ℕ, ◌+◌, ◌≤◌, ◌^◌, List, [], ◌∷◌, ◌++◌, Option, None, Some, length, Result, Ok, Err}
use Rattle.snap_usage.specs.declared.usage.Usage.{Usage}
use Rattle.snap_record.specs.Labels.{Bytes, Label}
use Rattle.snap_call.specs.declared.call.Call.{Call}
use Rattle.snap_call.specs.declared.call.Call.TheVariants.{Commit}
use Rattle.snap_call.specs.declared.call.Given.{Given}
use Rattle.snap_call.specs.declared.entry.Entry.{Entry}
use Rattle.snap_call.specs.declared.refusal.Refusal.{Refusal}
use Rattle.snap_call.specs.declared.refusal.Refusal.TheVariants.{JournalFull, OutOfMemory}
use Rattle.snap_call.specs.declared.reply.Reply.{Reply}
use Rattle.snap_call.specs.declared.reply.Reply.TheVariants.{Committed, Prepared, Refused}
use Rattle.snap_call.specs.declared.state.State.{State}
use Rattle.snap_call.specs.Good.{Good}
use Rattle.snap_call.specs.Journal.{call_entry, Replays}
use Rattle.snap_call.specs.Records.{open_count}
use Rattle.snap_call.specs.State.{ancestors, ids_of}
use Rattle.snap_call.specs.Step.{step, IsAllowed}
use Rattle.snap_accounts.specs.declared.prepare.Vacancy.{Vacancy}

-- what clauses see of the journal: its entries, the state that it began at, the most entries, the copy of the last entry until it is taken, and for how many more entries it has memory
pub record JournalValue : Type 0 where
  pub entries : List Entry
  pub opening : State
  pub limit : ℕ
  pub copy : Option Entry
  pub room : ℕ

-- what clauses see of a book
pub record BookValue : Type 0 where
  pub state : State
  pub journal : List Entry
  pub opening : State
  pub limit : ℕ
  pub copy : Option Entry

-- the call was allowed; the state and the reply are those of its one step; its entry is the journal's last one, and is to be taken once
pub record Recorded (old new : BookValue) (n : ℕ) (call : Call) (given : Given) (reply : Reply) : Type 0 where
  pub allowed : IsAllowed old.state call given
  pub state : new.state ≡ (step old.state call given).0
  pub answer : reply ≡ (step old.state call given).1
  pub journal : new.journal ≡ old.journal ++ call_entry n call given reply ∷ []
  pub opening : new.opening ≡ old.opening
  pub limit : new.limit ≡ old.limit
  pub copy : new.copy ≡ Some (call_entry n call given reply)

-- a refused call is recorded, except where the journal is full or memory is refused: then all is as before
abbrev pub RefusedBy : BookValue → BookValue → ℕ → Call → Given → Refusal → Type 0
RefusedBy old new n call given JournalFull = new ≡ old
RefusedBy old new n call given (OutOfMemory want) = new ≡ old
RefusedBy old new n call given why = Recorded old new n call given (Refused why)

-- a call's reply: a refusal as above, and any other reply is recorded
abbrev pub AnsweredBy : BookValue → BookValue → ℕ → Call → Given → Reply → Type 0
AnsweredBy old new n call given (Refused why) = RefusedBy old new n call given why
AnsweredBy old new n call given reply = Recorded old new n call given reply

-- the refusal, where the value that was handed in comes back with it
abbrev pub IsRefusedWith : {X Y : Type 0} → Result X (Refusal × Y) → Refusal → Type 0
IsRefusedWith (Ok x) why = ⊥
IsRefusedWith (Err back) why = back.0 ≡ why

-- the call commits the snapshot of this slot and id
abbrev pub IsCommit : ℕ → ℕ → Call → Type 0
IsCommit slot id call = (name : Bytes) × (lease : Option Bytes) × (labels : Option (List Label)) × (call ≡ Commit slot id name lease labels)

-- the reply to a commit of this id and count, which was tested
abbrev pub commit_reply : Result (Unit {0}) Refusal → ℕ → Usage → Reply
commit_reply (Ok done) id usage = Committed id usage
commit_reply (Err why) id usage = Refused why

-- the reply to a prepare on this parent, which was tested
abbrev pub prepare_reply : Result Vacancy Refusal → State → Bytes → Reply
prepare_reply (Ok v) s parent = Prepared s.next_id v.slot (ids_of (ancestors v.place parent s.records))
prepare_reply (Err why) s parent = Refused why

-- a round begins at a good state without sessions; its open snapshots are those that stood there
pub record IsBeginning (s : State) : Type 0 where
  pub good : Good s
  pub sessions : s.sessions ≡ 0

-- a round that was opened or reopened, and not rolled, begins without open snapshots, too
pub record IsOpening (s : State) : Type 0 where
  pub good : Good s
  pub idle : open_count s.records ≡ 0
  pub sessions : s.sessions ≡ 0

-- the entry, where there is one, is the last of these
abbrev pub IsLast : Option Entry → List Entry → Type 0
IsLast None es = Unit {0}
IsLast (Some e) es = (before : List Entry) × (es ≡ before ++ e ∷ [])

-- the round's opening state is one; the entries lead from it to this state; the copy is that of the last entry; each open snapshot has an entry left for its end, and the memory for it; entries are counted from the opening state's, and their numbers stay below 2^62
pub record Kept (s : State) (j : JournalValue) : Type 0 where
  pub began : IsBeginning j.opening
  pub replays : Replays j.opening j.entries s
  pub last : IsLast j.copy j.entries
  pub below : length j.entries + open_count s.records ≤ j.limit
  pub room : open_count s.records ≤ j.room
  pub numbered : s.entries ≡ j.opening.entries + length j.entries
  pub numbers : j.opening.entries + j.limit ≤ 2 ^ 62

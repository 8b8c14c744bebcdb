-- What a close finds of a book and the sessions that are handed in, and what is known of a closed store.
use Rattle.std.specs.Prelude.{◌≡◌, ℕ, ◌<◌, List, map, filter, Option, None, Some, Ok, Err}
use Rattle.std.specs.List.{AllByRecursion}
use Rattle.snap_call.specs.declared.entry.Entry.{Entry}
use Rattle.snap_call.specs.declared.state.State.{State}
use Rattle.snap_call.specs.Good.{Good}
use Rattle.snap_call.specs.Journal.{Replays}
use Rattle.snap_call.specs.Records.{charge_of, is_active, open_count, sum_of}
use Rattle.snap_call.specs.State.{name_at}
use Rattle.snap_call.specs.Totals.{counted_in}
use Rattle.snap_book.specs.Book.{BookValue, IsOpening}
use Rattle.snap_tape.specs.Sessions.{AreAll, IsCheck, IsOwn}
use Rattle.snap_tape.specs.Tapes.{SessionValue}
use Rattle.snap_tape.specs.declared.check.SessionsFault.TheVariants as faults
use Rattle.snap_round.specs.declared.rule.Round.{Round}
use Rattle.snap_store.specs.Rounds.{round_of}
use Rattle.snap_store.specs.declared.cause.OpenKey.{OpenKey}
use Rattle.snap_store.specs.declared.cause.Cause.{Cause}
use Rattle.snap_store.specs.declared.cause.Cause.TheVariants.{StillOut, SessionsMissing, TapeMismatch, OutOfMemory}

-- ---- why a store is not closed

-- the namespaces and the keys of the active snapshots, in the order of the records
abbrev pub open_keys : State → List OpenKey
open_keys s = map (λ r. record { namespace = name_at r.namespace s.namespaces; key = r.key }) (filter (λ r. is_active r.content) s.records)

-- a snapshot is open, and these are the keys of all that are; or none is, and it is what the sessions' check says
abbrev pub IsCause : BookValue → List SessionValue → Option Cause → Type 0
IsCause b sessions None = (open_count b.state.records ≡ 0) × IsCheck b.journal sessions (Ok tt)
IsCause b sessions (Some (StillOut keys)) = (0 < open_count b.state.records) × (keys ≡ open_keys b.state)
IsCause b sessions (Some SessionsMissing) = (open_count b.state.records ≡ 0) × IsCheck b.journal sessions (Err faults.Missing)
IsCause b sessions (Some (TapeMismatch m)) = (open_count b.state.records ≡ 0) × IsCheck b.journal sessions (Err (faults.Mismatch m))
IsCause b sessions (Some (OutOfMemory want)) = ⊥

-- ---- what holds of the book of every store

-- what holds of it: the round began at a good state without open snapshots and sessions, and the journal leads, one step for each entry, from there to this state, which is good
pub record KeptBook (b : BookValue) : Type 0 where
  pub began : IsOpening b.opening
  pub replays : Replays b.opening b.journal b.state
  pub good : Good b.state

-- ---- a close that fails

-- why a book was not closed: its cause; or a snapshot is open, and memory was refused for the list of those that are
abbrev pub IsClosingRefusal : BookValue → List SessionValue → Cause → Type 0
IsClosingRefusal b sessions (OutOfMemory want) = 0 < open_count b.state.records
IsClosingRefusal b sessions cause = IsCause b sessions (Some cause)

-- it is the cause of a book that is kept, of the store's round
abbrev pub HasCause : Round → List SessionValue → Cause → Type 0
HasCause r sessions cause = (b : BookValue) × (round_of b ≡ r) × KeptBook b × IsClosingRefusal b sessions cause

-- ---- a closed store

-- the sessions are all those of the round, and each one's tape is its own entries of the journal
pub record AreSessions (journal : List Entry) (sessions : List SessionValue) : Type 0 where
  pub all : AreAll journal sessions
  pub tapes : AllByRecursion (IsOwn journal) sessions

-- no snapshot is open, and what each namespace is charged is the sum of the blocks and inodes counted over its committed layers
pub record IsSettled (s : State) : Type 0 where
  pub idle : open_count s.records ≡ 0
  pub totals : (place : ℕ) → charge_of place s.records ≡ sum_of counted_in place s.records

-- all of a store of this round that is closed: its round, its sessions, what is charged, and how the journal leads from the round's beginning to its state
pub record IsClosedStore (r : Round) (b : BookValue) (handed : List SessionValue) : Type 0 where
  pub round : round_of b ≡ r
  pub sessions : AreSessions b.journal handed
  pub settled : IsSettled b.state
  pub kept : KeptBook b

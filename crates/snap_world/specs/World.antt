-- A store and the hands of its writers.
use Rattle.std.specs.Prelude.{◌≡◌, ℕ, Bool, List, length, Option, None, Some, slice_index_or, slice_set}
use Rattle.snap_usage.specs.Counted.{Covers, count_of}
use Rattle.snap_record.specs.Records.{usage_of}
use Rattle.snap_record.specs.declared.record.Record.{Record}
use Rattle.snap_call.specs.declared.entry.Entry.{Entry}
use Rattle.snap_call.specs.declared.state.State.{State}
use Rattle.snap_call.specs.Good.{Good}
use Rattle.snap_call.specs.Journal.{Replays}
use Rattle.snap_call.specs.Records.{active_at}
use Rattle.snap_call.specs.State.{ancestors, layers_of}
use Rattle.snap_book.specs.Active.{ActiveValue}
use Rattle.snap_book.specs.Book.{BookValue, IsBeginning}

-- the hand of an open slot: the snapshot as its writer has it, and whether its layer is sealed
pub record HandValue : Type 0 where
  pub snapshot : ActiveValue
  pub sealed : Bool

-- a store, the entries of the round, the state that it began at, the most entries, and the hand of each slot
pub record WorldValue : Type 0 where
  pub state : State
  pub journal : List Entry
  pub opening : State
  pub limit : ℕ
  pub hands : List (Option HandValue)

-- the hand of the slot, if one stands there
abbrev pub hand_at : ℕ → List (Option HandValue) → Option HandValue
hand_at slot hands = slice_index_or hands slot None

-- the hands with that of the slot changed
abbrev pub with_hand : ℕ → Option HandValue → List (Option HandValue) → List (Option HandValue)
with_hand slot h hands = slice_set hands slot h

-- the world of a book and of hands
abbrev pub world_of : BookValue → List (Option HandValue) → WorldValue
world_of b hands = record { state = b.state; journal = b.journal; opening = b.opening; limit = b.limit; hands = hands }

-- the hand is that of the record that is active in the slot: it has the record's namespace, key and id, the layers below its own are those of the record's committed ancestors, its share is what the record is charged, and the share covers the count of its layer
pub record IsHandOf (k : ℕ) (rs : List Record) (h : HandValue) (r : Record) : Type 0 where
  pub namespace : h.snapshot.namespace ≡ r.namespace
  pub key : h.snapshot.key ≡ r.key
  pub lowers : h.snapshot.lowers ≡ layers_of (ancestors r.namespace r.parent rs)
  pub slot : h.snapshot.share.slot ≡ k
  pub id : h.snapshot.share.id ≡ r.id
  pub usage : h.snapshot.share.usage ≡ usage_of r.content
  pub covers : Covers h.snapshot.share.usage (count_of h.snapshot.layer)

-- the slot has a hand exactly where it is open
abbrev pub AgreesAt : ℕ → List Record → Option HandValue → Option Record → Type 0
AgreesAt slot rs None None = Unit {0}
AgreesAt slot rs (Some h) (Some r) = IsHandOf slot rs h r
AgreesAt slot rs o found = ⊥

-- the state is good, the entries lead to it from a state that a round begins at, and the hands are those of the open slots
pub record Fits (w : WorldValue) : Type 0 where
  pub good : Good w.state
  pub began : IsBeginning w.opening
  pub replays : Replays w.opening w.journal w.state
  pub places : length w.hands ≡ w.state.slots
  pub hands : (slot : ℕ) → AgreesAt slot w.state.records (hand_at slot w.hands) (active_at slot w.state.records)

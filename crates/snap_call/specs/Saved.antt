-- A snapshot as it is saved, and a state that it is put back into. Saved snapshots come in the order of their ids, so that each finds its parent among those before it.
use Rattle.std.specs.Prelude.{◌≡◌, ℕ, zero, suc, ◌+◌, ◌<◌, ◌≤◌, ◌==◌, Bool, true, false, ◌&&◌, nat_le, nat_lt, List, [], ◌∷◌, ◌++◌, map, filter, None, Result, Ok, Err}
use Rattle.std.specs.List.{list_any}
use Rattle.snap_usage.specs.declared.usage.Usage.{Usage}
use Rattle.snap_usage.specs.Counted.{count_of, covers, no_usage}
use Rattle.snap_ledger.specs.States.{CoversOne, plus}
use Rattle.snap_record.specs.Labels.{Bytes}
use Rattle.snap_record.specs.Records.{usage_of}
use Rattle.snap_record.specs.declared.record.Content.{Content}
use Rattle.snap_record.specs.declared.record.Content.TheVariants as contents
use Rattle.snap_record.specs.declared.record.Record.{Record}
use Rattle.snap_call.specs.declared.config.Namespace.{Namespace}
use Rattle.snap_call.specs.declared.refusal.Refusal.{Refusal}
use Rattle.snap_call.specs.declared.refusal.Refusal.TheVariants.{BadArgument, TooManyActives, NumbersSpent}
use Rattle.snap_call.specs.declared.saved.Saved.{Saved}
use Rattle.snap_call.specs.declared.saved.SavedContent.{SavedContent}
use Rattle.snap_call.specs.declared.saved.SavedContent.TheVariants.{View, Active, Committed}
use Rattle.snap_call.specs.declared.state.State.{State}
use Rattle.snap_call.specs.Good.{IsFormed, IsShown}
use Rattle.snap_call.specs.Promised.{IsUsageCounted}
use Rattle.snap_call.specs.Records.{charge_of, has_key, is_slot, active_at, with_record}
use Rattle.snap_call.specs.Results.{◌>>=◌}
use Rattle.snap_call.specs.State.{limit_at, name_at, is_taken_at, is_base, is_too_deep, over_limit, shown_layers}
use Rattle.snap_call.specs.Step.{Test, must, must_not, tested, one, place_for}

-- what the snapshot holds, on a parent in the namespace at a place: a view shows the layers of its committed ancestors, and a committed one's usage is counted over its layer
abbrev pub content_for : SavedContent → ℕ → Bytes → List Record → Content
content_for View place parent rs = contents.View (shown_layers place parent rs)
content_for (Active slot charged) place parent rs = contents.Active slot charged
content_for (Committed layer) place parent rs = contents.Committed layer (count_of layer)

-- what its namespace is charged for it
abbrev pub charge_for : SavedContent → Usage
charge_for View = no_usage
charge_for (Active slot charged) = charged
charge_for (Committed layer) = count_of layer

-- its record, in the namespace at the place
abbrev pub record_of : State → ℕ → Saved → Record
record_of s place saved = record { namespace = place; key = saved.key; parent = saved.parent; id = saved.id; labels = saved.labels; created = saved.created; updated = saved.updated; content = content_for saved.content place saved.parent s.records }

-- the state with the record in its place; the next id is the one after its own
abbrev pub with_saved : State → Record → State
with_saved s r = record s { records = with_record r s.records; next_id = r.id + 1 }

-- ---- the tests, in their order, after those of a new snapshot of the key on the parent (`place_for`)

-- the first refusal of tests, if there is one
abbrev pub tests_answer : List Test → Result Unit Refusal
tests_answer tests = tested Err tests (Ok tt)

-- its id comes after all others, and of the entries so far one made it, and this or a later one last changed it
abbrev pub numbers_answer : State → Saved → Result Unit Refusal
numbers_answer s saved = tests_answer (must (nat_le s.next_id saved.id) NumbersSpent ∷ must (nat_le 1 saved.created && nat_le saved.created saved.updated && nat_le saved.updated s.entries) NumbersSpent ∷ [])

-- an active one's slot is one of the store's and is free, and it is charged at least 1/1
abbrev pub slot_answer : State → SavedContent → Result Unit Refusal
slot_answer s (Active slot charged) = tests_answer (must (nat_lt slot s.slots) TooManyActives ∷ must_not (list_any (is_slot slot) s.records) TooManyActives ∷ must (covers charged one) BadArgument ∷ [])
slot_answer s content = Ok tt

-- the limit of the namespace at the place covers its charge with the usage added
abbrev pub room_answer : State → ℕ → Usage → Result Unit Refusal
room_answer s place more = tests_answer (must (covers (limit_at place s.namespaces) (plus (charge_of place s.records) more)) (over_limit s place) ∷ [])

-- the state with a saved snapshot put back, or the first refusal
abbrev pub put_back : State → Saved → Result State Refusal
put_back s saved = do
  place ← place_for s saved.namespace saved.key saved.parent saved.labels
  numbers ← numbers_answer s saved
  slot ← slot_answer s saved.content
  room ← room_answer s place (charge_for saved.content)
  Ok (with_saved s (record_of s place saved))

-- ---- a record that has passed them

-- an active one's slot is one of the store's and is free, and it is charged at least 1/1
abbrev pub HasFreeSlot : State → Content → Type 0
HasFreeSlot s (contents.Active slot charged) = (slot < s.slots) × (active_at slot s.records ≡ None) × CoversOne charged
HasFreeSlot s content = Unit {0}

-- the record can be put back
pub record CanPutBack (s : State) (r : Record) : Type 0 where
  pub taken : is_taken_at r.namespace s.namespaces ≡ true
  pub new : has_key r.namespace r.key s.records ≡ false
  pub base : is_base r.namespace r.parent s.records ≡ true
  pub deep : is_too_deep s.ancestors r.namespace r.parent s.records ≡ false
  pub above : s.next_id ≤ r.id
  pub formed : IsFormed s.entries r
  pub slot : HasFreeSlot s r.content
  pub shown : IsShown s.records r.namespace r.parent r.content
  pub counted : IsUsageCounted r.content
  pub fits : covers (limit_at r.namespace s.namespaces) (plus (charge_of r.namespace s.records) (usage_of r.content)) ≡ true

-- ---- what is saved of a state

-- what is saved of what a snapshot holds
abbrev pub saved_content : Content → SavedContent
saved_content (contents.View layers) = View
saved_content (contents.Active slot charged) = Active slot charged
saved_content (contents.Committed layer usage) = Committed layer

-- what is saved of its record
abbrev pub saved_of : List Namespace → Record → Saved
saved_of ns r = record { namespace = name_at r.namespace ns; key = r.key; parent = r.parent; id = r.id; labels = r.labels; created = r.created; updated = r.updated; content = saved_content r.content }

-- the record has this id
abbrev pub has_id : ℕ → Record → Bool
has_id id r = r.id == id

-- the records with ids below n, in the order of their ids
unfoldable pub by_id : ℕ → List Record → List Record
by_id zero rs = []
by_id (suc n) rs = by_id n rs ++ filter (has_id n) rs

-- the snapshots of a state as they are saved, in the order of their ids
abbrev pub saved_records : State → List Saved
saved_records s = map (saved_of s.namespaces) (by_id s.next_id s.records)

-- the state with all of them put back, one after another, or the first refusal
unfoldable pub put_all_back : State → List Saved → Result State Refusal
put_all_back s [] = Ok s
put_all_back s (saved ∷ more) = do
  next ← put_back s saved
  put_all_back next more

-- the state without snapshots and leases, whose first snapshot may have the id 1
abbrev pub without_snapshots : State → State
without_snapshots s = record s { records = []; leases = []; next_id = 1 }

-- an active snapshot is charged at least 1/1
abbrev pub IsChargedOne : Content → Type 0
IsChargedOne (contents.Active slot charged) = covers charged one ≡ true
IsChargedOne content = Unit {0}

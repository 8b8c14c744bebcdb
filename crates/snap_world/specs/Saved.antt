-- A world that is restored from what was saved of one, a snapshot after another.
use Rattle.std.specs.Prelude.{◌≡◌, ℕ, ◌≤◌, ◌^◌, true, false, nat_le, nat_lt, replicate, if◌then◌else◌, List, [], ◌∷◌, length, Option, None, Some, IfSome, Result, Ok, Err}
use Rattle.std.specs.Option.{option_map}
use Rattle.snap_layer.specs.Layers.{IsLayer}
use Rattle.snap_layer.specs.Tree.{Tree}
use Rattle.snap_usage.specs.Counted.{count_of, covers}
use Rattle.snap_record.specs.Labels.{HasDistinctKeys, are_labels}
use Rattle.snap_record.specs.Records.{usage_of}
use Rattle.snap_record.specs.declared.record.Record.{Record}
use Rattle.snap_call.specs.declared.config.Config.{Config}
use Rattle.snap_call.specs.declared.config.ConfigField.{ConfigField}
use Rattle.snap_call.specs.declared.refusal.Refusal.{Refusal}
use Rattle.snap_call.specs.declared.refusal.Refusal.TheVariants.{BadArgument}
use Rattle.snap_call.specs.declared.saved.Saved.{Saved}
use Rattle.snap_call.specs.declared.saved.SavedContent.{SavedContent}
use Rattle.snap_call.specs.declared.saved.SavedContent.TheVariants.{View, Active, Committed}
use Rattle.snap_call.specs.declared.state.State.{State}
use Rattle.snap_call.specs.Forms.{bad_saved_field}
use Rattle.snap_call.specs.Good.{Good}
use Rattle.snap_call.specs.Records.{active_at}
use Rattle.snap_call.specs.Results.{◌>>=◌}
use Rattle.snap_call.specs.Saved.{put_back, tests_answer}
use Rattle.snap_call.specs.State.{ancestors, layers_of, opening}
use Rattle.snap_call.specs.Step.{must}
use Rattle.snap_world.specs.declared.fault.RestoreFault.{RestoreFault}
use Rattle.snap_world.specs.declared.fault.RestoreFault.TheVariants as faults
use Rattle.snap_world.specs.declared.restoring.SavedHand.{SavedHand}
use Rattle.snap_world.specs.declared.save.SavedSnapshot.{SavedSnapshot}
use Rattle.snap_book.specs.Round.{roll_answer}
use Rattle.snap_world.specs.World.{AgreesAt, HandValue, WorldValue, hand_at, with_hand}

-- the state and the hands, as far as they are restored
pub record RestoringValue : Type 0 where
  pub state : State
  pub hands : List (Option HandValue)

-- ---- before anything is put back

-- the answer to a configuration, of which a part may be malformed, and the number of the last entry
abbrev pub head_answer : Option ConfigField → ℕ → Result Unit RestoreFault
head_answer (Some field) entries = Err (faults.Config field)
head_answer None entries = if nat_le entries (2 ^ 62) then Ok tt else Err faults.Entries

-- the answer where a saved store is opened with a configuration and the number of its last entry
abbrev pub open_answer : Config → ℕ → Result Unit RestoreFault
open_answer c entries = head_answer (bad_saved_field c) entries

-- no snapshots, leases and hands
abbrev pub opened_with : Config → ℕ → RestoringValue
opened_with c entries = record { state = record (opening c) { entries = entries }; hands = replicate c.slots None }

-- ---- snapshots

-- a snapshot has a hand exactly where it is active, and what it is charged covers the hand's layer
abbrev pub hand_answer : SavedContent → Option SavedHand → Result Unit Refusal
hand_answer View None = Ok tt
hand_answer View (Some h) = Err BadArgument
hand_answer (Active slot charged) None = Err BadArgument
hand_answer (Active slot charged) (Some h) = tests_answer (must (covers charged (count_of h.layer)) BadArgument ∷ [])
hand_answer (Committed layer) None = Ok tt
hand_answer (Committed layer) (Some h) = Err BadArgument

-- the hand of the record that is active in a slot, with the layer that was saved, over those of its committed ancestors
abbrev pub restored_hand : List Record → ℕ → SavedHand → Record → HandValue
restored_hand rs slot h r = record { snapshot = record { namespace = r.namespace; key = r.key; lowers = layers_of (ancestors r.namespace r.parent rs); layer = h.layer; share = record { slot = slot; id = r.id; usage = usage_of r.content } }; sealed = h.sealed }

-- the hands with that of a snapshot that was put back, where it is active
abbrev pub hands_after : List Record → SavedContent → Option SavedHand → List (Option HandValue) → List (Option HandValue)
hands_after rs (Active slot charged) (Some h) hands = with_hand slot (option_map (restored_hand rs slot h) (active_at slot rs)) hands
hands_after rs content hand hands = hands

-- with one snapshot more, or the first refusal
abbrev pub put_snapshot : RestoringValue → Saved → Option SavedHand → Result RestoringValue Refusal
put_snapshot v saved hand = do
  state ← put_back v.state saved
  answer ← hand_answer saved.content hand
  Ok (record { state = state; hands = hands_after state.records saved.content hand v.hands })

-- the hand, not sealed
abbrev pub unsealed : Option SavedHand → Option SavedHand
unsealed None = None
unsealed (Some h) = Some (record h { sealed = false })

-- ---- the end

-- a refusal as the fault of a part
abbrev pub faulted : {X : Type 0} → (Refusal → RestoreFault) → Result X Refusal → Result X RestoreFault
faulted part (Ok x) = Ok x
faulted part (Err why) = Err (part why)

-- the answer where the round of a world begins at what is restored, whose next snapshot has the id
abbrev pub finish_answer : RestoringValue → ℕ → ℕ → Result Unit RestoreFault
finish_answer v next_id journal = if nat_lt next_id v.state.next_id then Err faults.NextId else faulted faults.Journal (roll_answer v.state journal)

-- the world: its round begins there, and has no entries yet
abbrev pub restored_world : RestoringValue → ℕ → ℕ → WorldValue
restored_world v next_id journal = (let s : State = record v.state { next_id = next_id } in record { state = s; journal = []; opening = s; limit = journal; hands = v.hands })

-- what is true of them: the state is good and without sessions, the number of its last entry is at most 2^62, and the hands are those of the open slots
pub record FitsSoFar (v : RestoringValue) : Type 0 where
  pub good : Good v.state
  pub sessions : v.state.sessions ≡ 0
  pub numbers : v.state.entries ≤ 2 ^ 62
  pub places : length v.hands ≡ v.state.slots
  pub hands : (slot : ℕ) → AgreesAt slot v.state.records (hand_at slot v.hands) (active_at slot v.state.records)

-- ---- what is saved of a world

-- of the hand of a slot
abbrev pub copied_hand : ℕ → List (Option HandValue) → Option SavedHand
copied_hand slot hands = option_map (λ h. record { layer = h.snapshot.layer; sealed = h.sealed }) (hand_at slot hands)

-- of the hand of a snapshot that is active
abbrev pub saved_hand : SavedContent → List (Option HandValue) → Option SavedHand
saved_hand (Active slot charged) hands = copied_hand slot hands
saved_hand content hands = None

-- of a snapshot, with its record
abbrev pub saved_snapshot : List (Option HandValue) → Saved → SavedSnapshot
saved_snapshot hands saved = record { saved = saved; hand = saved_hand saved.content hands }

-- the layer that a saved snapshot has, its own or that of its hand
abbrev pub saved_layer : SavedContent → Option SavedHand → Option Tree
saved_layer View hand = None
saved_layer (Active slot charged) hand = option_map (λ h. h.layer) hand
saved_layer (Committed layer) hand = Some layer

-- none but an active snapshot has a hand
abbrev pub HasNoOtherHand : SavedContent → Option SavedHand → Type 0
HasNoOtherHand View hand = hand ≡ None
HasNoOtherHand (Active slot charged) hand = Unit {0}
HasNoOtherHand (Committed layer) hand = hand ≡ None

-- its labels have distinct keys, and its layer is one
pub record IsSoundSnapshot (s : SavedSnapshot) : Type 0 where
  pub distinct : HasDistinctKeys s.saved.labels
  pub layer : IfSome (saved_layer s.saved.content s.hand) IsLayer

-- the same, with at most 64 labels, each well-formed, and a hand only where it is active
pub record IsWholeSnapshot (s : SavedSnapshot) : Type 0 where
  pub sound : IsSoundSnapshot s
  pub labels : are_labels s.saved.labels ≡ true
  pub hand : HasNoOtherHand s.saved.content s.hand

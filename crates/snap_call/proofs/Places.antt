-- What is true where a place or a slot for a new snapshot was found.
use Rattle.std.proofs.Common.{◌≡◌, ℕ, Bool, true, false, List, Option, None, Some, refl, ap, ◌∙◌, subst}
use Rattle.std.specs.Prelude.{if◌then◌else◌, ◌&&◌, nat_le, Result, Ok, Err}
use Rattle.std.specs.Option.{option_map_or}
use Rattle.snap_path.specs.Limits.{most_number}
use Rattle.snap_usage.specs.Counted.{covers}
use Rattle.snap_ledger.specs.States.{plus}
use Rattle.snap_record.specs.Labels.{Bytes, Label, are_labels}
use Rattle.snap_call.specs.declared.refusal.Refusal.{Refusal}
use Rattle.snap_call.specs.declared.refusal.Refusal.TheVariants.{BadArgument, NotFound, AlreadyExists, NotCommitted, TooDeep, NumbersSpent, NoNamespace}
use Rattle.snap_call.specs.declared.state.State.{State}
use Rattle.snap_call.specs.Forms.{is_key, is_parent}
use Rattle.snap_call.specs.Records.{charge_of, has_key, lowest_free}
use Rattle.snap_call.specs.State.{place_of, limit_at, over_limit, is_present, is_base, is_too_deep}
use Rattle.snap_call.specs.Step.{one, place_on, place_for, slot_for}
use Rattle.snap_call.proofs.Parts.{slot_or_refusal}

-- a snapshot of the key on the parent can stand at the place of the namespace
pub record IsPlace (s : State) (namespace key parent : Bytes) (place : ℕ) : Type 0 where
  pub named : place_of namespace s.namespaces ≡ Some place
  pub free : has_key place key s.records ≡ false
  pub base : is_base place parent s.records ≡ true
  pub deep : is_too_deep s.ancestors place parent s.records ≡ false

-- an answer that is no refusal comes from the tests that were passed
module _ {X : Type 0} where
  pub past_test : (b : Bool) (why : Refusal) (next : Result X Refusal) (x : X) → (if b then Err why else next) ≡ Ok x → (b ≡ false) × (next ≡ Ok x)
  past_test true why next x e = absurd (cc)
  past_test false why next x e = (refl, e)

  pub past_needed : (b : Bool) (why : Refusal) (next : Result X Refusal) (x : X) → (if b then next else Err why) ≡ Ok x → (b ≡ true) × (next ≡ Ok x)
  past_needed true why next x e = (refl, e)
  past_needed false why next x e = absurd (cc)

same_place : (p place : ℕ) (found : Result ℕ Refusal) → found ≡ Ok p → found ≡ Ok place → p ≡ place
same_place p place found e f = cc

place_on-Ok : (s : State) (namespace key parent : Bytes) (p place : ℕ) → place_of namespace s.namespaces ≡ Some p → place_on s.ancestors p key parent s.records ≡ Ok place → IsPlace s namespace key parent place
place_on-Ok s namespace key parent p place named e =
    let present = past_needed (is_present p parent s.records) NotFound _ place e in
    let free = past_test (has_key p key s.records) AlreadyExists _ place present.1 in
    let base = past_needed (is_base p parent s.records) NotCommitted _ place free.1 in
    let deep = past_test (is_too_deep s.ancestors p parent s.records) TooDeep _ place base.1 in
    subst (IsPlace s namespace key parent) (same_place p place (Ok p) refl deep.1) (record { named = named; free = free.0; base = base.0; deep = deep.0 })

place_in-Ok : (s : State) (namespace key parent : Bytes) (place : ℕ) (o : Option ℕ) → place_of namespace s.namespaces ≡ o → option_map_or (λ at. place_on s.ancestors at key parent s.records) o (Err NoNamespace) ≡ Ok place → IsPlace s namespace key parent place
place_in-Ok s namespace key parent place None named e = absurd (cc)
place_in-Ok s namespace key parent place (Some p) named e = place_on-Ok s namespace key parent p place named e

formed-Ok : (s : State) (namespace key parent : Bytes) (place : ℕ) (formed : Bool) → (if formed then option_map_or (λ at. place_on s.ancestors at key parent s.records) (place_of namespace s.namespaces) (Err NoNamespace) else Err BadArgument) ≡ Ok place → IsPlace s namespace key parent place
formed-Ok s namespace key parent place true e = place_in-Ok s namespace key parent place (place_of namespace s.namespaces) refl e
formed-Ok s namespace key parent place false e = absurd (cc)

-- a place that was found is one
pub place_for-Ok : (s : State) (namespace key parent : Bytes) (labels : List Label) (place : ℕ) → place_for s namespace key parent labels ≡ Ok place → IsPlace s namespace key parent place
place_for-Ok s namespace key parent labels place e = formed-Ok s namespace key parent place (is_key key && is_parent parent && are_labels labels) e

-- and the texts have their forms
pub place_for-texts : (s : State) (namespace key parent : Bytes) (labels : List Label) (place : ℕ) → place_for s namespace key parent labels ≡ Ok place → (is_key key && is_parent parent && are_labels labels) ≡ true
place_for-texts s namespace key parent labels place e = (past_needed (is_key key && is_parent parent && are_labels labels) BadArgument _ place e).0

-- a slot that is the lowest free one, with room for 1/1 and an id that is left
pub record IsSlotFor (s : State) (place slot : ℕ) : Type 0 where
  pub lowest : lowest_free s.slots s.records ≡ Some slot
  pub room : covers (limit_at place s.namespaces) (plus (charge_of place s.records) one) ≡ true
  pub few : nat_le s.next_id most_number ≡ true

roomy-Ok : (s : State) (place k slot : ℕ) (room few : Bool) → (if room then if few then Ok k else Err NumbersSpent else Err (over_limit s place)) ≡ Ok slot → (k ≡ slot) × (room ≡ true) × (few ≡ true)
roomy-Ok s place k slot true true e = (cc, refl, refl)
roomy-Ok s place k slot true false e = absurd (cc)
roomy-Ok s place k slot false few e = absurd (cc)

slot_in-Ok : (s : State) (place slot : ℕ) (o : Option ℕ) → lowest_free s.slots s.records ≡ o → slot_or_refusal s place o ≡ Ok slot → IsSlotFor s place slot
slot_in-Ok s place slot None low e = absurd (cc)
slot_in-Ok s place slot (Some k) low e =
    let h = roomy-Ok s place k slot (covers (limit_at place s.namespaces) (plus (charge_of place s.records) one)) (nat_le s.next_id most_number) e in
    record { lowest = low ∙ ap (λ (n : ℕ). Some n) h.0; room = h.1; few = h.2 }

-- a slot that was found is one
pub slot_for-Ok : (s : State) (place slot : ℕ) → slot_for s place ≡ Ok slot → IsSlotFor s place slot
slot_for-Ok s place slot e = slot_in-Ok s place slot (lowest_free s.slots s.records) refl e

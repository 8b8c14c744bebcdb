-- What is kept beside the state, after a new snapshot.
use Rattle.std.specs.Prelude.{if◌then◌else◌, ◌&&◌, Ok, Err}
use Rattle.std.proofs.Common.{Bool, ◌≡◌, ℕ, ◌+◌, ◌<◌, ◌≤◌, List, set, true, false, None, refl, sym, ap, ◌∙◌, subst, arith}
use Rattle.std.proofs.lemmas.Bool.{leb-true}
use Rattle.snap_path.specs.Limits.{most_number}
use Rattle.snap_usage.specs.declared.usage.Usage.{Usage}
use Rattle.snap_usage.specs.Counted.{no_usage, covers}
use Rattle.snap_ledger.specs.States.{ChargeState, plus}
use Rattle.snap_record.specs.Labels.{Bytes, Label, are_labels}
use Rattle.snap_record.specs.declared.record.Record.{Record}
use Rattle.snap_record.specs.declared.record.Content.TheVariants.{Active}
use Rattle.snap_call.specs.declared.refusal.Refusal.TheVariants.{TooDeep}
use Rattle.snap_call.specs.declared.state.State.{State}
use Rattle.snap_call.specs.Forms.{is_key, is_parent}
use Rattle.snap_call.specs.Good.{Good}
use Rattle.snap_call.specs.Records.{charge_of, active_at, has_key, is_slot, open_count, with_record, max_slots}
use Rattle.snap_call.specs.State.{limit_at, is_present, is_base, is_taken_at, is_too_deep}
use Rattle.snap_call.specs.Step.{one, place_for, place_on, slot_for, new_record}
use Rattle.snap_call.proofs.Counts.{open_count-with_active, open_count-most}
use Rattle.snap_call.proofs.Keeping.{covers-Covers, good_prepared}
use Rattle.snap_call.proofs.Leasing.{place_of-taken, taken-below}
use Rattle.snap_call.proofs.Lowest.{lowest_free-Some}
use Rattle.snap_call.proofs.Places.{place_for-Ok, place_for-texts, slot_for-Ok}
use Rattle.snap_call.proofs.Slots.{Active-is_slot, charge_at-None}
use Rattle.snap_accounts.specs.Accounts.{AreAccounts}
use Rattle.snap_accounts.specs.Slots.{charge_in}
use Rattle.snap_accounts.specs.Vacant.{IsSite, IsVacant}
use Rattle.snap_accounts.proofs.Accounting.{accounts_added, charge_in-at}

-- a new snapshot is in its slot
pub new_active-is_slot : (s : State) (place : ℕ) (key parent : Bytes) (labels : List Label) (slot : ℕ) → is_slot slot (new_record s place key parent labels (Active slot one)) ≡ true
new_active-is_slot s place key parent labels slot = Active-is_slot slot one (new_record s place key parent labels (Active slot one)) refl

-- there is one open snapshot more
pub open_count-prepared : (s : State) (place : ℕ) (key parent : Bytes) (labels : List Label) (slot : ℕ) (rs : List Record) → rs ≡ with_record (new_record s place key parent labels (Active slot one)) s.records → open_count rs ≡ open_count s.records + 1
open_count-prepared s place key parent labels slot rs is = ap open_count is ∙ open_count-with_active slot (new_record s place key parent labels (Active slot one)) s.records (new_active-is_slot s place key parent labels slot)

-- a free slot holds nothing
pub charge_in-free : (s : State) (us : List Usage) (cs : List ChargeState) (n slot : ℕ) → AreAccounts s us cs n → slot < max_slots → active_at slot s.records ≡ None → (charge_in cs slot).usage ≡ no_usage
charge_in-free s us cs n slot accounts low none = ap (λ (c : ChargeState). c.usage) (charge_in-at s us cs n slot accounts low ∙ charge_at-None slot s.records none)

-- at most 4096 snapshots are open
pub open-most : (s : State) (us : List Usage) (cs : List ChargeState) (n : ℕ) → AreAccounts s us cs n → n ≤ max_slots
open-most s us cs n accounts = let most = open_count-most s.slots s.records accounts.good.slots accounts.good.open_slots in omega (arith, most, accounts.open_are, accounts.good.few_slots.1)

-- a new snapshot is charged, and its slot is taken
pub accounts_prepared : (s : State) (us vs : List Usage) (cs ds : List ChargeState) (n place slot : ℕ) (key parent : Bytes) (labels : List Label) (rs : List Record)
    → AreAccounts s us cs n → is_taken_at place s.namespaces ≡ true → has_key place key s.records ≡ false → is_base place parent s.records ≡ true → is_too_deep s.ancestors place parent s.records ≡ false
    → (is_key key && is_parent parent && are_labels labels) ≡ true → slot < s.slots → slot < max_slots → active_at slot s.records ≡ None → covers (limit_at place s.namespaces) (plus (charge_of place s.records) one) ≡ true
    → rs ≡ with_record (new_record s place key parent labels (Active slot one)) s.records → vs ≡ set us place (plus (charge_of place s.records) one) → ds ≡ set cs slot (record { slot = slot; id = s.next_id; usage = one; issued = true })
    → AreAccounts (record s { records = rs; next_id = s.next_id + 1; entries = s.entries + 1 }) vs ds (n + 1)
accounts_prepared s us vs cs ds n place slot key parent labels rs accounts taken new base deep texts low few none fits is is_vs is_ds =
    let good = good_prepared s place key parent labels slot accounts.good taken new base deep texts low none (covers-Covers (limit_at place s.namespaces) (plus (charge_of place s.records) one) fits) in
    accounts_added s (record s { records = rs; next_id = s.next_id + 1; entries = s.entries + 1 }) us vs cs ds n (n + 1) slot (new_record s place key parent labels (Active slot one)) accounts
    (subst (λ (l : List Record). Good (record s { records = l; next_id = s.next_id + 1; entries = s.entries + 1 })) (sym is) good)
    none (new_active-is_slot s place key parent labels slot) few (taken-below place s.namespaces taken) refl is
    (ap (λ (k : ℕ). k + 1) accounts.open_are ∙ sym (open_count-prepared s place key parent labels slot rs is))
    is_vs is_ds

-- ---- the tests of a parent

after_tests : {X : Type 0} (p h b d : Bool) (w x y z next : X) → p ≡ true → h ≡ false → b ≡ true → (if p then if h then x else if b then if d then z else next else y else w) ≡ (if d then z else next)
after_tests p h b d w x y z next e f g = λ i. if e i then if f i then x else if g i then if d then z else next else y else w

module _ (most : ℕ) (rs : List Record) (key parent : Bytes) (place : ℕ) (present : is_present place parent rs ≡ true) (new : has_key place key rs ≡ false) (base : is_base place parent rs ≡ true) where
  -- the last one is whether it is too deep
  tested : place_on most place key parent rs ≡ (if is_too_deep most place parent rs then Err TooDeep else Ok place)
  tested = after_tests (is_present place parent rs) (has_key place key rs) (is_base place parent rs) (is_too_deep most place parent rs) _ _ _ _ _ present new base

  pub parent-too_deep : is_too_deep most place parent rs ≡ true → place_on most place key parent rs ≡ Err TooDeep
  parent-too_deep deep = tested ∙ ap (λ (b : Bool). if b then Err TooDeep else Ok place) deep

  pub parent-fits : is_too_deep most place parent rs ≡ false → place_on most place key parent rs ≡ Ok place
  parent-fits deep = tested ∙ ap (λ (b : Bool). if b then Err TooDeep else Ok place) deep

-- ---- a place and a slot

-- a place that was found, where an id is left
pub site : (s : State) (namespace key parent : Bytes) (labels : List Label) (place : ℕ) → place_for s namespace key parent labels ≡ Ok place → s.next_id ≤ most_number → IsSite s place key parent labels
site s namespace key parent labels place e few =
    let is = place_for-Ok s namespace key parent labels place e in
    record { texts = place_for-texts s namespace key parent labels place e; taken = place_of-taken namespace s.namespaces place is.named; new = is.free; base = is.base; deep = is.deep; numbers = few }

-- where both were found, a snapshot can be added there
pub vacant : (s : State) (namespace key parent : Bytes) (labels : List Label) (place slot : ℕ) → slot < max_slots → place_for s namespace key parent labels ≡ Ok place → slot_for s place ≡ Ok slot → IsVacant s (record { place = place; slot = slot }) key parent labels
vacant s namespace key parent labels place slot few e f =
    let found = slot_for-Ok s place slot f in
    let free = lowest_free-Some s.slots s.records slot found.lowest in
    record { site = site s namespace key parent labels place e (leb-true s.next_id most_number found.few); low = free.0; few = few; free = free.1; fits = found.room }

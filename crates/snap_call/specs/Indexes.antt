-- What is kept of the records so that searches needn't go over the list.
use Rattle.std.specs.Prelude.{◌≡◌, ℕ, ◌/◌, Bool, true, false, List, Option, None, Some, slice_get}
use Rattle.std.specs.List.{AllByRecursion}
use Rattle.std.specs.List.Sorted.{IsStrictlySortedBy}
use Rattle.std.specs.Option.{option_map, option_and_then, is_some}
use Rattle.std.specs.Ordering.{is_gt}
use Rattle.snap_record.specs.declared.record.Content.{Content}
use Rattle.snap_record.specs.declared.record.Content.TheVariants.{Active}
use Rattle.snap_record.specs.declared.record.Record.{Record}
use Rattle.snap_call.specs.Records.{record_cmp, active_at, AllPairwise, AreApart, HasLowSlot, max_slots}
use Rattle.snap_call.specs.declared.open_slots.Name.{Name}

-- the records are in order: none comes after a later one
abbrev pub IsAscending : List Record → Type 0
IsAscending rs = AllPairwise (λ r t. is_gt (record_cmp r t) ≡ false) rs

-- the name that a table has for a slot; nothing past its end
abbrev pub name_in : ℕ → List (Option Name) → Option Name
name_in slot names = option_and_then (λ name. name) (slice_get names slot)

-- a slot is in the stretch of this number: each has 64 slots
abbrev pub stretch_of : ℕ → ℕ
stretch_of slot = slot / 64

-- each slot has a name in a stretch that is marked
abbrev pub AreMarked : List Bool → List (Option Name) → Type 0
AreMarked marks names = (slot : ℕ) → slice_get marks (stretch_of slot) ≡ Some true → is_some (name_in slot names) ≡ true

-- the slot of an active snapshot
abbrev pub slot_of : Content → Option ℕ
slot_of (Active slot charged) = Some slot
slot_of content = None

-- a record's name
abbrev pub record_name_of : Record → Name
record_name_of r = record { place = r.namespace; key = r.key }

-- each record has a key of its own and, where it is active, a low slot of its own, and the table has for each slot the name of the record that is active there
pub record AreIndexed (rs : List Record) (names : List (Option Name)) : Type 0 where
  pub sorted : IsStrictlySortedBy record_cmp rs
  pub apart : AllPairwise AreApart rs
  pub low : AllByRecursion (λ r. HasLowSlot max_slots r.content) rs
  pub slots : (slot : ℕ) → name_in slot names ≡ option_map record_name_of (active_at slot rs)

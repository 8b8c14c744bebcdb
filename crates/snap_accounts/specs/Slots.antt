-- The charges of all slots, in a row.
use Rattle.std.specs.Prelude.{◌≡◌, ℕ, ◌<◌, List, length, slice_index_or}
use Rattle.snap_ledger.specs.States.{ChargeState, free_charge}
use Rattle.snap_call.specs.Records.{max_slots}

-- the charge of a slot, in a row of charges
abbrev pub charge_in : List ChargeState → ℕ → ChargeState
charge_in charges slot = slice_index_or charges slot (free_charge slot)

-- there is a charge for each of the 4096 slots that a store can have, in its place
pub record IsRow (charges : List ChargeState) : Type 0 where
  pub count : length charges ≡ max_slots
  pub places : (slot : ℕ) → slot < max_slots → (charge_in charges slot).slot ≡ slot

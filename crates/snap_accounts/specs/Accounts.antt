-- What is kept beside the state.
use Rattle.std.specs.Prelude.{◌≡◌, ℕ, ◌<◌, List, Some, slice_get, length}
use Rattle.snap_usage.specs.declared.usage.Usage.{Usage}
use Rattle.snap_ledger.specs.States.{ChargeState}
use Rattle.snap_call.specs.declared.state.State.{State}
use Rattle.snap_call.specs.Good.{Good}
use Rattle.snap_call.specs.Records.{charge_of, charge_at, open_count, max_slots}

-- what is kept beside the state agrees with it: a total for each namespace, which is its charge; the charge of each slot; and the number of open snapshots
pub record AreAccounts (s : State) (totals : List Usage) (charges : List ChargeState) (opened : ℕ) : Type 0 where
  pub good : Good s
  pub count : length totals ≡ length s.namespaces
  pub totals_are : (place : ℕ) → place < length s.namespaces → slice_get totals place ≡ Some (charge_of place s.records)
  pub charges_are : (slot : ℕ) → slot < max_slots → slice_get charges slot ≡ Some (charge_at slot s.records)
  pub open_are : opened ≡ open_count s.records

-- An open slot and the share in its writer's hands.
use Rattle.std.specs.Prelude.{◌≡◌, ℕ, ◌<◌, length}
use Rattle.snap_usage.specs.Counted.{Covers}
use Rattle.snap_ledger.specs.States.{ShareState, Meets}
use Rattle.snap_call.specs.declared.state.State.{State}
use Rattle.snap_call.specs.Records.{charge_of, charge_at, active_at, max_slots}
use Rattle.snap_accounts.specs.Totals.{place_if}

-- the slot is charged what the share holds, and its snapshot is of the namespace at the place
pub record IsShareCharged (s : State) (place : ℕ) (share : ShareState) : Type 0 where
  pub low : share.slot < max_slots
  pub met : Meets (charge_at share.slot s.records) share
  pub namespace : place ≡ place_if (active_at share.slot s.records)
  pub inside : place < length s.namespaces
  pub covers : Covers (charge_of place s.records) share.usage

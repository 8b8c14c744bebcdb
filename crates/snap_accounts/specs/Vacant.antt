-- Where a new snapshot can go.
use Rattle.std.specs.Prelude.{◌≡◌, ℕ, ◌<◌, ◌≤◌, ◌&&◌, true, false, List, None}
use Rattle.snap_path.specs.Limits.{most_number}
use Rattle.snap_usage.specs.Counted.{covers}
use Rattle.snap_ledger.specs.States.{plus}
use Rattle.snap_record.specs.Labels.{Bytes, Label, are_labels}
use Rattle.snap_call.specs.declared.state.State.{State}
use Rattle.snap_call.specs.Forms.{is_key, is_parent}
use Rattle.snap_call.specs.Records.{charge_of, active_at, has_key, max_slots}
use Rattle.snap_call.specs.State.{limit_at, is_base, is_taken_at, is_too_deep}
use Rattle.snap_call.specs.Step.{one}
use Rattle.snap_accounts.specs.declared.prepare.Vacancy.{Vacancy}

-- a snapshot of this key and parent, with these labels, can be added there: they are well-formed, the namespace is one of the store's, has no snapshot of the key and the parent as a base that is not too deep for the store, and an id is left
pub record IsSite (s : State) (place : ℕ) (key parent : Bytes) (labels : List Label) : Type 0 where
  pub texts : (is_key key && is_parent parent && are_labels labels) ≡ true
  pub taken : is_taken_at place s.namespaces ≡ true
  pub new : has_key place key s.records ≡ false
  pub base : is_base place parent s.records ≡ true
  pub deep : is_too_deep s.ancestors place parent s.records ≡ false
  pub numbers : s.next_id ≤ most_number

-- an active one can be: its slot is a free one of the store, and its namespace's limit covers 1/1 more
pub record IsVacant (s : State) (v : Vacancy) (key parent : Bytes) (labels : List Label) : Type 0 where
  pub site : IsSite s v.place key parent labels
  pub low : v.slot < s.slots
  pub few : v.slot < max_slots
  pub free : active_at v.slot s.records ≡ None
  pub fits : covers (limit_at v.place s.namespaces) (plus (charge_of v.place s.records) one) ≡ true

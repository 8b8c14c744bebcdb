-- When an open snapshot can be committed.
use Rattle.std.specs.Prelude.{◌≡◌, ℕ, true, false, List, Option}
use Rattle.snap_record.specs.Labels.{Bytes, Label}
use Rattle.snap_call.specs.declared.state.State.{State}
use Rattle.snap_call.specs.Records.{active_at, has_key}
use Rattle.snap_call.specs.Step.{are_formed, has_named}
use Rattle.snap_accounts.specs.Totals.{place_if}

-- the snapshot of the slot can be committed under the name: the name, the lease and the labels, where given, are well-formed; its namespace doesn't have the name, and has the lease, where one is given
pub record CanCommit (s : State) (slot : ℕ) (name : Bytes) (lease : Option Bytes) (labels : Option (List Label)) : Type 0 where
  pub formed : are_formed name lease labels ≡ true
  pub free : has_key (place_if (active_at slot s.records)) name s.records ≡ false
  pub named : has_named s (place_if (active_at slot s.records)) lease ≡ true

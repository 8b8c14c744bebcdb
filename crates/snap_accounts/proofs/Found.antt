-- A snapshot that is found by its key.
use Rattle.std.proofs.Common.{◌≡◌, ℕ, Bool, true, false, List, Some, IsSome, refl, ap}
use Rattle.std.specs.Prelude.{◌↔◌, IsErrOf, Result, Ok, Err, not}
use Rattle.snap_record.specs.Labels.{Bytes, Label, are_labels}
use Rattle.snap_record.specs.Updates.{is_granted}
use Rattle.snap_record.specs.declared.error.LabelsError.{LabelsError}
use Rattle.snap_record.specs.declared.error.LabelsError.TheVariants.{BadLabels}
use Rattle.snap_record.specs.declared.record.Record.{Record}
use Rattle.snap_call.specs.declared.state.State.{State}
use Rattle.snap_call.specs.Good.{Good, IsFormed}
use Rattle.snap_call.specs.Records.{record_at}
use Rattle.snap_call.specs.State.{is_too_deep, most_ancestors}
use Rattle.snap_call.proofs.Chains.{chain}
use Rattle.snap_call.proofs.Formed.{texts_parts}
use Rattle.snap_call.proofs.Keeping.{good_chains}
use Rattle.snap_call.proofs.Lists.{record_at-all}

-- it has its chain of ancestors
pub found-deep : (s : State) (place : ℕ) (key : Bytes) (r : Record) → Good s → record_at place key s.records ≡ Some r → is_too_deep most_ancestors r.namespace r.parent s.records ≡ false
found-deep s place key r good e = ap not (record_at-all (λ (t : Record). IsSome (chain most_ancestors s.records t)) place key s.records r e (good_chains s good))

-- and well-formed labels
pub found-labels : (s : State) (place : ℕ) (key : Bytes) (r : Record) → Good s → record_at place key s.records ≡ Some r → are_labels r.labels ≡ true
found-labels s place key r good e = (texts_parts s.entries r (record_at-all (IsFormed s.entries) place key s.records r e good.formed)).2

-- an update of them that has a result was granted
pub granted-from : (result : Result (List Label) LabelsError) (labels old given : List Label) (paths : List Bytes) → result ≡ Ok labels → (IsErrOf result BadLabels ↔ (is_granted old given paths ≡ false)) → is_granted old given paths ≡ true
granted-from result labels old given paths is bad = by (is_granted old given paths) bad
  where
    by : (b : Bool) → (IsErrOf result BadLabels ↔ (b ≡ false)) → b ≡ true
    by true told = refl
    by false told = let err : result ≡ Err BadLabels = told.1 refl in absurd (cc)

-- A namespace's charge is the sum of the counts over its committed layers and of its open shares.
use Rattle.std.proofs.Common.{◌≡◌, ℕ, List, [], ◌∷◌, refl}
use Rattle.std.specs.Prelude.{◌==◌, if◌then◌else◌}
use Rattle.std.specs.List.{AllByRecursion}
use Rattle.snap_usage.specs.Counted.{no_usage}
use Rattle.snap_ledger.specs.States.{plus}
use Rattle.snap_record.specs.Records.{usage_of}
use Rattle.snap_record.specs.declared.record.Content.{Content}
use Rattle.snap_record.specs.declared.record.Content.TheVariants.{View, Active, Committed}
use Rattle.snap_record.specs.declared.record.Record.{Record}
use Rattle.snap_call.specs.Records.{charge_of, sum_of}
use Rattle.snap_call.specs.Totals.{usage_taken}
use Rattle.snap_call.specs.Promised.{IsUsageCounted}

same_taken : (c : Content) → IsUsageCounted c → usage_of c ≡ usage_taken c
same_taken (View layers) h = refl
same_taken (Active slot charged) h = refl
same_taken (Committed layer usage) h = h

pub charge_is : (place : ℕ) (rs : List Record) → AllByRecursion (λ r. IsUsageCounted r.content) rs → charge_of place rs ≡ sum_of usage_taken place rs
charge_is place [] all = refl
charge_is place (r ∷ rs) all = λ i. plus (if r.namespace == place then same_taken r.content all.0 i else no_usage) (charge_is place rs all.1 i)

-- What a namespace is charged where no snapshot is open.
use Rattle.std.specs.Prelude.{if◌then◌else◌, ◌==◌}
use Rattle.std.specs.Option.{option_map}
use Rattle.std.proofs.Common.{◌≡◌, ℕ, List, [], ◌∷◌, Option, None, Some, refl, ap, ◌∙◌, arith}
use Rattle.snap_usage.specs.declared.usage.Usage.{Usage}
use Rattle.snap_usage.specs.Counted.{no_usage}
use Rattle.snap_ledger.specs.States.{plus}
use Rattle.snap_record.specs.declared.record.Content.{Content}
use Rattle.snap_record.specs.declared.record.Content.TheVariants.{View, Active, Committed}
use Rattle.snap_record.specs.declared.record.Record.{Record}
use Rattle.snap_call.specs.Good.{Good}
use Rattle.snap_call.specs.declared.state.State.{State}
use Rattle.snap_call.specs.Records.{charge_of, open_count, sum_of}
use Rattle.snap_call.specs.Totals.{counted_in, usage_taken}
use Rattle.snap_call.proofs.Lists.{active_one, open_count-cons}
use Rattle.snap_call.proofs.Totals.{charge_is}

same_counted : (c : Content) → active_one c ≡ 0 → usage_taken c ≡ counted_in c
same_counted (View layers) e = refl
same_counted (Committed layer usage) e = refl
same_counted (Active slot charged) e = absurd (omega (arith, e))

pub counts_alone : (place : ℕ) (rs : List Record) → open_count rs ≡ 0 → sum_of usage_taken place rs ≡ sum_of counted_in place rs
counts_alone place [] idle = refl
counts_alone place (r ∷ rs) idle =
    let one = open_count-cons r rs in
    λ i. plus (if r.namespace == place then same_counted r.content (omega (arith, idle, one)) i else no_usage) (counts_alone place rs (omega (arith, idle, one)) i)

pub charged_counts : (s : State) → Good s → open_count s.records ≡ 0 → (place : ℕ) → charge_of place s.records ≡ sum_of counted_in place s.records
charged_counts s good idle place = charge_is place s.records good.promised.counted ∙ counts_alone place s.records idle

-- the same of a namespace that may be missing
pub totals_alone : (found : Option ℕ) (rs : List Record) → open_count rs ≡ 0 → option_map (λ place. sum_of usage_taken place rs) found ≡ option_map (λ place. sum_of counted_in place rs) found
totals_alone None rs idle = refl
totals_alone (Some place) rs idle = ap (λ (u : Usage). Some u) (counts_alone place rs idle)

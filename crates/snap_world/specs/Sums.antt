-- Sums over the hands, slot by slot.
use Rattle.std.specs.Prelude.{ℕ, zero, suc, ◌==◌, List, Option, None, Some, if◌then◌else◌}
use Rattle.snap_usage.specs.declared.usage.Usage.{Usage}
use Rattle.snap_usage.specs.Counted.{count_of, no_usage}
use Rattle.snap_ledger.specs.States.{minus, plus}
use Rattle.snap_world.specs.World.{HandValue, hand_at}

-- the share of the hand, and what of it the layer doesn't take
abbrev pub share_in : HandValue → Usage
share_in h = h.snapshot.share.usage

abbrev pub spare_in : HandValue → Usage
spare_in h = minus h.snapshot.share.usage (count_of h.snapshot.layer)

-- what the hand of a slot adds to the sum of the namespace at the place
abbrev pub added_by : (HandValue → Usage) → ℕ → Option HandValue → Usage
added_by part place None = no_usage
added_by part place (Some h) = if h.snapshot.namespace == place then part h else no_usage

-- the sum over the hands of the slots below a number
unfoldable pub hand_sum_below : (HandValue → Usage) → ℕ → List (Option HandValue) → ℕ → Usage
hand_sum_below part place hands zero = no_usage
hand_sum_below part place hands (suc n) = plus (hand_sum_below part place hands n) (added_by part place (hand_at n hands))

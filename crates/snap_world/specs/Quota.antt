-- What a namespace may take and what it takes, as quota tools tell it.
use Rattle.std.specs.Prelude.{ℕ, List, Option, option_map, unwrap_or}
use Rattle.snap_usage.specs.declared.usage.Usage.{Usage}
use Rattle.snap_usage.specs.Counted.{count_of, no_usage}
use Rattle.snap_ledger.specs.States.{minus}
use Rattle.snap_record.specs.Labels.{Bytes}
use Rattle.snap_record.specs.declared.record.Content.{Content}
use Rattle.snap_record.specs.declared.record.Content.TheVariants.{Active, Committed}
use Rattle.snap_call.specs.Records.{charge_of, sum_of}
use Rattle.snap_call.specs.State.{limit_at, place_of}
use Rattle.snap_world.specs.declared.quota.Quota.{Quota}
use Rattle.snap_world.specs.World.{HandValue, WorldValue, hand_at}

-- what a committed snapshot is charged, its stored usage; and nothing for any other
abbrev pub committed_usage : Content → Usage
committed_usage (Committed layer usage) = usage
committed_usage content = no_usage

-- what an active snapshot is charged, its share; and nothing for any other
abbrev pub active_usage : Content → Usage
active_usage (Active slot charged) = charged
active_usage content = no_usage

-- what the layer of the slot's hand takes; nothing where there is none
abbrev pub layer_count_at : ℕ → List (Option HandValue) → Usage
layer_count_at slot hands = unwrap_or (option_map (λ h. count_of h.snapshot.layer) (hand_at slot hands)) no_usage

-- what an active snapshot is charged beyond what its layer takes; and nothing for any other
abbrev pub spare_usage : List (Option HandValue) → Content → Usage
spare_usage hands (Active slot charged) = minus charged (layer_count_at slot hands)
spare_usage hands content = no_usage

-- the quota of the namespace at a place: its limit, and what it is charged, of that what its committed snapshots are, what its active ones are, and what of the latter is spare; what is free is the limit less the charge
abbrev pub quota_at : WorldValue → ℕ → Quota
quota_at w place = record {
  limit = limit_at place w.state.namespaces;
  charged = charge_of place w.state.records;
  committed = sum_of committed_usage place w.state.records;
  active = sum_of active_usage place w.state.records;
  spare = sum_of (spare_usage w.hands) place w.state.records;
  free = minus (limit_at place w.state.namespaces) (charge_of place w.state.records);
}

-- that of the namespace of this name, if the store has it
abbrev pub quota : WorldValue → Bytes → Option Quota
quota w namespace = option_map (quota_at w) (place_of namespace w.state.namespaces)

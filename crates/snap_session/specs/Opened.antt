-- The store that a script has opened; the public clauses of `Script` see this value.
use Rattle.std.specs.Prelude.{ℕ, Bool, false, if◌then◌else◌, List, [], Option, None, Some, filter_map, replicate, unwrap_or}
use Rattle.std.specs.Option.{option_map}
use Rattle.snap_usage.specs.declared.usage.Usage.{Usage}
use Rattle.snap_usage.specs.Counted.{no_usage}
use Rattle.snap_record.specs.Labels.{Bytes}
use Rattle.snap_call.specs.declared.config.Config.{Config}
use Rattle.snap_call.specs.declared.config.Namespace.{Namespace}
use Rattle.snap_call.specs.Records.{charge_of}
use Rattle.snap_call.specs.State.{is_taken, opening, place_of}
use Rattle.snap_world.specs.World.{WorldValue, hand_at}
use Rattle.snap_checkpoint.specs.Lines.{LineGatheringValue}
use Rattle.snap_script.specs.declared.restore.RestoreRefusal.{RestoreRefusal}

-- a world
pub record OpenedValue : Type 0 where
  pub world : WorldValue

-- the store that a script has opened, or none; what lines of a saved store have made without one; why such a store wasn't opened, after which none is; and whether, without one, memory was refused for one, after which none is either
pub record ScriptValue : Type 0 where
  pub store : Option OpenedValue
  pub gathered : Option LineGatheringValue
  pub lost : Option RestoreRefusal
  pub spent : Bool

-- before the first line
abbrev pub unopened : ScriptValue
unopened = record { store = None; gathered = None; lost = None; spent = false }

-- a store stands, and nothing else is kept of stores
abbrev pub only_store : OpenedValue → ScriptValue
only_store s = record { store = Some s; gathered = None; lost = None; spent = false }

-- the world that a configuration opens
abbrev pub new_world : Config → WorldValue
new_world c = record { state = opening c; journal = []; opening = opening c; limit = c.journal; hands = replicate c.slots None }

-- what the snapshot in the slot is charged; nothing where there is none
abbrev pub share_at : ℕ → WorldValue → Usage
share_at slot w = unwrap_or (option_map (λ h. h.snapshot.share.usage) (hand_at slot w.hands)) no_usage

-- what the namespace of this name is charged
abbrev pub total_of : WorldValue → Bytes → Usage
total_of w name = unwrap_or (option_map (λ place. charge_of place w.state.records) (place_of name w.state.namespaces)) no_usage

-- its name with its total, where a namespace stands there
abbrev pub named_total : WorldValue → Namespace → Option (Bytes × Usage)
named_total w n = if is_taken n then Some (n.name, total_of w n.name) else None

-- those of all namespaces, in the order of their places
abbrev pub totals_of : WorldValue → List (Bytes × Usage)
totals_of w = filter_map (named_total w) w.state.namespaces

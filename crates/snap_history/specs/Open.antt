-- What the open snapshots of a state are charged, each in the place of its slot.
use Rattle.std.specs.Prelude.{ℕ, zero, suc, ◌==◌, if◌then◌else◌, List, [], ◌∷◌, ◌++◌, map, Option, None, Some}
use Rattle.std.specs.Option.{option_map, option_map_or}
use Rattle.snap_usage.specs.declared.usage.Usage.{Usage}
use Rattle.snap_record.specs.Labels.{Bytes}
use Rattle.snap_record.specs.Records.{usage_of}
use Rattle.snap_record.specs.declared.record.Record.{Record}
use Rattle.snap_call.specs.declared.state.State.{State}
use Rattle.snap_call.specs.Records.{active_at}
use Rattle.snap_call.specs.State.{place_of}
use Rattle.snap_history.specs.Changes.{no_shares}
use Rattle.snap_history.specs.declared.open.OpenShare.{OpenShare}

-- the place of the snapshot's namespace, and what the snapshot is charged
abbrev pub open_share : Record → OpenShare
open_share r = record { namespace = r.namespace; charged = usage_of r.content }

-- those of the slots below this number
abbrev pub open_below : ℕ → List Record → List (Option OpenShare)
open_below zero rs = []
open_below (suc slot) rs = open_below slot rs ++ option_map open_share (active_at slot rs) ∷ []

-- those of all `slots` slots of a store
abbrev pub open_shares : ℕ → List Record → List (Option OpenShare)
open_shares slots rs = open_below slots rs

-- what the snapshot is charged, where it is of the namespace at the place
abbrev pub share_for : ℕ → Option OpenShare → Option Usage
share_for place None = None
share_for place (Some s) = if s.namespace == place then Some s.charged else None

-- what the open snapshots of the namespace at the place are charged, each in the place of its slot
abbrev pub shares_of : ℕ → ℕ → List Record → List (Option Usage)
shares_of slots place rs = map (share_for place) (open_shares slots rs)

-- what those of the namespace of this name are charged, each in the place of its slot; nothing in any where the store doesn't have it
abbrev pub namespace_shares : Bytes → State → List (Option Usage)
namespace_shares name s = option_map_or (λ place. shares_of s.slots place s.records) (place_of name s.namespaces) (no_shares s.slots)

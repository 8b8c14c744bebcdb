-- The state of a store.
use Rattle.std.specs.Prelude.{ℕ, zero, suc, ◌-◌, Bool, ◌||◌, List, [], ◌∷◌, Option, None, Some, option_and_then, unwrap_or, map, filter_map, bytes_eq, not}
use Rattle.std.specs.Option.{option_map, is_some}
use Rattle.snap_layer.specs.Edits.{root_only}
use Rattle.snap_layer.specs.Tree.{Tree}
use Rattle.snap_record.specs.Labels.{Bytes}
use Rattle.snap_record.specs.declared.record.Content.{Content}
use Rattle.snap_record.specs.declared.record.Content.TheVariants.{Committed}
use Rattle.snap_record.specs.declared.record.Record.{Record}
use Rattle.snap_call.specs.declared.config.Config.{Config}
use Rattle.snap_call.specs.declared.refusal.Refusal.{Refusal}
use Rattle.snap_call.specs.declared.refusal.Refusal.TheVariants.{OverLimit}
use Rattle.snap_call.specs.declared.state.State.{State}
use Rattle.snap_call.specs.Records.{charge_of, has_key, committed_at}
pub use Rattle.snap_call.specs.Namespaces.{vacant, is_taken, is_taken_at, has_name, place_of, limit_at, name_at, with_limit, with_namespace, without_namespace, most_namespaces}
pub use Rattle.snap_call.specs.Records.{most_ancestors, default_ancestors}

-- the state of a store that is opened: no records, no leases, no sessions, no entries
abbrev pub opening : Config → State
opening c = record { root = c.root; namespaces = c.namespaces; slots = c.slots; records = []; leases = []; next_id = c.first_id; sessions = 0; entries = 0; layer_inodes = c.layer_inodes; ancestors = c.ancestors }

-- the refusal of an amount that the limit doesn't cover, with what is free: the limit less the charge
abbrev pub over_limit : State → ℕ → Refusal
over_limit s place = OverLimit ((limit_at place s.namespaces).blocks - (charge_of place s.records).blocks) ((limit_at place s.namespaces).inodes - (charge_of place s.records).inodes)

-- the committed records from a parent upwards, nearest first; nothing where one is missing or isn't committed, or where there are more than n
abbrev pub chain_from : ℕ → List Record → ℕ → Bytes → Option (List Record)
chain_from n rs place [] = Some []
chain_from zero rs place (b ∷ bs) = None
chain_from (suc n) rs place (b ∷ bs) = option_and_then (λ r. option_map (λ above. r ∷ above) (chain_from n rs place r.parent)) (committed_at place (b ∷ bs) rs)

-- ---- a parent, by its name

-- none is given, or the namespace has a snapshot of this key
abbrev pub is_present : ℕ → Bytes → List Record → Bool
is_present place parent rs = bytes_eq parent [] || has_key place parent rs

-- none is given, or the namespace has a committed snapshot of this name
abbrev pub is_base : ℕ → Bytes → List Record → Bool
is_base place parent rs = bytes_eq parent [] || is_some (committed_at place parent rs)

-- a snapshot on it would have more than `most` committed ancestors
abbrev pub is_too_deep : ℕ → ℕ → Bytes → List Record → Bool
is_too_deep most place parent rs = not (is_some (chain_from most rs place parent))

-- the committed ancestors of a snapshot on it, nearest first
abbrev pub ancestors : ℕ → Bytes → List Record → List Record
ancestors place parent rs = unwrap_or (chain_from most_ancestors rs place parent) []

-- the ids of these snapshots, in their order
abbrev pub ids_of : List Record → List ℕ
ids_of rs = map (λ r. r.id) rs

-- the stored layer of a committed snapshot
abbrev pub layer_of : Content → Option Tree
layer_of (Committed layer usage) = Some layer
layer_of content = None

-- the stored layers of these snapshots, in their order
abbrev pub layers_of : List Record → List Tree
layers_of rs = filter_map (λ r. layer_of r.content) rs

-- these layers; where there are none, one empty layer, whose root has the permission bits 755 in octal
abbrev pub or_empty : List Tree → List Tree
or_empty [] = root_only (record { mode = 493 }) 1 ∷ []
or_empty layers = layers

-- what a view on the parent shows: the layers of its committed ancestors, nearest first
abbrev pub shown_layers : ℕ → Bytes → List Record → List Tree
shown_layers place parent rs = or_empty (layers_of (ancestors place parent rs))

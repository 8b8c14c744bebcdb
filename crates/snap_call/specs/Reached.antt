-- Which snapshots a sweep takes away: the committed ones that nothing in use stands on (mark and sweep, as containerd's garbage collection of what no lease keeps).
use Rattle.std.specs.Prelude.{ℕ, ◌==◌, Bool, not, ◌&&◌, ◌||◌, List, ◌∷◌, map, filter, bytes_eq}
use Rattle.std.specs.List.{list_any}
use Rattle.snap_lease.specs.Leases.{is_guarded_at}
use Rattle.snap_record.specs.Labels.{Bytes}
use Rattle.snap_record.specs.declared.record.Record.{Record}
use Rattle.snap_call.specs.declared.state.State.{State}
use Rattle.snap_call.specs.Records.{is_committed}
use Rattle.snap_call.specs.State.{ancestors}

-- the snapshot is in use at the moment: it is active, or a view, or a lease of its namespace that is live at the moment names it
abbrev pub is_in_use : State → Bytes → ℕ → Record → Bool
is_in_use s namespace moment r = not (is_committed r.content) || is_guarded_at s.leases namespace r.key moment

-- the snapshot of this key in the namespace is in use, or is an ancestor of one that is
abbrev pub is_reached : State → Bytes → ℕ → ℕ → Bytes → Bool
is_reached s namespace place moment key = list_any (λ r. (r.namespace == place) && is_in_use s namespace moment r && list_any (λ t. bytes_eq t.key key) (r ∷ ancestors r.namespace r.parent s.records)) s.records

-- a sweep takes the snapshot away: it is a committed one of the namespace, and is not reached
abbrev pub is_swept : State → Bytes → ℕ → ℕ → Record → Bool
is_swept s namespace place moment r = (r.namespace == place) && is_committed r.content && not (is_reached s namespace place moment r.key)

-- the snapshots that it takes away, in the order of their keys' bytes
abbrev pub swept : State → Bytes → ℕ → ℕ → List Record
swept s namespace place moment = filter (is_swept s namespace place moment) s.records

-- their keys
abbrev pub swept_keys : State → Bytes → ℕ → ℕ → List Bytes
swept_keys s namespace place moment = map (λ r. r.key) (swept s namespace place moment)

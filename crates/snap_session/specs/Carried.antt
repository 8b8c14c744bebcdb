-- The snapshots that were active when a round began, by the state at that time.
use Rattle.std.specs.Prelude.{ℕ, zero, suc, ◌==◌, if◌then◌else◌, List, [], ◌∷◌, ◌++◌, slice_get, Option, None, Some, option_and_then}
use Rattle.std.specs.Option.{option_map, option_to_list}
use Rattle.snap_record.specs.declared.record.Record.{Record}
use Rattle.snap_call.specs.Records.{active_at}
use Rattle.snap_call.specs.declared.config.Namespace.{Namespace}
use Rattle.snap_call.specs.declared.state.State.{State}
use Rattle.snap_session.specs.declared.carried.Carried.{Carried}
use Rattle.snap_session.specs.declared.carried.SnapshotName.{SnapshotName}

-- the snapshot of the record with its namespace's name
abbrev pub carried_from : List Namespace → Record → Option Carried
carried_from ns r = option_map (λ n. record { id = r.id; name = record { namespace = n.name; key = r.key } }) (slice_get ns r.namespace)

-- those in the slots below this number
abbrev pub carried_below : ℕ → List Namespace → List Record → List Carried
carried_below zero ns rs = []
carried_below (suc slot) ns rs = carried_below slot ns rs ++ option_to_list (option_and_then (carried_from ns) (active_at slot rs))

-- those in all slots of the state
abbrev pub carried_of : State → List Carried
carried_of s = carried_below s.slots s.namespaces s.records

-- the name of the one that has this id
abbrev pub carried_name : ℕ → List Carried → Option SnapshotName
carried_name id [] = None
carried_name id (c ∷ cs) = if c.id == id then Some c.name else carried_name id cs

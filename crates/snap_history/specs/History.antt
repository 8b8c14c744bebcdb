-- The entries of a namespace, each with what the namespace is charged after it.
use Rattle.std.specs.Prelude.{ℕ, suc, ◌+◌, Bool, false, nat_lt, if◌then◌else◌, List, [], ◌∷◌, filter, take, Option, None, Some, bytes_eq, option_and_then}
use Rattle.std.specs.Option.{is_some, option_map, option_map_or, option_or}
use Rattle.snap_usage.specs.declared.usage.Usage.{Usage}
use Rattle.snap_usage.specs.Counted.{no_usage}
use Rattle.snap_record.specs.Labels.{Bytes}
use Rattle.snap_call.specs.declared.call.Call.{Call}
use Rattle.snap_call.specs.declared.call.Call.TheVariants as calls
use Rattle.snap_call.specs.declared.entry.Entry.{Entry}
use Rattle.snap_call.specs.declared.reply.Reply.{Reply}
use Rattle.snap_call.specs.declared.reply.Reply.TheVariants as replies
use Rattle.snap_call.specs.declared.state.State.{State}
use Rattle.snap_call.specs.Records.{active_at, charge_of}
use Rattle.snap_call.specs.State.{name_at, place_of}
use Rattle.snap_call.specs.Step.{step}
use Rattle.snap_history.specs.Entries.{entry_info}
use Rattle.snap_history.specs.declared.info.EntryInfo.{EntryInfo}

-- the namespace that a call names
abbrev pub namespace_in : Call → Option Bytes
namespace_in (calls.Prepare namespace key parent labels) = Some namespace
namespace_in (calls.Stat namespace key) = Some namespace
namespace_in (calls.Usage namespace key) = Some namespace
namespace_in (calls.Mounts namespace key) = Some namespace
namespace_in (calls.View namespace key parent labels) = Some namespace
namespace_in (calls.Remove namespace key) = Some namespace
namespace_in (calls.Update namespace key labels paths) = Some namespace
namespace_in (calls.Walk namespace after most asked) = Some namespace
namespace_in (calls.NamespaceCreate namespace limit) = Some namespace
namespace_in (calls.NamespaceRemove namespace) = Some namespace
namespace_in (calls.SetLimit namespace limit) = Some namespace
namespace_in (calls.LeaseCreate namespace lease until) = Some namespace
namespace_in (calls.LeaseAdd namespace lease name) = Some namespace
namespace_in (calls.LeaseDrop namespace lease name) = Some namespace
namespace_in (calls.LeaseRelease namespace lease) = Some namespace
namespace_in (calls.Sweep namespace moment) = Some namespace
namespace_in call = None

-- the slot of the open snapshot that a call is on
abbrev pub slot_in : Call → Option ℕ
slot_in (calls.Charge slot id need want) = Some slot
slot_in (calls.Trim slot id) = Some slot
slot_in (calls.Commit slot id name lease labels) = Some slot
slot_in (calls.Discard slot id) = Some slot
slot_in call = None

-- the name of a call's namespace: the one that the call names, or that of the open snapshot that it is on
abbrev pub call_namespace : State → Call → Option Bytes
call_namespace s call = option_or (namespace_in call) (option_and_then (λ slot. option_map (λ r. name_at r.namespace s.namespaces) (active_at slot s.records)) (slot_in call))

-- the call is one of the namespace of this name
abbrev pub is_call_of : Bytes → State → Call → Bool
is_call_of name s call = option_map_or (λ n. bytes_eq n name) (call_namespace s call) false

-- what the namespace of this name is charged; nothing where the store doesn't have it
abbrev pub namespace_charge : Bytes → State → Usage
namespace_charge name s = option_map_or (λ place. charge_of place s.records) (place_of name s.namespaces) no_usage

-- the entries of the namespace of this name among these, in order, each with the charge in the state after it; the first state is the one before them all
abbrev pub history : Bytes → State → List Entry → List EntryInfo
history name s [] = []
history name s (e ∷ es) =
    let after = (step s e.call e.given).0 in
    let rest = history name after es in
    if is_call_of name s e.call then entry_info after.entries e (Some (namespace_charge name after)) ∷ rest else rest

-- a call with this reply makes the namespace of this name
abbrev pub makes_by : Bytes → Call → Reply → Bool
makes_by name (calls.NamespaceCreate namespace limit) replies.Done = bytes_eq namespace name
makes_by name call reply = false

-- the place of the last entry that makes it
abbrev pub last_made : Bytes → List Entry → Option ℕ
last_made name [] = None
last_made name (e ∷ es) = option_map_or (λ i. Some (suc i)) (last_made name es) (if makes_by name e.call e.reply then Some 0 else None)

-- the entries of the namespace since it was made, or all where none of them makes it
abbrev pub history_since : Bytes → State → List Entry → List EntryInfo
history_since name s [] = []
history_since name s (e ∷ es) = if is_some (last_made name es) then history_since name (step s e.call e.given).0 es else history name s (e ∷ es)

-- all entries among these, in order, without a charge; the first one has the number after this one
abbrev pub entries_from : ℕ → List Entry → List EntryInfo
entries_from number [] = []
entries_from number (e ∷ es) = entry_info (number + 1) e None ∷ entries_from (number + 1) es

-- those of a number greater than `after`, at most `most`
abbrev pub history_page : ℕ → ℕ → List EntryInfo → List EntryInfo
history_page after most infos = take most (filter (λ info. nat_lt after info.number) infos)

-- What one call answers, and the state after it. The refusals of each call stand in the order in which they are tested.
use Rattle.std.specs.Prelude.{◌≡◌, ℕ, ◌+◌, ◌<◌, Bool, true, ◌&&◌, ◌||◌, nat_le, nat_lt, if◌then◌else◌, List, [], ◌∷◌, ◌++◌, count_by, find, filter, not, Option, IsSomeAnd, max, Result, Ok, Err}
use Rattle.std.specs.Option.{option_map_or, is_some}
use Rattle.snap_path.specs.Limits.{most_number}
use Rattle.snap_layer.specs.Tree.{Tree}
use Rattle.snap_usage.specs.declared.usage.Usage.{Usage}
use Rattle.snap_usage.specs.Counted.{count_of, Covers, covers}
use Rattle.snap_ledger.specs.States.{plus, minus}
use Rattle.snap_lease.specs.Lease.{Lease, empty_lease}
use Rattle.snap_lease.specs.Leases.{is_guarded, has_lease, has_leases, has_ended, lease_names, with_name_added, with_name_dropped, without_lease, without_ended}
use Rattle.snap_record.specs.Labels.{Bytes, Label, are_labels}
use Rattle.snap_record.specs.Records.{usage_of, info_of, kind_of}
use Rattle.snap_record.specs.Updates.{is_granted, is_well_formed, updated as labels_after}
use Rattle.snap_record.specs.declared.record.Content.{Content}
use Rattle.snap_record.specs.declared.record.Content.TheVariants.{View, Active}
use Rattle.snap_record.specs.declared.record.Record.{Record}
use Rattle.snap_mount.specs.Mounts.{mounts_of}
use Rattle.snap_call.specs.declared.call.Call.{Call}
use Rattle.snap_call.specs.declared.config.Namespace.{Namespace}
use Rattle.snap_call.specs.declared.call.Call.TheVariants as calls
use Rattle.snap_call.specs.declared.call.Given.{Given}
use Rattle.snap_call.specs.declared.call.Given.TheVariants.{Count, Layer}
use Rattle.snap_call.specs.declared.refusal.Refusal.{Refusal}
use Rattle.snap_call.specs.declared.refusal.Refusal.TheVariants.{BadArgument, NoNamespace, NamespaceExists, TooManyNamespaces, NotEmpty, NotFound, AlreadyExists, NotCommitted, NotActive, HasChildren, InUse, Leased, NoLease, LeaseExists, TooDeep, TooManyActives, BelowCharge, NumbersSpent}
use Rattle.snap_call.specs.declared.reply.Reply.{Reply}
use Rattle.snap_call.specs.declared.reply.Reply.TheVariants.{Opened, Prepared, Viewed, Charged, Trimmed, Committed, Discarded, Removed, Info, Page, Usage as UsageReply, Mounts as MountsReply, Done, Swept, Refused}
use Rattle.snap_call.specs.declared.state.State.{State}
use Rattle.snap_call.specs.Forms.{is_key, is_namespace, is_parent, is_page, is_start, is_limit}
use Rattle.snap_call.specs.Records.{record_at, has_key, has_records, has_children, is_active, is_committed, active_at, charge_of, with_record, without_slot, without_key, recharged, relabelled, with_labels, info_page, committed_as, lowest_free, max_sessions}
use Rattle.snap_call.specs.State.{place_of, name_at, limit_at, with_limit, with_namespace, without_namespace, is_taken, most_namespaces, over_limit, is_present, is_base, is_too_deep, ancestors, ids_of, shown_layers}
use Rattle.snap_call.specs.Reached.{is_swept, swept, swept_keys}

-- one entry more
abbrev pub counted : State → State
counted s = record s { entries = s.entries + 1 }

-- a refusal leaves all but the number of entries
abbrev pub refused : State → Refusal → State × Reply
refused s why = (counted s, Refused why)

-- a test of a call: what has to be, or what must not be, and the refusal where it is otherwise
pub data Test : Type 0 where
  must : Bool → Refusal → Test
  must_not : Bool → Refusal → Test

-- what follows once all tests are passed, in their order, or what comes of the first refusal
abbrev pub tested : {X : Type 0} → (Refusal → X) → List Test → X → X
tested by [] next = next
tested by (must holds why ∷ later) next = if holds then tested by later next else by why
tested by (must_not holds why ∷ later) next = if holds then by why else tested by later next

-- what follows where the fields of a call are well-formed
abbrev pub formed : State → Bool → State × Reply → State × Reply
formed s holds next = tested (refused s) (must holds BadArgument ∷ []) next

-- what follows at the place of a namespace, or the refusal of one that the store doesn't have
abbrev pub in_namespace : State → Bytes → (ℕ → State × Reply) → State × Reply
in_namespace s namespace next = option_map_or next (place_of namespace s.namespaces) (refused s NoNamespace)

-- what follows at the record of a key in a namespace, or the refusal of a key that the namespace doesn't have
abbrev pub at_record : State → Bytes → Bytes → (ℕ → Record → State × Reply) → State × Reply
at_record s namespace key next = in_namespace s namespace (λ place. option_map_or (next place) (record_at place key s.records) (refused s NotFound))

-- what follows at a place or a slot that was found, or the refusal of it
abbrev pub unless_refused : State → Result ℕ Refusal → (ℕ → State × Reply) → State × Reply
unless_refused s (Ok found) next = next found
unless_refused s (Err why) next = refused s why

-- A new snapshot: the place of its namespace, or the first refusal of its key and its parent there
abbrev pub place_on : ℕ → ℕ → Bytes → Bytes → List Record → Result ℕ Refusal
place_on most place key parent rs =
    tested Err (must (is_present place parent rs) NotFound ∷ must_not (has_key place key rs) AlreadyExists ∷ must (is_base place parent rs) NotCommitted ∷ must_not (is_too_deep most place parent rs) TooDeep ∷ []) (Ok place)

abbrev pub place_for : State → Bytes → Bytes → Bytes → List Label → Result ℕ Refusal
place_for s namespace key parent labels =
    tested Err (must (is_key key && is_parent parent && are_labels labels) BadArgument ∷ []) (option_map_or (λ place. place_on s.ancestors place key parent s.records) (place_of namespace s.namespaces) (Err NoNamespace))

-- a new snapshot, made by this entry
abbrev pub new_record : State → ℕ → Bytes → Bytes → List Label → Content → Record
new_record s place key parent labels content = record { namespace = place; key = key; parent = parent; id = s.next_id; labels = labels; created = s.entries + 1; updated = s.entries + 1; content = content }

-- the state with it
abbrev pub added : State → Record → State
added s r = record s { records = with_record r s.records; next_id = s.next_id + 1; entries = s.entries + 1 }

-- Prepare: a new active snapshot, in the lowest free slot of the store, charged 1/1 for its root. The reply has the ids of its committed ancestors, nearest first.
abbrev pub one : Usage
one = record { blocks = 1; inodes = 1 }

-- its slot, or the first refusal of one
abbrev pub slot_for : State → ℕ → Result ℕ Refusal
slot_for s place =
    let room = covers (limit_at place s.namespaces) (plus (charge_of place s.records) one) in
    option_map_or (λ slot. tested Err (must room (over_limit s place) ∷ must (nat_le s.next_id most_number) NumbersSpent ∷ []) (Ok slot)) (lowest_free s.slots s.records) (Err TooManyActives)

abbrev pub prepared : State → ℕ → Bytes → Bytes → List Label → ℕ → State × Reply
prepared s place key parent labels slot = (added s (new_record s place key parent labels (Active slot one)), Prepared s.next_id slot (ids_of (ancestors place parent s.records)))

abbrev pub prepare : State → Bytes → Bytes → Bytes → List Label → State × Reply
prepare s namespace key parent labels = unless_refused s (place_for s namespace key parent labels) (λ place. unless_refused s (slot_for s place) (prepared s place key parent labels))

-- View: a new snapshot that nothing is written to, without a slot and without a charge; it keeps the layers that it shows (containerd's Snapshotter.View). The reply has the ids of its committed ancestors, nearest first.
abbrev pub viewed : State → ℕ → Bytes → Bytes → List Label → State × Reply
viewed s place key parent labels = (added s (new_record s place key parent labels (View (shown_layers place parent s.records))), Viewed s.next_id (ids_of (ancestors place parent s.records)))

abbrev pub prepare_view : State → Bytes → Bytes → Bytes → List Label → State × Reply
prepare_view s namespace key parent labels = unless_refused s (place_for s namespace key parent labels) (λ place. tested (refused s) (must (nat_le s.next_id most_number) NumbersSpent ∷ []) (viewed s place key parent labels))

-- Charge: the greater in each quantity
abbrev pub greater : Usage → Usage → Usage
greater a b = record { blocks = max a.blocks b.blocks; inodes = max a.inodes b.inodes }

-- the limit of the namespace at a place covers its charge, once what is charged one amount is charged the other
abbrev pub fits_limit : State → ℕ → Usage → Usage → Bool
fits_limit s place held to = covers (limit_at place s.namespaces) (plus (minus (charge_of place s.records) held) to)

-- the wanted amount where the limit covers it, else the needed one where the limit covers that
abbrev pub granted : State → ℕ → Usage → Usage → Usage → Option Usage
granted s place held need want = find (fits_limit s place held) (greater (greater held need) want ∷ greater held need ∷ [])

abbrev pub charge : State → ℕ → Usage → Usage → Option Record → State × Reply
charge s slot need want o = option_map_or (λ r.
    option_map_or (λ to. (record s { records = recharged slot to s.records; entries = s.entries + 1 }, Charged to)) (granted s r.namespace (usage_of r.content) need want) (refused s (over_limit s r.namespace))) o (refused s NotActive)

-- Trim: charged for the count of its layer
abbrev pub trim : State → ℕ → Given → Option Record → State × Reply
trim s slot (Count now) o = option_map_or (λ r. (record s { records = recharged slot now s.records; entries = s.entries + 1 }, Trimmed)) o (refused s NotActive)
trim s slot given o = refused s BadArgument

-- Commit: the active snapshot gives way to a committed one with the layer and its count; the lease, where one is named, gets the name, and labels that are given stand in place of its own (containerd's Snapshotter.Commit, under a lease and with labels)
abbrev pub has_named : State → ℕ → Option Bytes → Bool
has_named s place lease = option_map_or (has_lease s.leases (name_at place s.namespaces)) lease true

abbrev pub leases_after : State → ℕ → Bytes → Option Bytes → List Lease
leases_after s place name lease = option_map_or (λ l. with_name_added s.leases (name_at place s.namespaces) l name) lease s.leases

-- the name, the lease and the labels are well-formed, where they are given
abbrev pub are_formed : Bytes → Option Bytes → Option (List Label) → Bool
are_formed name lease labels = is_key name && option_map_or is_key lease true && option_map_or are_labels labels true

abbrev pub committed : State → ℕ → Bytes → Option Bytes → Option (List Label) → Tree → Record → State × Reply
committed s slot name lease labels layer r =
    (record s { records = with_record (committed_as name labels layer (s.entries + 1) r) (without_slot slot s.records); leases = leases_after s r.namespace name lease; entries = s.entries + 1 }, Committed r.id (count_of layer))

abbrev pub commit_as : State → ℕ → Bytes → Option Bytes → Option (List Label) → Tree → Option Record → State × Reply
commit_as s slot name lease labels layer o = option_map_or (λ r.
    tested (refused s) (must (are_formed name lease labels) BadArgument ∷ must_not (has_key r.namespace name s.records) AlreadyExists ∷ must (has_named s r.namespace lease) NoLease ∷ []) (committed s slot name lease labels layer r)) o (refused s NotActive)

-- Discard: the record goes, and what it was charged is answered
abbrev pub discard : State → ℕ → Option Record → State × Reply
discard s slot o = option_map_or (λ r. (record s { records = without_slot slot s.records; entries = s.entries + 1 }, Discarded (usage_of r.content))) o (refused s NotActive)

-- the state without the snapshot of the key in the namespace at the place
abbrev pub removed_at : State → ℕ → Bytes → State
removed_at s place key = record s { records = without_key place key s.records; entries = s.entries + 1 }

-- Stat, Usage, Mounts: what is asked of a record
abbrev pub ask : State → (Record → Reply) → Bytes → Bytes → State × Reply
ask s answer namespace key = formed s (is_key key) (at_record s namespace key (λ place r. (counted s, answer r)))

-- Mounts: the mounts that show a snapshot over its committed ancestors; a committed one is not mounted (containerd's Snapshotter.Mounts)
abbrev pub mounts : State → Record → Reply
mounts s r = if is_committed r.content then Refused NotActive else MountsReply (mounts_of s.root (kind_of r.content) r.id (ids_of (ancestors r.namespace r.parent s.records)))

-- the state with these labels of the snapshot of the key
abbrev pub relabelled_at : State → ℕ → Bytes → List Label → State
relabelled_at s place key labels = record s { records = relabelled place key labels (s.entries + 1) s.records; entries = s.entries + 1 }

-- Update: labels by field paths (containerd's Snapshotter.Update). The reply is the info with the labels after it; a result of more than 64 labels is refused.
abbrev pub update_record : State → Bytes → List Label → List Bytes → ℕ → Record → State × Reply
update_record s key given paths place r =
    let labels = labels_after r.labels given paths in
    tested (refused s) (must (is_granted r.labels given paths) BadArgument ∷ []) (relabelled_at s place key labels, Info (info_of (with_labels labels (s.entries + 1) r)))

-- the state with these leases
abbrev pub leasing : State → List Lease → State
leasing s leases = record s { leases = leases; entries = s.entries + 1 }

-- Sweep: the namespace's leases that have ended at the moment go, and those of its committed snapshots that are not reached. The reply has the keys of these, how many leases went, and what the snapshots were charged.
abbrev pub swept_at : State → Bytes → ℕ → ℕ → State
swept_at s namespace place moment = record s { records = filter (λ r. not (is_swept s namespace place moment r)) s.records; leases = without_ended s.leases namespace moment; entries = s.entries + 1 }

abbrev pub sweep_at : State → Bytes → ℕ → ℕ → State × Reply
sweep_at s namespace moment place =
    (swept_at s namespace place moment, Swept (swept_keys s namespace place moment) (count_by (has_ended namespace moment) s.leases) (charge_of place (swept s namespace place moment)))

abbrev pub sweep : State → Bytes → ℕ → State × Reply
sweep s namespace moment = in_namespace s namespace (sweep_at s namespace moment)

-- other namespaces, by this entry
abbrev pub spacing : State → List Namespace → State
spacing s ns = record s { namespaces = ns; entries = s.entries + 1 }

-- one call: the state after it, and its reply
abbrev pub step : State → Call → Given → State × Reply
-- at most 65,536 sessions are opened
step s calls.Session given = if nat_lt s.sessions max_sessions then (record s { sessions = s.sessions + 1; entries = s.entries + 1 }, Opened) else (s, Refused NumbersSpent)
step s (calls.Prepare namespace key parent labels) given = prepare s namespace key parent labels
step s (calls.Charge slot id need want) given = charge s slot need want (active_at slot s.records)
step s (calls.Trim slot id) given = trim s slot given (active_at slot s.records)
step s (calls.Commit slot id name lease labels) (Layer layer) = commit_as s slot name lease labels layer (active_at slot s.records)
step s (calls.Commit slot id name lease labels) given = refused s BadArgument
step s (calls.Discard slot id) given = discard s slot (active_at slot s.records)
step s (calls.Stat namespace key) given = ask s (λ r. Info (info_of r)) namespace key
step s (calls.Usage namespace key) given = ask s (λ r. UsageReply (usage_of r.content)) namespace key
step s (calls.Mounts namespace key) given = ask s (mounts s) namespace key
step s (calls.View namespace key parent labels) given = prepare_view s namespace key parent labels
-- a snapshot goes that is no parent, isn't active and is named by no lease, and what it was charged is answered (containerd's Snapshotter.Remove)
step s (calls.Remove namespace key) given = formed s (is_key key) (at_record s namespace key (λ place r.
    tested (refused s) (must_not (has_children place key s.records) HasChildren ∷ must_not (is_active r.content) InUse ∷ must_not (is_guarded s.leases namespace key) Leased ∷ []) (removed_at s place key, Removed (usage_of r.content))))
step s (calls.Update namespace key labels paths) given = formed s (is_key key && is_well_formed labels paths) (at_record s namespace key (update_record s key labels paths))
-- the infos of the snapshots of a namespace that come after a key and have every part of a filter, at most `most` (containerd's Snapshotter.Walk, page by page)
step s (calls.Walk namespace after most asked) given = formed s (is_start after && is_page most) (in_namespace s namespace (λ place. (counted s, Page (info_page place after most asked s.records))))
-- a namespace's other limit has to cover what it is charged
step s (calls.SetLimit namespace limit) given = formed s (is_limit limit) (in_namespace s namespace (λ place.
    tested (refused s) (must (covers limit (charge_of place s.records)) BelowCharge ∷ []) (spacing s (with_limit place limit s.namespaces), Done)))
-- a namespace is made, at the first free place
step s (calls.NamespaceCreate namespace limit) given =
    let made : Namespace = record { name = namespace; limit = limit } in
    tested (refused s) (must (is_namespace made) BadArgument ∷ must_not (is_some (place_of namespace s.namespaces)) NamespaceExists ∷ must (nat_lt (count_by is_taken s.namespaces) most_namespaces) TooManyNamespaces ∷ []) (spacing s (with_namespace made s.namespaces), Done)
-- a namespace goes that has no snapshot and no lease, and its place is free then
step s (calls.NamespaceRemove namespace) given =
    in_namespace s namespace (λ place. tested (refused s) (must_not (has_records place s.records || has_leases s.leases namespace) NotEmpty ∷ []) (spacing s (without_namespace place s.namespaces), Done))
-- a lease that names nothing yet, with a last moment or none (containerd's leases.Manager.Create)
step s (calls.LeaseCreate namespace lease until) given = formed s (is_key lease) (in_namespace s namespace (λ place.
    tested (refused s) (must_not (has_lease s.leases namespace lease) LeaseExists ∷ []) (leasing s (s.leases ++ empty_lease namespace lease until ∷ []), Done)))
-- the lease names a committed snapshot too, live or ended (containerd's leases.Manager.AddResource)
step s (calls.LeaseAdd namespace lease name) given = formed s (is_key lease && is_key name) (at_record s namespace name (λ place r.
    tested (refused s) (must (is_committed r.content) NotCommitted ∷ must (has_lease s.leases namespace lease) NoLease ∷ []) (leasing s (with_name_added s.leases namespace lease name), Done)))
-- the lease names the snapshot no longer (containerd's leases.Manager.DeleteResource)
step s (calls.LeaseDrop namespace lease name) given = formed s (is_key lease && is_key name) (in_namespace s namespace (λ place.
    tested (refused s) (must (has_lease s.leases namespace lease) NoLease ∷ must (lease_names s.leases namespace lease name) NotFound ∷ []) (leasing s (with_name_dropped s.leases namespace lease name), Done)))
-- the lease goes with its names, and no snapshot does (containerd's leases.Manager.Delete)
step s (calls.LeaseRelease namespace lease) given = formed s (is_key lease) (in_namespace s namespace (λ place.
    tested (refused s) (must (has_lease s.leases namespace lease) NoLease ∷ []) (leasing s (without_lease s.leases namespace lease), Done)))
step s (calls.Sweep namespace moment) given = sweep s namespace moment

-- the slot is open under the id
abbrev pub IsOpenSlot : ℕ → Option Record → Type 0
IsOpenSlot id o = IsSomeAnd o (λ r. r.id ≡ id)

-- and its charge covers `now`
abbrev pub IsCovered : ℕ → Usage → Option Record → Type 0
IsCovered id now o = IsSomeAnd o (λ r. (r.id ≡ id) × Covers (usage_of r.content) now)

-- the condition of a call: its slot is open under its id, and the charge covers what the value has; a session is opened only where one is left
abbrev pub IsAllowed : State → Call → Given → Type 0
IsAllowed s calls.Session given = s.sessions < max_sessions
IsAllowed s (calls.Charge slot id need want) given = IsOpenSlot id (active_at slot s.records)
IsAllowed s (calls.Trim slot id) (Count now) = IsCovered id now (active_at slot s.records)
IsAllowed s (calls.Trim slot id) given = ⊥
IsAllowed s (calls.Commit slot id name lease labels) (Layer layer) = IsCovered id (count_of layer) (active_at slot s.records)
IsAllowed s (calls.Commit slot id name lease labels) given = ⊥
IsAllowed s (calls.Discard slot id) given = IsOpenSlot id (active_at slot s.records)
IsAllowed s call given = Unit {0}

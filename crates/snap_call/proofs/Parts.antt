-- Parts of the steps of calls, which proofs by cases go through.
use Rattle.std.specs.Prelude.{ℕ, ◌+◌, ◌==◌, ◌&&◌, ◌||◌, Bool, not, bytes_eq, count_by, filter, nat_le, nat_lt, List, [], ◌∷◌, ◌++◌, Option, Result, Ok, Err}
use Rattle.std.specs.Cmp.Lexicographic.{slice_cmp}
use Rattle.std.specs.List.{list_any}
use Rattle.std.specs.Option.{option_map_or, is_some}
use Rattle.std.specs.Ordering.{is_lt, nat_cmp}
use Rattle.snap_path.specs.Limits.{most_number}
use Rattle.snap_usage.specs.declared.usage.Usage.{Usage}
use Rattle.snap_usage.specs.Counted.{covers}
use Rattle.snap_ledger.specs.States.{plus}
use Rattle.snap_lease.specs.Lease.{empty_lease}
use Rattle.snap_lease.specs.Leases.{is_guarded, has_lease, has_leases, lease_names, with_name_added, with_name_dropped, without_lease}
use Rattle.snap_record.specs.Labels.{Bytes, Label}
use Rattle.snap_record.specs.Filters.{is_match}
use Rattle.snap_record.specs.Records.{info_of, usage_of}
use Rattle.snap_record.specs.declared.filter.Filter.{Filter}
use Rattle.snap_record.specs.declared.record.Record.{Record}
use Rattle.snap_call.specs.declared.refusal.Refusal.{Refusal}
use Rattle.snap_call.specs.declared.refusal.Refusal.TheVariants.{BadArgument, NamespaceExists, TooManyNamespaces, NotEmpty, NotFound, NotCommitted, HasChildren, InUse, Leased, NoLease, LeaseExists, TooManyActives, BelowCharge, NumbersSpent}
use Rattle.snap_call.specs.declared.reply.Reply.{Reply}
use Rattle.snap_call.specs.declared.reply.Reply.TheVariants.{Charged, Removed, Done}
use Rattle.snap_call.specs.declared.state.State.{State}
use Rattle.snap_call.specs.Records.{active_at, has_children, has_records, is_active, is_committed, charge_of, recharged}
use Rattle.snap_call.specs.declared.call.Given.{Given}
use Rattle.snap_call.specs.declared.call.Given.TheVariants.{Layer}
use Rattle.snap_call.specs.declared.config.Namespace.{Namespace}
use Rattle.snap_call.specs.Forms.{is_namespace}
use Rattle.snap_call.specs.State.{is_taken, limit_at, most_namespaces, over_limit, place_of, ancestors, with_limit, with_namespace, without_namespace}
use Rattle.snap_call.specs.Reached.{is_swept}
use Rattle.snap_call.specs.Step.{must, must_not, tested, refused, one, unless_refused, slot_for, prepared, viewed, commit_as, removed_at, leasing, spacing}

-- a commit, by what is given with it
abbrev pub commit : State → ℕ → Bytes → Option Bytes → Option (List Label) → Given → State × Reply
commit s slot name lease labels (Layer layer) = commit_as s slot name lease labels layer (active_at slot s.records)
commit s slot name lease labels given = refused s BadArgument

-- a record of a page
abbrev pub is_walked : ℕ → Bytes → Filter → Record → Bool
is_walked place after asked r = (r.namespace == place) && is_lt (slice_cmp nat_cmp after r.key) && is_match (info_of r) asked

-- a snapshot of this key is one of the record's committed ancestors
abbrev pub is_ancestor : List Record → Bytes → Record → Bool
is_ancestor rs key r = list_any (λ t. bytes_eq t.key key) (ancestors r.namespace r.parent rs)

-- the records that a sweep leaves
abbrev pub unswept : State → Bytes → ℕ → ℕ → List Record
unswept s namespace place moment = filter (λ r. not (is_swept s namespace place moment r)) s.records

-- the state with another limit of the namespace at the place
abbrev pub limited_at : State → ℕ → Usage → State
limited_at s place limit = spacing s (with_limit place limit s.namespaces)

-- a prepare and a view, at the place of the namespace
abbrev pub prepare_at : State → Bytes → Bytes → List Label → ℕ → State × Reply
prepare_at s key parent labels place = unless_refused s (slot_for s place) (prepared s place key parent labels)

abbrev pub view_at : State → Bytes → Bytes → List Label → ℕ → State × Reply
view_at s key parent labels place = tested (refused s) (must (nat_le s.next_id most_number) NumbersSpent ∷ []) (viewed s place key parent labels)

-- the slot, where the lowest free one is this
abbrev pub slot_or_refusal : State → ℕ → Option ℕ → Result ℕ Refusal
slot_or_refusal s place o =
    option_map_or (λ slot. tested Err (must (covers (limit_at place s.namespaces) (plus (charge_of place s.records) one)) (over_limit s place) ∷ must (nat_le s.next_id most_number) NumbersSpent ∷ []) (Ok slot)) o (Err TooManyActives)

-- a charge to what is granted, or a refusal where nothing is
abbrev pub charge_to : State → ℕ → Record → Option Usage → State × Reply
charge_to s slot r o = option_map_or (λ to. (record s { records = recharged slot to s.records; entries = s.entries + 1 }, Charged to)) o (refused s (over_limit s r.namespace))

-- a removal, where the snapshot is there
abbrev pub remove_record : State → Bytes → Bytes → ℕ → Record → State × Reply
remove_record s namespace key place r =
    tested (refused s) (must_not (has_children place key s.records) HasChildren ∷ must_not (is_active r.content) InUse ∷ must_not (is_guarded s.leases namespace key) Leased ∷ []) (removed_at s place key, Removed (usage_of r.content))

-- another limit, at the place of the namespace
abbrev pub set_limit_at : State → Usage → ℕ → State × Reply
set_limit_at s limit place = tested (refused s) (must (covers limit (charge_of place s.records)) BelowCharge ∷ []) (limited_at s place limit, Done)

-- what follows for a lease, where the namespace is there
abbrev pub lease_create_at : State → Bytes → Bytes → Option ℕ → State × Reply
lease_create_at s namespace lease until = tested (refused s) (must_not (has_lease s.leases namespace lease) LeaseExists ∷ []) (leasing s (s.leases ++ empty_lease namespace lease until ∷ []), Done)

abbrev pub lease_add_record : State → Bytes → Bytes → Bytes → Record → State × Reply
lease_add_record s namespace lease name r =
    tested (refused s) (must (is_committed r.content) NotCommitted ∷ must (has_lease s.leases namespace lease) NoLease ∷ []) (leasing s (with_name_added s.leases namespace lease name), Done)

abbrev pub lease_drop_at : State → Bytes → Bytes → Bytes → State × Reply
lease_drop_at s namespace lease name =
    tested (refused s) (must (has_lease s.leases namespace lease) NoLease ∷ must (lease_names s.leases namespace lease name) NotFound ∷ []) (leasing s (with_name_dropped s.leases namespace lease name), Done)

abbrev pub lease_release_at : State → Bytes → Bytes → State × Reply
lease_release_at s namespace lease = tested (refused s) (must (has_lease s.leases namespace lease) NoLease ∷ []) (leasing s (without_lease s.leases namespace lease), Done)

abbrev pub namespace_create_as : State → Namespace → State × Reply
namespace_create_as s made =
    tested (refused s) (must (is_namespace made) BadArgument ∷ must_not (is_some (place_of made.name s.namespaces)) NamespaceExists ∷ must (nat_lt (count_by is_taken s.namespaces) most_namespaces) TooManyNamespaces ∷ []) (spacing s (with_namespace made s.namespaces), Done)

abbrev pub namespace_remove_at : State → Bytes → ℕ → State × Reply
namespace_remove_at s namespace place = tested (refused s) (must_not (has_records place s.records || has_leases s.leases namespace) NotEmpty ∷ []) (spacing s (without_namespace place s.namespaces), Done)

-- What a plain call changes beside the journal.
use Rattle.std.specs.Prelude.{◌≡◌, ℕ, ◌+◌, ◌<◌, ◌≤◌, ◌==◌, ◌||◌, Bool, true, false, List, [], ◌∷◌, ◌++◌, count_by, length, None, Some, IsSome, IsSomeAnd}
use Rattle.snap_usage.specs.declared.usage.Usage.{Usage}
use Rattle.snap_usage.specs.Counted.{Covers}
use Rattle.snap_lease.specs.Lease.{empty_lease}
use Rattle.snap_lease.specs.Leases.{has_lease, has_leases, is_guarded, lease_names, with_name_added, with_name_dropped, without_lease}
use Rattle.snap_record.specs.Labels.{Bytes, are_labels}
use Rattle.snap_record.specs.declared.record.Content.TheVariants as contents
use Rattle.snap_record.specs.declared.record.Record.{Record}
use Rattle.snap_call.specs.declared.state.State.{State}
use Rattle.snap_call.specs.declared.config.Namespace.{Namespace}
use Rattle.snap_call.specs.Forms.{is_key, is_limit, is_namespace}
use Rattle.snap_call.specs.Records.{charge_of, committed_at, has_children, has_records, is_active, record_at, unlabelled}
use Rattle.snap_call.specs.Reached.{swept as swept_records, swept_keys}
use Rattle.snap_call.specs.State.{is_taken, is_taken_at, most_namespaces, name_at, place_of, shown_layers, with_namespace, without_namespace, with_limit}
use Rattle.snap_call.specs.Step.{added, counted, leasing, spacing, removed_at, relabelled_at, swept_at}
use Rattle.snap_accounts.specs.declared.change.Change.{Change}
use Rattle.snap_accounts.specs.declared.change.Change.TheVariants.{Nothing, View, Removal, Labels, Space, SpaceEnd, Limit, Lease, LeaseName, LeaseNameEnd, LeaseEnd, Sweep}
use Rattle.snap_accounts.specs.Vacant.{IsSite}

-- the state after the change, with one entry more
abbrev pub changed_state : State → Change → State
changed_state s Nothing = counted s
changed_state s (View r) = added s r
changed_state s (Removal place key) = removed_at s place key
changed_state s (Labels place key labels copy) = relabelled_at s place key labels
changed_state s (Space n) = spacing s (with_namespace n s.namespaces)
changed_state s (SpaceEnd place) = spacing s (without_namespace place s.namespaces)
changed_state s (Limit place n) = spacing s (with_limit place n.limit s.namespaces)
changed_state s (Lease namespace lease until) = leasing s (s.leases ++ empty_lease namespace lease until ∷ [])
changed_state s (LeaseName namespace lease name) = leasing s (with_name_added s.leases namespace lease name)
changed_state s (LeaseNameEnd namespace lease name) = leasing s (with_name_dropped s.leases namespace lease name)
changed_state s (LeaseEnd namespace lease) = leasing s (without_lease s.leases namespace lease)
changed_state s (Sweep place namespace moment keys freed) = swept_at s namespace place moment

-- the record is that of a view, under the next id and of no entry after the next one, and can be added
pub record IsNewView (s : State) (r : Record) : Type 0 where
  pub view : r.content ≡ contents.View (shown_layers r.namespace r.parent s.records)
  pub id : r.id ≡ s.next_id
  pub known : (1 ≤ r.created) × (r.created ≤ r.updated) × (r.updated ≤ s.entries + 1)
  pub site : IsSite s r.namespace r.key r.parent r.labels

-- the snapshot of the key in the namespace at the place can go: no snapshot is on it, it isn't active, and no lease of the namespace names it
pub record IsUnused (s : State) (place : ℕ) (key : Bytes) : Type 0 where
  pub namespace : Bytes
  pub named : place_of namespace s.namespaces ≡ Some place
  pub childless : has_children place key s.records ≡ false
  pub idle : IsSomeAnd (record_at place key s.records) (λ r. is_active r.content ≡ false)
  pub unleased : is_guarded s.leases namespace key ≡ false

-- the namespace can be made: it is well-formed, and the store has none of its name and not the most of them
abbrev pub IsNewSpace : State → Namespace → Type 0
IsNewSpace s n = (is_namespace n ≡ true) × (place_of n.name s.namespaces ≡ None) × (count_by is_taken s.namespaces < most_namespaces)

-- the namespace at the place can go: it has no snapshot and no lease
pub record IsEmptySpace (s : State) (place : ℕ) : Type 0 where
  pub namespace : Bytes
  pub named : place_of namespace s.namespaces ≡ Some place
  pub empty : (has_records place s.records || has_leases s.leases namespace) ≡ false

-- the namespace at the place can have the limit: it covers what the namespace is charged
pub record IsLimitFor (s : State) (place : ℕ) (n : Namespace) : Type 0 where
  pub inside : place < length s.namespaces
  pub taken : is_taken_at place s.namespaces ≡ true
  pub same : n.name ≡ name_at place s.namespaces
  pub formed : is_limit n.limit ≡ true
  pub covers : Covers n.limit (charge_of place s.records)

-- the store has the namespace
abbrev pub IsSpace : State → Bytes → Type 0
IsSpace s namespace = IsSome (place_of namespace s.namespaces)

-- the namespace's lease can be given the name: the name is that of a committed snapshot
pub record IsLeaseName (s : State) (namespace lease name : Bytes) : Type 0 where
  pub there : has_lease s.leases namespace lease ≡ true
  pub committed : IsSomeAnd (place_of namespace s.namespaces) (λ place. IsSome (committed_at place name s.records))

-- `keys` are those of what a sweep of the namespace at the place takes away at the moment, `freed` what that is charged
pub record IsSweepAt (s : State) (place : ℕ) (namespace : Bytes) (moment : ℕ) (keys : List Bytes) (freed : Usage) : Type 0 where
  pub named : place_of namespace s.namespaces ≡ Some place
  pub swept : keys ≡ swept_keys s namespace place moment
  pub charged : freed ≡ charge_of place (swept_records s namespace place moment)

-- the change can be made: a view can be added, a snapshot can go, labels are well-formed and beside a copy of the snapshot, a namespace can come or go, the limit covers the charge, the name of a lease is well-formed and the namespace has no such lease yet, the lease can be given the name or has it to lose, there is a lease to go, a sweep takes these away
abbrev pub CanChange : State → Change → Type 0
CanChange s (View r) = IsNewView s r
CanChange s (Removal place key) = IsUnused s place key
CanChange s (Labels place key labels copy) = (are_labels labels ≡ true) × ((r : Record) → record_at place key s.records ≡ Some r → copy.value ≡ unlabelled r)
CanChange s (Space n) = IsNewSpace s n
CanChange s (SpaceEnd place) = IsEmptySpace s place
CanChange s (Limit place n) = IsLimitFor s place n
CanChange s (Lease namespace lease until) = IsSpace s namespace × (has_lease s.leases namespace lease ≡ false) × (is_key lease ≡ true)
CanChange s (LeaseName namespace lease name) = IsLeaseName s namespace lease name
CanChange s (LeaseNameEnd namespace lease name) = lease_names s.leases namespace lease name ≡ true
CanChange s (LeaseEnd namespace lease) = has_lease s.leases namespace lease ≡ true
CanChange s (Sweep place namespace moment keys freed) = IsSweepAt s place namespace moment keys freed
CanChange s change = Unit {0}

-- the change takes no memory: no record, no namespace, no lease and no name comes, and no record goes
abbrev pub wants_none : State → Change → Bool
wants_none s Nothing = true
wants_none s (Labels place key labels copy) = true
wants_none s (SpaceEnd place) = true
wants_none s (Limit place n) = true
wants_none s (LeaseName namespace lease name) = lease_names s.leases namespace lease name
wants_none s (LeaseNameEnd namespace lease name) = true
wants_none s (LeaseEnd namespace lease) = true
wants_none s (Sweep place namespace moment keys freed) = length keys == 0
wants_none s change = false

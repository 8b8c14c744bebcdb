-- What is true of the state whenever no call is under way.
use Rattle.std.specs.Prelude.{◌≡◌, ◌≢◌, ℕ, ◌<◌, ◌≤◌, ◌&&◌, true, List, [], ◌∷◌, length, IsSomeAnd}
use Rattle.std.specs.List.{AllByRecursion}
use Rattle.std.specs.List.Sorted.{IsStrictlySortedBy}
use Rattle.snap_lease.specs.Lease.{NamesOnce}
use Rattle.snap_lease.specs.Leases.{AreDistinct}
use Rattle.snap_record.specs.Labels.{Bytes, are_labels}
use Rattle.snap_record.specs.declared.record.Content.{Content}
use Rattle.snap_record.specs.declared.record.Content.TheVariants.{View}
use Rattle.snap_record.specs.declared.record.Record.{Record}
use Rattle.snap_mount.specs.Mounts.{is_root_text}
use Rattle.snap_call.specs.declared.state.State.{State}
use Rattle.snap_call.specs.Forms.{is_key, is_parent, is_space, is_limit, is_layer_limit, is_ancestor_limit, have_distinct_names}
use Rattle.snap_call.specs.Records.{record_cmp, committed_at, AllPairwise, AreApart, HasLowSlot, max_slots}
use Rattle.snap_call.specs.Promised.{Promised}
use Rattle.snap_call.specs.State.{limit_at, is_taken_at, most_namespaces, shown_layers}

-- a view's layers are those of its committed ancestors, or one empty layer
abbrev pub IsShown : List Record → ℕ → Bytes → Content → Type 0
IsShown rs place parent (View layers) = layers ≡ shown_layers place parent rs
IsShown rs place parent content = Unit {0}

-- the parent is none, or a committed snapshot of the namespace whose id is below this one
abbrev pub HasOlderParent : List Record → ℕ → Bytes → ℕ → Type 0
HasOlderParent rs place [] id = Unit {0}
HasOlderParent rs place (b ∷ bs) id = IsSomeAnd (committed_at place (b ∷ bs) rs) (λ p. p.id < id)

-- each namespace's name has at most 255 bytes
abbrev pub HasShortNames : State → Type 0
HasShortNames s = AllByRecursion (λ n. length n.name ≤ 255) s.namespaces

-- the texts of a snapshot have the forms that a call asks for, its id is above 0, and of the entries so far one made it, and this or a later one last changed it
pub record IsFormed (entries : ℕ) (r : Record) : Type 0 where
  pub texts : (is_key r.key && is_parent r.parent && are_labels r.labels) ≡ true
  pub above : 1 ≤ r.id
  pub known : (1 ≤ r.created) × (r.created ≤ r.updated) × (r.updated ≤ entries)

-- what is true of the state whenever no call is under way
pub record Good (s : State) : Type 0 where
  -- the root can be the directory that all snapshots lie in
  pub root : is_root_text s.root ≡ true
  -- each parent, lease, count, charge and chain is as a store promises
  pub promised : Promised s
  -- a lease names each snapshot once
  pub named_once : AllByRecursion NamesOnce s.leases
  -- each lease's name has the form that a call asks for, and no two leases of a namespace have the same one
  pub lease_names : AllByRecursion (λ l. is_key l.name ≡ true) s.leases
  pub lease_keys : AreDistinct s.leases
  -- each namespace's limit is at most 2^40 of each quantity
  pub limits : (place : ℕ) → place < length s.namespaces → is_limit (limit_at place s.namespaces) ≡ true
  -- each namespace's name has at most 255 bytes
  pub short : HasShortNames s
  -- no two namespaces have the same name
  pub distinct : have_distinct_names s.namespaces ≡ true
  -- each place has no namespace or a well-formed one, and there are at most 4096 places
  pub spaces : AllByRecursion (λ n. is_space n ≡ true) s.namespaces
  pub few_spaces : length s.namespaces ≤ most_namespaces
  -- each snapshot is one of a namespace that is there
  pub placed : AllByRecursion (λ r. is_taken_at r.namespace s.namespaces ≡ true) s.records
  -- each key stands once in its namespace, and the records are in order
  pub sorted : IsStrictlySortedBy record_cmp s.records
  -- no two snapshots have the same id, and the next one is above all
  pub ids : AllPairwise (λ r t. r.id ≢ t.id) s.records
  pub numbered : AllByRecursion (λ r. r.id < s.next_id) s.records
  -- each snapshot's id is above its parent's
  pub rising : AllByRecursion (λ r. HasOlderParent s.records r.namespace r.parent r.id) s.records
  -- there are fewer snapshots than the next id
  pub fewer : length s.records < s.next_id
  -- each snapshot has the form that a call gives it
  pub formed : AllByRecursion (IsFormed s.entries) s.records
  -- the store has 1 to 4096 slots, no two active snapshots have the same one, and each has one of them
  pub few_slots : (1 ≤ s.slots) × (s.slots ≤ max_slots)
  pub slots : AllPairwise AreApart s.records
  pub open_slots : AllByRecursion (λ r. HasLowSlot s.slots r.content) s.records
  -- each view keeps the layers that it shows
  pub shown : AllByRecursion (λ r. IsShown s.records r.namespace r.parent r.content) s.records
  -- the most inodes of a layer are 1 to 2^24
  pub layers : is_layer_limit s.layer_inodes ≡ true
  -- the most committed ancestors are 1 to 500
  pub most : is_ancestor_limit s.ancestors ≡ true

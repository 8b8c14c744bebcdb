-- The leases of all namespaces, in the order in which they were created.
use Rattle.std.specs.Prelude.{◌≡◌, ◌≢◌, ℕ, ◌+◌, Bool, not, List, Option, map, filter, find, count_by, ◌&&◌, if◌then◌else◌}
use Rattle.std.specs.List.{list_any, IsDistinct}
use Rattle.std.specs.Option.{option_map}
use Rattle.snap_lease.specs.Lease.{Lease, is_of, is_lease, does_name, is_live, with_lease_name, without_lease_name}

-- whether the namespace has a lease of this name
abbrev pub has_lease : List Lease → List ℕ → List ℕ → Bool
has_lease ls namespace lease = list_any (is_lease namespace lease) ls

-- whether the namespace has a lease
abbrev pub has_leases : List Lease → List ℕ → Bool
has_leases ls namespace = list_any (is_of namespace) ls

-- no two leases of one namespace have the same name
abbrev pub AreDistinct : List Lease → Type 0
AreDistinct ls = IsDistinct (λ l. is_lease l.namespace l.name) ls

-- the names of the namespace's lease, in order
abbrev pub names_in_lease : List Lease → List ℕ → List ℕ → Option (List (List ℕ))
names_in_lease ls namespace lease = option_map (λ l. l.names) (find (is_lease namespace lease) ls)

-- whether the lease is of the namespace and names the snapshot
abbrev pub guards : List ℕ → List ℕ → Lease → Bool
guards namespace name l = is_of namespace l && does_name name l

-- the number of the namespace's leases that name the snapshot
abbrev pub naming_count : List Lease → List ℕ → List ℕ → ℕ
naming_count ls namespace name = count_by (guards namespace name) ls

-- whether a lease of the namespace names the snapshot
abbrev pub is_guarded : List Lease → List ℕ → List ℕ → Bool
is_guarded ls namespace name = list_any (guards namespace name) ls

-- whether a lease of the namespace, live at the moment, names the snapshot
abbrev pub is_guarded_at : List Lease → List ℕ → List ℕ → ℕ → Bool
is_guarded_at ls namespace name now = list_any (λ l. guards namespace name l && is_live now l) ls

-- whether the lease is of the namespace and has ended at the moment
abbrev pub has_ended : List ℕ → ℕ → Lease → Bool
has_ended namespace now l = is_of namespace l && not (is_live now l)

-- the namespace's lease of this name gets the name
abbrev pub with_name_added : List Lease → List ℕ → List ℕ → List ℕ → List Lease
with_name_added ls namespace lease name = map (λ l. if is_lease namespace lease l then with_lease_name name l else l) ls

-- the namespace's lease of this name loses the name
abbrev pub with_name_dropped : List Lease → List ℕ → List ℕ → List ℕ → List Lease
with_name_dropped ls namespace lease name = map (λ l. if is_lease namespace lease l then without_lease_name name l else l) ls

-- the leases without the namespace's lease of this name
abbrev pub without_lease : List Lease → List ℕ → List ℕ → List Lease
without_lease ls namespace lease = filter (λ l. not (is_lease namespace lease l)) ls

-- the leases without those of the namespace that have ended at the moment
abbrev pub without_ended : List Lease → List ℕ → ℕ → List Lease
without_ended ls namespace now = filter (λ l. not (has_ended namespace now l)) ls

-- whether the namespace's lease of this name names the snapshot
abbrev pub lease_names : List Lease → List ℕ → List ℕ → List ℕ → Bool
lease_names ls namespace lease name = list_any (λ l. is_lease namespace lease l && does_name name l) ls

-- the count of the name in the namespace grows by one where the lease lacked the name, and every other count stays
pub record CountsAdded (old new : List Lease) (namespace lease name : List ℕ) : Type 0 where
  pub named : naming_count new namespace name ≡ naming_count old namespace name + (if lease_names old namespace lease name then 0 else 1)
  pub other_names : (space other : List ℕ) → other ≢ name → naming_count new space other ≡ naming_count old space other
  pub other_namespaces : (space other : List ℕ) → space ≢ namespace → naming_count new space other ≡ naming_count old space other

-- the count of the name in the namespace falls by one, and every other count stays
pub record CountsDropped (old new : List Lease) (namespace name : List ℕ) : Type 0 where
  pub named : naming_count new namespace name + 1 ≡ naming_count old namespace name
  pub other_names : (space other : List ℕ) → other ≢ name → naming_count new space other ≡ naming_count old space other
  pub other_namespaces : (space other : List ℕ) → space ≢ namespace → naming_count new space other ≡ naming_count old space other

-- the count of each name that the lease has falls by one, and every other count stays
pub record CountsReleased (old new : List Lease) (namespace lease : List ℕ) : Type 0 where
  pub named : (name : List ℕ) → naming_count new namespace name + (if lease_names old namespace lease name then 1 else 0) ≡ naming_count old namespace name
  pub other_namespaces : (space name : List ℕ) → space ≢ namespace → naming_count new space name ≡ naming_count old space name

-- the namespace's counts are those over its live leases, and the counts of other namespaces stay
pub record CountsLive (old new : List Lease) (namespace : List ℕ) (now : ℕ) : Type 0 where
  pub named : (name : List ℕ) → naming_count new namespace name ≡ count_by (λ l. guards namespace name l && is_live now l) old
  pub other_namespaces : (space name : List ℕ) → space ≢ namespace → naming_count new space name ≡ naming_count old space name

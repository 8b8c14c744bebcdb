-- Records as a list, in order of their namespaces' places and of the bytes of their keys.
use Rattle.std.specs.Prelude.{◌≡◌, ℕ, ◌<◌, zero, suc, ◌==◌, Bool, true, false, ◌&&◌, List, [], ◌∷◌, map, filter, take, Option, None, Some, find, bytes_eq, option_and_then, unwrap_or, count_by, length, if◌then◌else◌}
use Rattle.std.specs.declared.cmp.Ordering.{Ordering}
use Rattle.std.specs.Ordering.{nat_cmp, ordering_then, is_lt}
use Rattle.std.specs.Cmp.Lexicographic.{slice_cmp}
use Rattle.std.specs.List.{list_any, AllByRecursion}
use Rattle.std.specs.Option.{option_or}
use Rattle.snap_layer.specs.Tree.{Tree}
use Rattle.snap_usage.specs.declared.usage.Usage.{Usage}
use Rattle.snap_usage.specs.Counted.{count_of, no_usage}
use Rattle.snap_ledger.specs.States.{ChargeState, free_charge, plus}
use Rattle.snap_record.specs.Filters.{is_match}
use Rattle.snap_record.specs.Labels.{Bytes, Label}
use Rattle.snap_record.specs.Records.{info_of, usage_of}
use Rattle.snap_record.specs.declared.filter.Filter.{Filter}
use Rattle.snap_record.specs.declared.info.Info.{Info}
use Rattle.snap_record.specs.declared.record.Content.{Content}
use Rattle.snap_record.specs.declared.record.Content.TheVariants.{Active, Committed}
use Rattle.snap_record.specs.declared.record.Record.{Record}

-- the order of the records
abbrev pub record_cmp : Record → Record → Ordering
record_cmp r t = ordering_then (nat_cmp r.namespace t.namespace) (slice_cmp nat_cmp r.key t.key)

-- the record t comes after r
abbrev pub is_later : Record → Record → Bool
is_later r t = is_lt (record_cmp r t)

-- the record of this key in the namespace at this place
abbrev pub is_named : ℕ → Bytes → Record → Bool
is_named place key r = (r.namespace == place) && bytes_eq r.key key

abbrev pub record_at : ℕ → Bytes → List Record → Option Record
record_at place key rs = find (is_named place key) rs

-- whether the namespace has a snapshot of this key
abbrev pub has_key : ℕ → Bytes → List Record → Bool
has_key place key rs = list_any (is_named place key) rs

-- a record that is active in this slot
abbrev pub has_slot : ℕ → Content → Bool
has_slot slot (Active s charged) = s == slot
has_slot slot content = false

abbrev pub is_slot : ℕ → Record → Bool
is_slot slot r = has_slot slot r.content

-- the record that is active in the slot, if the slot is open
abbrev pub active_at : ℕ → List Record → Option Record
active_at slot rs = find (is_slot slot) rs

-- the record is in the namespace and on this parent
abbrev pub is_child : ℕ → Bytes → Record → Bool
is_child place key r = (r.namespace == place) && bytes_eq r.parent key

-- whether the namespace at the place has a snapshot
abbrev pub has_records : ℕ → List Record → Bool
has_records place rs = list_any (λ r. r.namespace == place) rs

-- whether the namespace has a snapshot on this parent
abbrev pub has_children : ℕ → Bytes → List Record → Bool
has_children place key rs = list_any (is_child place key) rs

-- how many snapshots of the namespace at the place are on the parent
abbrev pub child_count : ℕ → Bytes → List Record → ℕ
child_count place key rs = count_by (is_child place key) rs

-- an active record
abbrev pub is_active : Content → Bool
is_active (Active slot charged) = true
is_active content = false

-- a committed record
abbrev pub is_committed : Content → Bool
is_committed (Committed layer usage) = true
is_committed content = false

-- the committed record of this key in the namespace
abbrev pub committed_at : ℕ → Bytes → List Record → Option Record
committed_at place key rs = option_and_then (λ r. if is_committed r.content then Some r else None) (record_at place key rs)

-- the sum over the records of the namespace at this place
abbrev pub sum_of : (Content → Usage) → ℕ → List Record → Usage
sum_of part place [] = no_usage
sum_of part place (r ∷ rs) = plus (if r.namespace == place then part r.content else no_usage) (sum_of part place rs)

-- the charge of a namespace: stored usages of its committed snapshots and charged usages of its active ones
abbrev pub charge_of : ℕ → List Record → Usage
charge_of place rs = sum_of usage_of place rs

-- the charge of a slot, as the ledger has it
abbrev pub charge_if : ℕ → Option Record → ChargeState
charge_if slot None = free_charge slot
charge_if slot (Some r) = record { slot = slot; id = r.id; usage = usage_of r.content; issued = true }

abbrev pub charge_at : ℕ → List Record → ChargeState
charge_at slot rs = charge_if slot (active_at slot rs)

-- how many snapshots are active
abbrev pub open_count : List Record → ℕ
open_count rs = length (filter (λ r. is_active r.content) rs)

-- the records with one more, in its place
abbrev pub with_record : Record → List Record → List Record
with_record r [] = r ∷ []
with_record r (t ∷ ts) = if is_lt (record_cmp r t) then r ∷ t ∷ ts else t ∷ with_record r ts

-- the records without the first that passes a test
abbrev pub without_first : (Record → Bool) → List Record → List Record
without_first p [] = []
without_first p (r ∷ rs) = if p r then rs else r ∷ without_first p rs

-- without the one that is active in the slot
abbrev pub without_slot : ℕ → List Record → List Record
without_slot slot rs = without_first (is_slot slot) rs

-- without the one of this key in the namespace
abbrev pub without_key : ℕ → Bytes → List Record → List Record
without_key place key rs = without_first (is_named place key) rs

-- without those of these keys in the namespace
abbrev pub without_keys : ℕ → List Bytes → List Record → List Record
without_keys place [] rs = rs
without_keys place (key ∷ keys) rs = without_keys place keys (without_key place key rs)

-- the records, once the one that is active in the slot is charged `to`
abbrev pub recharged : ℕ → Usage → List Record → List Record
recharged slot to [] = []
recharged slot to (r ∷ rs) = if is_slot slot r then record r { content = Active slot to } ∷ rs else r ∷ recharged slot to rs

-- a record with these labels, as the entry of this number leaves it
abbrev pub with_labels : List Label → ℕ → Record → Record
with_labels labels number r = record r { labels = labels; updated = number }

-- a record without its labels
abbrev pub unlabelled : Record → Record
unlabelled r = record r { labels = [] }

-- the records after that of the key in the namespace has these labels
abbrev pub relabelled : ℕ → Bytes → List Label → ℕ → List Record → List Record
relabelled place key labels number [] = []
relabelled place key labels number (r ∷ rs) = if is_named place key r then with_labels labels number r ∷ rs else r ∷ relabelled place key labels number rs

-- the infos of the first `most` records of the namespace at the place whose key comes after this text, and that have every part of the filter, in the order of their keys
abbrev pub info_page : ℕ → Bytes → ℕ → Filter → List Record → List Info
info_page place after most asked rs = map info_of (take most (filter (λ r. (r.namespace == place) && is_lt (slice_cmp nat_cmp after r.key) && is_match (info_of r) asked) rs))

-- a record as it is once it is committed under a name, by the entry of this number: with the labels that are given, or with its own
abbrev pub committed_as : Bytes → Option (List Label) → Tree → ℕ → Record → Record
committed_as name labels layer number r = record r { key = name; labels = unwrap_or labels r.labels; content = Committed layer (count_of layer); created = number; updated = number }

-- the most committed ancestors that a store can allow a snapshot: as many lower layers as Linux's overlayfs takes
abbrev pub most_ancestors : ℕ
most_ancestors = 500

-- the most of a store whose opening doesn't say
abbrev pub default_ancestors : ℕ
default_ancestors = 64

-- the slots of a store that isn't given a number of them
abbrev pub default_slots : ℕ
default_slots = 64

-- the most slots of a store
abbrev pub max_slots : ℕ
max_slots = 4096

-- the most sessions of a store: a limit of this project
abbrev pub max_sessions : ℕ
max_sessions = 65536

-- the most entries of a journal: a limit of this project
abbrev pub max_journal : ℕ
max_journal = 1048576

-- of the slots below a number, the lowest that is free: in which no snapshot is active
unfoldable pub lowest_free : ℕ → List Record → Option ℕ
lowest_free zero rs = None
lowest_free (suc n) rs = option_or (lowest_free n rs) (if list_any (is_slot n) rs then None else Some n)

-- R holds of any two items, the earlier one first
abbrev pub AllPairwise : {X : Type 0} → (X → X → Type 0) → List X → Type 0
AllPairwise R [] = Unit {0}
AllPairwise R (x ∷ xs) = AllByRecursion (R x) xs × AllPairwise R xs

-- an active snapshot's slot is below a number
abbrev pub HasLowSlot : ℕ → Content → Type 0
HasLowSlot n (Active slot charged) = slot < n
HasLowSlot n content = Unit {0}

-- the two are not active in the same slot
abbrev pub AreApart : Record → Record → Type 0
AreApart r t = (slot : ℕ) → is_slot slot r ≡ true → is_slot slot t ≡ false

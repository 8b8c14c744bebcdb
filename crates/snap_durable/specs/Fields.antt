-- In which fields two stores differ; cited by the public clause of `store_differences`.
use Rattle.std.specs.Prelude.{ℕ, ◌==◌, Bool, ◌&&◌, true, false, if◌then◌else◌, List, [], ◌∷◌, ◌++◌, Option, Some, None, bytes_eq, codes, length}
use Rattle.std.specs.Cmp.Lexicographic.{pointwise}
use Rattle.std.specs.List.{list_all}
use Rattle.std.specs.Option.{option_eq, option_map_or}
use Rattle.snap_usage.specs.declared.usage.Usage.{Usage}
use Rattle.snap_lease.specs.Told.{ToldLease}
use Rattle.snap_record.specs.Filters.{is_same_kind}
use Rattle.snap_record.specs.Labels.{Bytes, Label, value_of}
use Rattle.snap_durable.specs.Differences.{differences}
use Rattle.snap_durable.specs.declared.compare.Differences.{Differences}
use Rattle.snap_durable.specs.declared.compare.Field.{Field}
use Rattle.snap_durable.specs.declared.compare.Field.TheVariants.{Charged, Limit, Kind, Labels, Parent, Usage as Taken, Names, Until}
use Rattle.snap_durable.specs.declared.compare.SpaceDifference.{SpaceDifference}
use Rattle.snap_durable.specs.declared.holding.Contents.{Contents}
use Rattle.snap_durable.specs.declared.picture.Snapshot.{Snapshot}
use Rattle.snap_durable.specs.declared.picture.Space.{Space}

-- the word for a field
abbrev pub field_word : Field → List ℕ
field_word Charged = codes "charged"
field_word Limit = codes "limit"
field_word Kind = codes "kind"
field_word Labels = codes "labels"
field_word Parent = codes "parent"
field_word Taken = codes "usage"
field_word Names = codes "names"
field_word Until = codes "until"

-- the field, unless it is the same
abbrev pub field_unless : Bool → Field → List Field
field_unless is_same field = if is_same then [] else field ∷ []

-- the fields, if there are any
abbrev pub if_any : List Field → Option (List Field)
if_any [] = None
if_any (field ∷ fields) = Some (field ∷ fields)

-- as many blocks, and as many inodes
abbrev pub is_same_usage : Usage → Usage → Bool
is_same_usage a b = (a.blocks == b.blocks) && (a.inodes == b.inodes)

-- the key has this value among the labels
abbrev pub has_equal_label : List Label → Label → Bool
has_equal_label labels label = option_map_or (bytes_eq label.1) (value_of labels label.0) false

-- as many labels, each of the first with its value among the second
abbrev pub has_same_labels : List Label → List Label → Bool
has_same_labels a b = (length a == length b) && list_all (has_equal_label b) a

-- in which fields a snapshot differs, if in any
abbrev pub snapshot_difference : Snapshot → Snapshot → Option (List Field)
snapshot_difference a b = if_any (field_unless (is_same_kind a.kind b.kind) Kind ++ field_unless (has_same_labels a.labels b.labels) Labels ++ field_unless (bytes_eq a.parent b.parent) Parent ++ field_unless (is_same_usage a.usage b.usage) Taken)

-- the same of a lease
abbrev pub lease_difference : ToldLease → ToldLease → Option (List Field)
lease_difference a b = if_any (field_unless (pointwise bytes_eq a.names b.names) Names ++ field_unless (option_eq (λ m n. m == n) a.until b.until) Until)

-- a list without an item
abbrev pub has_none : {A : Type 0} → List A → Bool
has_none [] = true
has_none (item ∷ items) = false

-- a namespace that differs in nothing
abbrev pub is_same_space : SpaceDifference → Bool
is_same_space d = has_none d.fields && has_none d.snapshots && has_none d.leases

-- a difference, if it is one
abbrev pub unless_same : SpaceDifference → Option SpaceDifference
unless_same d = if is_same_space d then None else Some d

-- in which fields a namespace differs, and at which snapshots and leases, if it does
abbrev pub space_difference : Space → Space → Option SpaceDifference
space_difference a b = unless_same (record {
  fields = field_unless (is_same_usage a.charged b.charged) Charged ++ field_unless (is_same_usage a.limit b.limit) Limit;
  snapshots = differences snapshot_difference a.snapshots b.snapshots;
  leases = differences lease_difference a.leases b.leases;
})

-- the namespaces, none without a store
abbrev pub spaces_in : Option (Contents Space) → List (Bytes × Space)
spaces_in None = []
spaces_in (Some contents) = contents.namespaces

-- in what two stores differ
abbrev pub store_differences : Option (Contents Space) → Option (Contents Space) → Differences
store_differences a b = record { namespaces = differences space_difference (spaces_in a) (spaces_in b) }

-- How what a sweep takes away is found: by a list with a truth value for each record.
use Rattle.std.specs.Prelude.{ℕ, ◌==◌, Bool, not, ◌&&◌, ◌||◌, if◌then◌else◌, List, [], ◌∷◌, Option, None, position}
use Rattle.std.specs.declared.cmp.Ordering.{Ordering}
use Rattle.std.specs.Ordering.{nat_cmp, ordering_then}
use Rattle.std.specs.Cmp.Lexicographic.{slice_cmp}
use Rattle.snap_lease.specs.Live.{is_among}
use Rattle.snap_record.specs.Labels.{Bytes}
use Rattle.snap_record.specs.declared.record.Record.{Record}
use Rattle.snap_call.specs.Records.{is_named, is_committed}

-- how the record stands to the key in the namespace at the place, in the order of the records
abbrev pub key_cmp : ℕ → Bytes → Record → Ordering
key_cmp place key r = ordering_then (nat_cmp r.namespace place) (slice_cmp nat_cmp r.key key)

-- where the record of a name stands, if one is given
abbrev pub base_place : ℕ → List Record → Bytes → Option ℕ
base_place place rs [] = None
base_place place rs (b ∷ bs) = position (is_named place (b ∷ bs)) rs

-- where the parent of a record of the namespace stands
abbrev pub parent_place : ℕ → List Record → Record → Option ℕ
parent_place place rs r = if r.namespace == place then base_place place rs r.parent else None

-- the record is one of the namespace, and isn't committed or has one of these names
abbrev pub is_kept : ℕ → List Bytes → Record → Bool
is_kept place names r = (r.namespace == place) && (not (is_committed r.content) || is_among r.key names)

-- the records of the namespace that are marked
abbrev pub marked : ℕ → List Record → List Bool → List Record
marked place (r ∷ rs) (b ∷ bs) = if (r.namespace == place) && b then r ∷ marked place rs bs else marked place rs bs
marked place rs bs = []

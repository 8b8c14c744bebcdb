-- Records by their namespaces: a list for each place, in the order of the places.
use Rattle.std.specs.Prelude.{◌≡◌, ◌≢◌, ℕ, suc, ◌-◌, Bool, if◌then◌else◌, List, [], ◌∷◌, ◌++◌, length, map, filter, take, count_by, bytes_eq, string_bytes, IsSome}
use Rattle.std.specs.Cmp.Lexicographic.{slice_cmp}
use Rattle.std.specs.List.{AllByRecursion}
use Rattle.std.specs.List.Sorted.{IsStrictlySortedBy}
use Rattle.std.specs.Map.{keys_of, values_of}
use Rattle.std.specs.Ordering.{is_lt, nat_cmp}
use Rattle.std.specs.declared.cmp.Ordering.{Ordering}
use Rattle.std.specs.declared.string.String.{String}
use Rattle.arrayvec.specs.ArrayVec.{ArrayVec}
use Rattle.snap_counts.specs.Counts.{count_in}
use Rattle.snap_record.specs.Filters.{is_match}
use Rattle.snap_record.specs.Labels.{Bytes}
use Rattle.snap_record.specs.Records.{info_of}
use Rattle.snap_record.specs.declared.filter.Filter.{Filter}
use Rattle.snap_record.specs.declared.info.Info.{Info}
use Rattle.snap_record.specs.declared.record.Record.{Record}
use Rattle.snap_call.specs.Indexes.{slot_of}
use Rattle.snap_call.specs.Records.{is_named, unlabelled, with_labels}
use Rattle.snap_call.specs.declared.record_edit.RecordEdit.{RecordEdit}
use Rattle.snap_call.specs.declared.record_edit.RecordEdit.TheVariants as edits

-- the records are of the namespace at the place
abbrev pub IsOf : ℕ → List Record → Type 0
IsOf place rs = AllByRecursion (λ r. r.namespace ≡ place) rs

-- the place of the first record's namespace
abbrev pub first_place_of : List Record → ℕ
first_place_of [] = 0
first_place_of (r ∷ rs) = r.namespace

-- the records are of one namespace
abbrev pub AreOfOne : List Record → Type 0
AreOfOne rs = IsOf (first_place_of rs) rs

-- the lists are those of the namespaces from a place on
abbrev pub AreFrom : ℕ → List (List Record) → Type 0
AreFrom place [] = Unit {0}
AreFrom place (rs ∷ rss) = IsOf place rs × AreFrom (suc place) rss

-- the records of all lists
abbrev pub joined_records : List (List Record) → List Record
joined_records [] = []
joined_records (rs ∷ rss) = rs ++ joined_records rss

-- the lists are those of the namespaces, and have `count` records in all
pub record AreCounted (rss : List (List Record)) (count : ℕ) : Type 0 where
  pub from : AreFrom 0 rss
  pub counted : count ≡ length (joined_records rss)

-- the bytes that a key begins with
abbrev pub beginning : Bytes → Bytes
beginning key = take 16 key

-- the order of such bytes
abbrev pub beginning_cmp : ArrayVec ℕ → ArrayVec ℕ → Ordering
beginning_cmp b c = slice_cmp nat_cmp b.items c.items

-- each group has records whose keys begin with its bytes, at least one, the groups are in their order, and all records are of one namespace
pub record AreGroups (es : List (ArrayVec ℕ × List Record)) : Type 0 where
  pub begun : AllByRecursion (λ e. AllByRecursion (λ r. beginning r.key ≡ e.0.items) e.1) es
  pub full : AllByRecursion (λ e. e.1 ≢ []) es
  pub ordered : IsStrictlySortedBy beginning_cmp (keys_of es)
  pub alike : AreOfOne (joined_records (values_of es))

-- each record stands at its own key
abbrev pub IsKeyed : {Z : Type 0} → List (String Z × Record) → Type 0
IsKeyed es = AllByRecursion (λ e. string_bytes e.0 ≡ e.1.key) es

-- each text is counted as often as it is the parent of one of the records
abbrev pub AreParentCounts : List Record → List (Bytes × ℕ) → Type 0
AreParentCounts rs counts = (q : Bytes) → count_in q counts ≡ count_by (λ r. bytes_eq q r.parent) rs

-- the edit is one of this record: an active one gets what it holds, and labels come with a copy of the record
abbrev pub IsEditOf : RecordEdit → Record → Type 0
IsEditOf (edits.Content content) r = IsSome (slot_of r.content)
IsEditOf (edits.Labels labels number copy) r = copy.value ≡ unlabelled r

-- the record after the edit
abbrev pub edited_record : RecordEdit → Record → Record
edited_record (edits.Content content) r = record r { content = content }
edited_record (edits.Labels labels number copy) r = with_labels labels number r

-- the records after the first that passes a test is changed
abbrev pub amended : (Record → Bool) → (Record → Record) → List Record → List Record
amended p f [] = []
amended p f (r ∷ rs) = if p r then f r ∷ rs else r ∷ amended p f rs

-- the records after the edit of that of the key in the namespace
abbrev pub edited_at : ℕ → Bytes → RecordEdit → List Record → List Record
edited_at place key edit rs = amended (is_named place key) (edited_record edit) rs

-- the record's key comes after the text
abbrev pub is_key_after : Bytes → Record → Bool
is_key_after after r = is_lt (slice_cmp nat_cmp after r.key)

-- the record has every part of the filter
abbrev pub is_asked : Filter → Record → Bool
is_asked asked r = is_match (info_of r) asked

-- the infos of the first `most` records that have every part of the filter
abbrev pub infos_of : ℕ → Filter → List Record → List Info
infos_of most asked rs = map info_of (take most (filter (is_asked asked) rs))

-- the infos, filled up to `most` by those of the records whose keys come after the text and that have every part of the filter
abbrev pub page_after : Bytes → ℕ → Filter → List Info → List Record → List Info
page_after after most asked infos rs = infos ++ infos_of (most - length infos) asked (filter (is_key_after after) rs)

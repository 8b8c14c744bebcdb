-- How many records there are after each change.
use Rattle.std.proofs.Common.{◌≡◌, ℕ, zero, suc, ◌+◌, ◌<◌, ◌≤◌, Bool, true, false, cond, List, [], ◌∷◌, length, get_or, Some, refl, arith}
use Rattle.std.specs.List.{find}
use Rattle.std.specs.Prelude.{if◌then◌else◌, filter}
use Rattle.std.specs.Ordering.{is_lt}
use Rattle.std.proofs.lemmas.List.{length-append}
use Rattle.std.proofs.lemmas.List.Sums.{length-filter, count_by-le-length}
use Rattle.snap_usage.specs.declared.usage.Usage.{Usage}
use Rattle.snap_record.specs.Labels.{Bytes, Label}
use Rattle.snap_record.specs.declared.record.Content.TheVariants.{Active}
use Rattle.snap_record.specs.declared.record.Record.{Record}
use Rattle.snap_call.specs.Records.{record_cmp, is_named, is_slot, with_record, with_labels, without_first, recharged, relabelled}
use Rattle.snap_call.specs.Spaces.{joined_records}
use Rattle.snap_call.proofs.Lists.{none_some}

pub length-with_record : (r : Record) (rs : List Record) → length (with_record r rs) ≡ length rs + 1
length-with_record r [] = refl
length-with_record r (t ∷ ts) = by (is_lt (record_cmp r t)) (length-with_record r ts)
  where
    by : (b : Bool) → length (with_record r ts) ≡ length ts + 1 → length (if b then r ∷ t ∷ ts else t ∷ with_record r ts) ≡ length (t ∷ ts) + 1
    by true more = omega arith
    by false more = omega (arith, more)

pub length-without : (p : Record → Bool) (rs : List Record) → length (without_first p rs) ≤ length rs
length-without p [] = omega arith
length-without p (r ∷ rs) = by (p r) (length-without p rs)
  where
    by : (b : Bool) → length (without_first p rs) ≤ length rs → length (if b then rs else r ∷ without_first p rs) ≤ length (r ∷ rs)
    by true less = omega arith
    by false less = omega (arith, less)

-- what is found is one less
pub length-without_found : (p : Record → Bool) (rs : List Record) (r : Record) → find p rs ≡ Some r → length (without_first p rs) + 1 ≡ length rs
length-without_found p [] r e = absurd (none_some r e)
length-without_found p (t ∷ ts) r e = by (p t) e (length-without_found p ts r)
  where
    by : (b : Bool) → cond b (Some t) (find p ts) ≡ Some r → (find p ts ≡ Some r → length (without_first p ts) + 1 ≡ length ts) → length (if b then ts else t ∷ without_first p ts) + 1 ≡ length (t ∷ ts)
    by true found next = omega arith
    by false found next = omega (arith, next found)

pub length-recharged : (slot : ℕ) (to : Usage) (rs : List Record) → length (recharged slot to rs) ≡ length rs
length-recharged slot to [] = refl
length-recharged slot to (r ∷ rs) = by (is_slot slot r) (length-recharged slot to rs)
  where
    by : (b : Bool) → length (recharged slot to rs) ≡ length rs → length (if b then record r { content = Active slot to } ∷ rs else r ∷ recharged slot to rs) ≡ length (r ∷ rs)
    by true same = refl
    by false same = omega (arith, same)

pub length-relabelled : (place : ℕ) (key : Bytes) (labels : List Label) (number : ℕ) (rs : List Record) → length (relabelled place key labels number rs) ≡ length rs
length-relabelled place key labels number [] = refl
length-relabelled place key labels number (r ∷ rs) = by (is_named place key r) (length-relabelled place key labels number rs)
  where
    by : (b : Bool) → length (relabelled place key labels number rs) ≡ length rs → length (if b then with_labels labels number r ∷ rs else r ∷ relabelled place key labels number rs) ≡ length (r ∷ rs)
    by true same = refl
    by false same = omega (arith, same)

pub length-filtered : (p : Record → Bool) (rs : List Record) → length (filter p rs) ≤ length rs
length-filtered p rs = omega (arith, length-filter p rs, count_by-le-length p rs)

-- one list is no longer than all of them
pub length-joined : (rss : List (List Record)) (k : ℕ) (d : List Record) → k < length rss → length (get_or rss k d) ≤ length (joined_records rss)
length-joined [] k d lt = absurd (omega arith)
length-joined (rs ∷ rss) zero d lt = omega (arith, length-append rs (joined_records rss))
length-joined (rs ∷ rss) (suc k) d lt = omega (arith, length-append rs (joined_records rss), length-joined rss k d (omega arith))

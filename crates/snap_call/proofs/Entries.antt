-- The entries of one namespace, by their keys, as a list of records.
use Rattle.std.proofs.Common.{◌≡◌, ℕ, zero, suc, ◌+◌, ◌-◌, ◌<◌, ◌≤◌, Bool, true, false, true≢false, eq-eqb, cond, List, [], ◌∷◌, ◌++◌, length, take, map, Some, None, refl, sym, ap, ◌∙◌, string_bytes, string_cmp, arith, count_by, append_assoc, append-nil}
use Rattle.std.specs.Prelude.{if◌then◌else◌, ◌&&◌, not, bytes_eq, filter, find}
use Rattle.std.specs.Map.{lookup, remove_entry, set_value, values_of}
use Rattle.std.specs.BTreeMap.{is_at, insert_entry}
use Rattle.std.specs.declared.cmp.Ordering.{Ordering}
use Rattle.std.specs.declared.cmp.Ordering.TheVariants.{Less, Equal, Greater}
use Rattle.std.specs.Ordering.{is_lt, is_eq, nat_cmp, ordering_then, match_ordering}
use Rattle.std.specs.Cmp.Lexicographic.{slice_cmp}
use Rattle.std.specs.declared.string.String.{String}
use Rattle.std.proofs.lemmas.Bool.{or_parts}
use Rattle.std.proofs.lemmas.List.{length_push}
use Rattle.std.proofs.lemmas.List.Sums.{sum_by-cons}
use Rattle.std.proofs.lemmas.Cmp.{nat_cmp_total, tied_itself}
use Rattle.std.proofs.lemmas.Map.Lookups.{exact_bytes}
use Rattle.std.proofs.lemmas.Map.Text.{is_eq-slice_cmp}
use Rattle.snap_counts.specs.Counts.{count_in}
use Rattle.snap_counts.proofs.Lists.{one_if}
use Rattle.snap_lease.proofs.ListLemmas.{bytes_eq_comm}
use Rattle.snap_record.specs.Labels.{Bytes, Label}
use Rattle.snap_record.specs.Records.{info_of}
use Rattle.snap_record.specs.declared.filter.Filter.{Filter}
use Rattle.snap_record.specs.declared.info.Info.{Info}
use Rattle.snap_record.specs.declared.record.Record.{Record}
use Rattle.snap_call.specs.Records.{record_cmp, is_named, record_at, has_key, is_child, child_count, with_record, without_first, with_labels, relabelled, info_page}
use Rattle.snap_call.specs.Spaces.{IsOf, IsKeyed, AreParentCounts, amended, edited_record, is_key_after, is_asked, infos_of}
use Rattle.snap_call.specs.declared.record_edit.RecordEdit.{RecordEdit}
use Rattle.snap_call.specs.declared.record_edit.RecordEdit.TheVariants as edits
use Rattle.snap_call.proofs.Lists.{some_same}
use Rattle.snap_call.proofs.InOrder.{tied-is_named}
use Rattle.snap_call.proofs.Parts.{is_walked}

-- ---- the first record that passes a test, changed

pub amended-none : (p : Record → Bool) (f : Record → Record) (rs : List Record) → find p rs ≡ None → amended p f rs ≡ rs
amended-none p f [] none = refl
amended-none p f (r ∷ rs) none = step (p r) none (amended-none p f rs)
  where
    step : (b : Bool) → cond b (Some r) (find p rs) ≡ None → (find p rs ≡ None → amended p f rs ≡ rs) → (if b then f r ∷ rs else r ∷ amended p f rs) ≡ r ∷ rs
    step true none next = absurd (cc)
    step false none next = ap (λ l. r ∷ l) (next none)

pub without-none : (p : Record → Bool) (rs : List Record) → find p rs ≡ None → without_first p rs ≡ rs
without-none p [] none = refl
without-none p (r ∷ rs) none = step (p r) none (without-none p rs)
  where
    step : (b : Bool) → cond b (Some r) (find p rs) ≡ None → (find p rs ≡ None → without_first p rs ≡ rs) → (if b then rs else r ∷ without_first p rs) ≡ r ∷ rs
    step true none next = absurd (cc)
    step false none next = ap (λ l. r ∷ l) (next none)

pub amended-relabelled : (place : ℕ) (key : Bytes) (labels : List Label) (number : ℕ) (rs : List Record) → relabelled place key labels number rs ≡ amended (is_named place key) (with_labels labels number) rs
amended-relabelled place key labels number [] = refl
amended-relabelled place key labels number (r ∷ rs) = ap (λ l. if is_named place key r then with_labels labels number r ∷ rs else r ∷ l) (amended-relabelled place key labels number rs)

-- ---- an edit leaves a record where it stands

pub edited-namespace : (edit : RecordEdit) (r : Record) → (edited_record edit r).namespace ≡ r.namespace
edited-namespace (edits.Content content) r = refl
edited-namespace (edits.Labels labels number copy) r = refl

pub edited-key : (edit : RecordEdit) (r : Record) → (edited_record edit r).key ≡ r.key
edited-key (edits.Content content) r = refl
edited-key (edits.Labels labels number copy) r = refl

pub edited-parent : (edit : RecordEdit) (r : Record) → (edited_record edit r).parent ≡ r.parent
edited-parent (edits.Content content) r = refl
edited-parent (edits.Labels labels number copy) r = refl

-- ---- by key

module _ {Z : Type 0} where
  -- an entry's key is the one that is sought where its record has that name
  at_named : (place : ℕ) (key : Bytes) (e : String Z × Record) → string_bytes e.0 ≡ e.1.key → e.1.namespace ≡ place → is_eq (slice_cmp nat_cmp key (string_bytes e.0)) ≡ is_named place key e.1
  at_named place key e own of =
      is_eq-slice_cmp key (string_bytes e.0)
      ∙ ap (bytes_eq key) own
      ∙ bytes_eq_comm key e.1.key
      ∙ sym (ap (λ b. b && bytes_eq e.1.key key) (eq-eqb e.1.namespace place of))

  -- the test of a key, as a map's calls have it
  abbrev pub by_text : Bytes → String Z → Bool
  by_text key = is_at (λ (k : String Z). slice_cmp nat_cmp key (string_bytes k))

  pub lookup-named : (place : ℕ) (key : Bytes) (es : List (String Z × Record)) → IsKeyed es → IsOf place (values_of es) → lookup (by_text key) es ≡ record_at place key (values_of es)
  lookup-named place key [] keyed of = refl
  lookup-named place key (e ∷ es) keyed of =
      ap (λ b. cond b (Some e.1) (lookup (by_text key) es)) (at_named place key e keyed.0 of.0)
      ∙ ap (λ o. cond (is_named place key e.1) (Some e.1) o) (lookup-named place key es keyed.1 of.1)

  pub remove-named : (place : ℕ) (key : Bytes) (es : List (String Z × Record)) → IsKeyed es → IsOf place (values_of es) → values_of (remove_entry (by_text key) es) ≡ without_first (is_named place key) (values_of es)
  remove-named place key [] keyed of = refl
  remove-named place key (e ∷ es) keyed of =
      ap (λ b. values_of (cond b es (e ∷ remove_entry (by_text key) es))) (at_named place key e keyed.0 of.0)
      ∙ step (is_named place key e.1) (remove-named place key es keyed.1 of.1)
    where
      step : (b : Bool) → values_of (remove_entry (by_text key) es) ≡ without_first (is_named place key) (values_of es) → values_of (cond b es (e ∷ remove_entry (by_text key) es)) ≡ (if b then values_of es else e.1 ∷ without_first (is_named place key) (values_of es))
      step true next = refl
      step false next = ap (λ l. e.1 ∷ l) next

  pub keyed-remove : (test : String Z → Bool) (es : List (String Z × Record)) → IsKeyed es → IsKeyed (remove_entry test es)
  keyed-remove test [] keyed = tt
  keyed-remove test (e ∷ es) keyed =
      elim (test e.0) as (λ b. IsKeyed (cond b es (e ∷ remove_entry test es))) [ true ↦ keyed.1 | false ↦ (keyed.0, keyed-remove test es keyed.1) ]

  pub set-named : (place : ℕ) (key : Bytes) (f : Record → Record) (es : List (String Z × Record)) (r w : Record) → IsKeyed es → IsOf place (values_of es) → lookup (by_text key) es ≡ Some r → w ≡ f r
      → values_of (set_value (by_text key) es w) ≡ amended (is_named place key) f (values_of es)
  set-named place key f [] r w keyed of found is = refl
  set-named place key f (e ∷ es) r w keyed of found is =
      step (by_text key e.0) found (λ later. set-named place key f es r w keyed.1 of.1 later is)
      ∙ ap (λ b. if b then f e.1 ∷ values_of es else e.1 ∷ amended (is_named place key) f (values_of es)) (at_named place key e keyed.0 of.0)
    where
      step : (b : Bool) → cond b (Some e.1) (lookup (by_text key) es) ≡ Some r → (lookup (by_text key) es ≡ Some r → values_of (set_value (by_text key) es w) ≡ amended (is_named place key) f (values_of es))
          → values_of (cond b ((e.0, w) ∷ es) (e ∷ set_value (by_text key) es w)) ≡ (if b then f e.1 ∷ values_of es else e.1 ∷ amended (is_named place key) f (values_of es))
      step true here next = ap (λ x. x ∷ values_of es) (is ∙ ap f (sym (some_same e.1 r here)))
      step false here next = ap (λ l. e.1 ∷ l) (next here)

  pub keyed-set : (test : String Z → Bool) (es : List (String Z × Record)) (r w : Record) → IsKeyed es → lookup test es ≡ Some r → w.key ≡ r.key → IsKeyed (set_value test es w)
  keyed-set test [] r w keyed found same = tt
  keyed-set test (e ∷ es) r w keyed found same = step (test e.0) found (λ later. keyed-set test es r w keyed.1 later same)
    where
      step : (b : Bool) → cond b (Some e.1) (lookup test es) ≡ Some r → (lookup test es ≡ Some r → IsKeyed (set_value test es w)) → IsKeyed (cond b ((e.0, w) ∷ es) (e ∷ set_value test es w))
      step true here next = (keyed.0 ∙ ap (λ (x : Record). x.key) (some_same e.1 r here) ∙ sym same, keyed.1)
      step false here next = (keyed.0, next here)

  -- ---- one record more

  -- records of one namespace stand as their keys do
  stands : (k : String Z) (r : Record) (e : String Z × Record) → string_bytes k ≡ r.key → string_bytes e.0 ≡ e.1.key → e.1.namespace ≡ r.namespace → record_cmp r e.1 ≡ string_cmp k e.0
  stands k r e own keyed of =
      ap (λ n. ordering_then (nat_cmp r.namespace n) (slice_cmp nat_cmp r.key e.1.key)) of
      ∙ ap (λ o. ordering_then o (slice_cmp nat_cmp r.key e.1.key)) (tied_itself nat_cmp_total r.namespace)
      ∙ ap (λ a. slice_cmp nat_cmp a e.1.key) (sym own)
      ∙ ap (slice_cmp nat_cmp (string_bytes k)) (sym keyed)

  pub insert-named : (k : String Z) (r : Record) (es : List (String Z × Record)) → string_bytes k ≡ r.key → IsKeyed es → IsOf r.namespace (values_of es) → has_key r.namespace r.key (values_of es) ≡ false
      → values_of (insert_entry string_cmp es k r) ≡ with_record r (values_of es)
  insert-named k r [] own keyed of none = refl
  insert-named k r (e ∷ es) own keyed of none =
      step (string_cmp k e.0) (stands k r e own keyed.0 of.0) (insert-named k r es own keyed.1 of.1 rest.1)
      ∙ ap (λ o. if is_lt o then r ∷ e.1 ∷ values_of es else e.1 ∷ with_record r (values_of es)) (sym (stands k r e own keyed.0 of.0))
    where
      rest : (is_named r.namespace r.key e.1 ≡ false) × (has_key r.namespace r.key (values_of es) ≡ false)
      rest = or_parts (is_named r.namespace r.key e.1) (has_key r.namespace r.key (values_of es)) none

      step : (o : Ordering) → record_cmp r e.1 ≡ o → values_of (insert_entry string_cmp es k r) ≡ with_record r (values_of es)
          → values_of (match_ordering o ((k, r) ∷ e ∷ es) ((e.0, r) ∷ es) (e ∷ insert_entry string_cmp es k r)) ≡ (if is_lt o then r ∷ e.1 ∷ values_of es else e.1 ∷ with_record r (values_of es))
      step Less is next = refl
      step Equal is next = absurd (true≢false (sym (tied-is_named r e.1 is) ∙ rest.0))
      step Greater is next = ap (λ l. e.1 ∷ l) next

  pub keyed-insert : (k : String Z) (r : Record) (es : List (String Z × Record)) → string_bytes k ≡ r.key → IsKeyed es → IsKeyed (insert_entry string_cmp es k r)
  keyed-insert k r [] own keyed = (own, tt)
  keyed-insert k r (e ∷ es) own keyed = step (string_cmp k e.0) refl (keyed-insert k r es own keyed.1)
    where
      step : (o : Ordering) → string_cmp k e.0 ≡ o → IsKeyed (insert_entry string_cmp es k r) → IsKeyed (match_ordering o ((k, r) ∷ e ∷ es) ((e.0, r) ∷ es) (e ∷ insert_entry string_cmp es k r))
      step Less is next = (own, keyed)
      step Equal is next = (sym (exact_bytes (string_bytes k) (string_bytes e.0) is) ∙ own, keyed.1)
      step Greater is next = (keyed.0, next)

  -- ---- those that pass a test

  pub values-after : (start : String Z) (es : List (String Z × Record)) → IsKeyed es
      → values_of (filter (λ (e : String Z × Record). is_lt (string_cmp start e.0) && not false) es) ≡ filter (is_key_after (string_bytes start)) (values_of es)
  values-after start [] keyed = refl
  values-after start (e ∷ es) keyed =
      step (is_lt (string_cmp start e.0)) (values-after start es keyed.1)
      ∙ ap (λ k. cond (is_lt (slice_cmp nat_cmp (string_bytes start) k)) (e.1 ∷ filter (is_key_after (string_bytes start)) (values_of es)) (filter (is_key_after (string_bytes start)) (values_of es))) keyed.0
    where
      step : (b : Bool) → values_of (filter (λ (x : String Z × Record). is_lt (string_cmp start x.0) && not false) es) ≡ filter (is_key_after (string_bytes start)) (values_of es)
          → values_of (cond (b && not false) (e ∷ filter (λ (x : String Z × Record). is_lt (string_cmp start x.0) && not false) es) (filter (λ (x : String Z × Record). is_lt (string_cmp start x.0) && not false) es)) ≡ cond b (e.1 ∷ filter (is_key_after (string_bytes start)) (values_of es)) (filter (is_key_after (string_bytes start)) (values_of es))
      step true next = ap (λ l. e.1 ∷ l) next
      step false next = next

-- ---- how many are on a parent

-- the record is on the parent
abbrev pub has_parent : Bytes → Record → Bool
has_parent q r = bytes_eq q r.parent

-- what each adds to a count
abbrev pub ones : (Record → Bool) → Record → ℕ
ones p r = one_if (p r)

count-with_record : (p : Record → Bool) (r : Record) (rs : List Record) → count_by p (with_record r rs) ≡ count_by p rs + one_if (p r)
count-with_record p r [] = omega (arith, sum_by-cons (ones p) r [])
count-with_record p r (t ∷ ts) =
    elim (is_lt (record_cmp r t)) as (λ b. count_by p (if b then r ∷ t ∷ ts else t ∷ with_record r ts) ≡ count_by p (t ∷ ts) + one_if (p r)) [
      | true ↦ omega (arith, sum_by-cons (ones p) r (t ∷ ts))
      | false ↦ omega (arith, count-with_record p r ts, sum_by-cons (ones p) t (with_record r ts), sum_by-cons (ones p) t ts)
    ]

pub parents-added : (r : Record) (rs ts : List Record) (old new : List (Bytes × ℕ)) → AreParentCounts rs old → ((q : Bytes) → count_in q new ≡ count_in q old + one_if (bytes_eq q r.parent)) → ts ≡ with_record r rs → AreParentCounts ts new
parents-added r rs ts old new counted more is q =
    let e = ap (count_by (has_parent q)) is ∙ count-with_record (has_parent q) r rs in
    omega (arith, e, counted q, more q)

-- as many records of the namespace are on the parent as it is counted to have
children-alike : (place : ℕ) (key : Bytes) (rs : List Record) → IsOf place rs → count_by (has_parent key) rs ≡ child_count place key rs
children-alike place key [] of = refl
children-alike place key (r ∷ rs) of =
    let same : has_parent key r ≡ is_child place key r = bytes_eq_comm key r.parent ∙ sym (ap (λ b. b && bytes_eq r.parent key) (eq-eqb r.namespace place of.0)) in
    omega (arith, ap one_if same, children-alike place key rs of.1, sum_by-cons (ones (has_parent key)) r rs, sum_by-cons (ones (is_child place key)) r rs)

pub children-count : (place : ℕ) (key : Bytes) (rs : List Record) (counts : List (Bytes × ℕ)) → IsOf place rs → AreParentCounts rs counts → count_in key counts ≡ child_count place key rs
children-count place key rs counts of counted = counted key ∙ children-alike place key rs of

count-without : (p test : Record → Bool) (rs : List Record) (r : Record) → find test rs ≡ Some r → count_by p (without_first test rs) + one_if (p r) ≡ count_by p rs
count-without p test [] r found = absurd (cc)
count-without p test (t ∷ ts) r found = step (test t) found (count-without p test ts r)
  where
    step : (b : Bool) → cond b (Some t) (find test ts) ≡ Some r → (find test ts ≡ Some r → count_by p (without_first test ts) + one_if (p r) ≡ count_by p ts) → count_by p (if b then ts else t ∷ without_first test ts) + one_if (p r) ≡ count_by p (t ∷ ts)
    step true here next = let is : one_if (p t) ≡ one_if (p r) = ap (ones p) (some_same t r here) in omega (arith, is, sum_by-cons (ones p) t ts)
    step false here next = let h = next here in omega (arith, h, sum_by-cons (ones p) t (without_first test ts), sum_by-cons (ones p) t ts)

pub parents-removed : (test : Record → Bool) (rs ts : List Record) (r : Record) (old new : List (Bytes × ℕ)) → find test rs ≡ Some r → AreParentCounts rs old
    → ((q : Bytes) → count_in q new ≡ count_in q old - one_if (bytes_eq q r.parent)) → ts ≡ without_first test rs → AreParentCounts ts new
parents-removed test rs ts r old new found counted less is q =
    let e = ap (count_by (has_parent q)) is in
    omega (arith, e, count-without (has_parent q) test rs r found, counted q, less q)

count-amended : (p test : Record → Bool) (f : Record → Record) (rs : List Record) → ((r : Record) → p (f r) ≡ p r) → count_by p (amended test f rs) ≡ count_by p rs
count-amended p test f [] same = refl
count-amended p test f (r ∷ rs) same =
    let is : one_if (p (f r)) ≡ one_if (p r) = ap one_if (same r) in
    elim (test r) as (λ b. count_by p (if b then f r ∷ rs else r ∷ amended test f rs) ≡ count_by p (r ∷ rs)) [
      | true ↦ omega (arith, is, sum_by-cons (ones p) (f r) rs, sum_by-cons (ones p) r rs)
      | false ↦ omega (arith, count-amended p test f rs same, sum_by-cons (ones p) r (amended test f rs), sum_by-cons (ones p) r rs)
    ]

pub parents-kept : (test : Record → Bool) (f : Record → Record) (rs ts : List Record) (counts : List (Bytes × ℕ)) → ((r : Record) → (f r).parent ≡ r.parent) → AreParentCounts rs counts → ts ≡ amended test f rs → AreParentCounts ts counts
parents-kept test f rs ts counts same counted is q = counted q ∙ sym (ap (count_by (has_parent q)) is ∙ count-amended (has_parent q) test f rs (λ r. ap (bytes_eq q) (same r)))

-- ---- pages

walked-twice : (place : ℕ) (after : Bytes) (asked : Filter) (rs : List Record) → IsOf place rs → filter (is_walked place after asked) rs ≡ filter (is_asked asked) (filter (is_key_after after) rs)
walked-twice place after asked [] of = refl
walked-twice place after asked (r ∷ rs) of =
    ap (λ b. cond (b && is_key_after after r && is_asked asked r) (r ∷ filter (is_walked place after asked) rs) (filter (is_walked place after asked) rs)) (eq-eqb r.namespace place of.0)
    ∙ step (is_key_after after r) (is_asked asked r) refl (walked-twice place after asked rs of.1)
  where
    step : (a b : Bool) → is_asked asked r ≡ b → filter (is_walked place after asked) rs ≡ filter (is_asked asked) (filter (is_key_after after) rs)
        → cond (true && a && b) (r ∷ filter (is_walked place after asked) rs) (filter (is_walked place after asked) rs) ≡ filter (is_asked asked) (cond a (r ∷ filter (is_key_after after) rs) (filter (is_key_after after) rs))
    step true true is next = ap (λ l. r ∷ l) next ∙ sym (ap (λ b. cond b (r ∷ filter (is_asked asked) (filter (is_key_after after) rs)) (filter (is_asked asked) (filter (is_key_after after) rs))) is)
    step true false is next = next ∙ sym (ap (λ b. cond b (r ∷ filter (is_asked asked) (filter (is_key_after after) rs)) (filter (is_asked asked) (filter (is_key_after after) rs))) is)
    step false true is next = next
    step false false is next = next

pub page-infos : (place : ℕ) (after : Bytes) (most : ℕ) (asked : Filter) (rs : List Record) → IsOf place rs → info_page place after most asked rs ≡ infos_of most asked (filter (is_key_after after) rs)
page-infos place after most asked rs of = ap (λ l. map info_of (take most l)) (walked-twice place after asked rs of)

pub take-nil : {X : Type 0} (n : ℕ) → ◌≡◌ {A = List X} (take n []) []
take-nil zero = refl
take-nil (suc n) = refl

-- a walk: the infos so far, and those of the records that are left
pub infos-begin : (most : ℕ) (asked : Filter) (items all : List Record) (infos : List Info) → infos ≡ [] → items ≡ all → infos ++ infos_of (most - length infos) asked items ≡ infos_of most asked all
infos-begin most asked items all infos none is =
    ap (λ l. l ++ infos_of (most - length l) asked items) none
    ∙ ap (λ n. infos_of n asked items) (whole most)
    ∙ ap (infos_of most asked) is
  where
    whole : (n : ℕ) → n - 0 ≡ n
    whole n = omega arith

pub infos-all : (most : ℕ) (asked : Filter) (items : List Record) (infos all : List Info) → items ≡ [] → infos ++ infos_of (most - length infos) asked items ≡ all → infos ≡ all
infos-all most asked items infos all done so_far =
    sym (ap (λ l. infos ++ infos_of (most - length infos) asked l) done ∙ ap (λ l. infos ++ map info_of l) (take-nil (most - length infos)) ∙ append-nil infos) ∙ so_far

pub infos-enough : (most : ℕ) (asked : Filter) (items : List Record) (infos all : List Info) → most ≤ length infos → infos ++ infos_of (most - length infos) asked items ≡ all → infos ≡ all
infos-enough most asked items infos all enough so_far =
    let none : most - length infos ≡ 0 = omega arith in
    sym (ap (λ n. infos ++ infos_of n asked items) none ∙ append-nil infos) ∙ so_far

pub infos-pushed : (most : ℕ) (asked : Filter) (r : Record) (items rest : List Record) (infos pushed all : List Info) (info : Info) → length infos < most → is_asked asked r ≡ true → items ≡ r ∷ rest → info ≡ info_of r → pushed ≡ infos ++ info ∷ []
    → infos ++ infos_of (most - length infos) asked items ≡ all → pushed ++ infos_of (most - length pushed) asked rest ≡ all
infos-pushed most asked r items rest infos pushed all info below passes is same put so_far =
    let at : pushed ≡ infos ++ info_of r ∷ [] = put ∙ ap (λ x. infos ++ x ∷ []) same in
    let left : most - length infos ≡ suc (most - length (infos ++ info_of r ∷ [])) = omega (arith, length_push infos (info_of r)) in
    ap (λ l. l ++ infos_of (most - length l) asked rest) at
    ∙ append_assoc infos (info_of r ∷ []) (infos_of (most - length (infos ++ info_of r ∷ [])) asked rest)
    ∙ sym (ap (λ n. infos ++ map info_of (take n (r ∷ filter (is_asked asked) rest))) left)
    ∙ sym (ap (λ b. infos ++ map info_of (take (most - length infos) (cond b (r ∷ filter (is_asked asked) rest) (filter (is_asked asked) rest)))) passes)
    ∙ sym (ap (λ l. infos ++ infos_of (most - length infos) asked l) is)
    ∙ so_far

-- The records of all namespaces: what a change of one namespace's makes of them.
use Rattle.std.proofs.Common.{◌≡◌, ℕ, zero, suc, ◌+◌, ◌-◌, ◌<◌, ◌≤◌, Bool, true, false, ◌≢◌, eqb-true, eq-eqb, cond, List, [], ◌∷◌, ◌++◌, length, get_or, set, map, Some, None, refl, sym, ap, ◌∙◌, subst, arith, append_assoc, append-nil, take}
use Rattle.std.proofs.lemmas.List.{take_more}
use Rattle.std.proofs.lemmas.List.Sums.{sum_by-append}
use Rattle.std.proofs.lemmas.Bool.Decides.{nat_tests}
use Rattle.std.specs.Prelude.{if◌then◌else◌, ◌==◌, ◌&&◌, ◌||◌, not, IsTrue, bytes_eq, filter, find}
use Rattle.std.specs.List.{AllByRecursion, list_any}
use Rattle.std.specs.declared.cmp.Ordering.{Ordering}
use Rattle.std.specs.declared.cmp.Ordering.TheVariants.{Less, Equal, Greater}
use Rattle.std.specs.Ordering.{is_lt, nat_cmp, ordering_then, MatchOrdering}
use Rattle.std.specs.Cmp.Lexicographic.{slice_cmp}
use Rattle.std.proofs.lemmas.Bool.{false_from_ne_true, or_parts}
use Rattle.std.proofs.lemmas.Cmp.{ranked}
use Rattle.snap_record.specs.Labels.{Bytes}
use Rattle.snap_record.specs.declared.record.Record.{Record}
use Rattle.snap_record.specs.declared.filter.Filter.{Filter}
use Rattle.snap_record.specs.Filters.{is_match}
use Rattle.snap_record.specs.Records.{info_of}
use Rattle.snap_call.specs.Records.{record_cmp, is_named, record_at, has_key, has_records, is_child, has_children, child_count, with_record, without_first, without_key, info_page}
use Rattle.snap_call.specs.Spaces.{IsOf, AreFrom, AreCounted, joined_records, amended, edited_record, edited_at}
use Rattle.snap_call.specs.declared.record_edit.RecordEdit.{RecordEdit}
use Rattle.snap_call.proofs.Lists.{all-append, all-map, all-with_record, all-without}
use Rattle.snap_call.proofs.Lengths.{length-with_record, length-without_found}
use Rattle.snap_lease.proofs.CountLemmas.{is_positive-count_by}
use Rattle.snap_call.proofs.Entries.{ones, take-nil, without-none, edited-namespace}
use Rattle.snap_call.proofs.Parts.{is_walked}

-- ---- the namespaces' places

-- the records are of earlier namespaces, or of later ones
abbrev AreBelow : ℕ → List Record → Type 0
AreBelow place rs = AllByRecursion (λ r. r.namespace < place) rs

abbrev AreAbove : ℕ → List Record → Type 0
AreAbove place rs = AllByRecursion (λ r. place < r.namespace) rs

below-of : (i place : ℕ) (rs : List Record) → i < place → IsOf i rs → AreBelow place rs
below-of i place rs lt of = all-map (λ r. r.namespace ≡ i) (λ r. r.namespace < place) (λ r e. omega (arith, e)) rs of

above-from : (i place : ℕ) (rss : List (List Record)) → place < i → AreFrom i rss → AreAbove place (joined_records rss)
above-from i place [] lt from = tt
above-from i place (rs ∷ rss) lt from =
    all-append (λ r. place < r.namespace) rs (joined_records rss)
    (all-map (λ r. r.namespace ≡ i) (λ r. place < r.namespace) (λ r e. omega (arith, e)) rs from.0)
    (above-from (suc i) place rss (omega arith) from.1)

below-from : (i place : ℕ) (rss : List (List Record)) → i + length rss ≤ place → AreFrom i rss → AreBelow place (joined_records rss)
below-from i place [] le from = tt
below-from i place (rs ∷ rss) le from =
    all-append (λ r. r.namespace < place) rs (joined_records rss) (below-of i place rs (omega arith) from.0) (below-from (suc i) place rss (omega arith) from.1)

-- the records of one namespace
pub of-at : (i k : ℕ) (rss : List (List Record)) (d : List Record) → AreFrom i rss → k < length rss → IsOf (i + k) (get_or rss k d)
of-at i k [] d from lt = absurd (omega arith)
of-at i zero (rs ∷ rss) d from lt = let e : i ≡ i + zero = omega arith in subst (λ n. IsOf n rs) e from.0
of-at i (suc k) (rs ∷ rss) d from lt = let e : suc i + k ≡ i + suc k = omega arith in subst (λ n. IsOf n (get_or rss k d)) e (of-at (suc i) k rss d from.1 (omega arith))

pub from-set : (i k : ℕ) (rss : List (List Record)) (ts : List Record) → AreFrom i rss → IsOf (i + k) ts → AreFrom i (set rss k ts)
from-set i k [] ts from of = tt
from-set i zero (rs ∷ rss) ts from of = let e : i + zero ≡ i = omega arith in (subst (λ n. IsOf n ts) e of, from.1)
from-set i (suc k) (rs ∷ rss) ts from of = let e : i + suc k ≡ suc i + k = omega arith in (from.0, from-set (suc i) k rss ts from.1 (subst (λ n. IsOf n ts) e of))

-- ---- a change of what one namespace has

module _ (f : List Record → List Record) (place : ℕ)
    (skips : (r : Record) (rs : List Record) → r.namespace < place → f (r ∷ rs) ≡ r ∷ f rs)
    (stops : (rs ts : List Record) → AreAbove place ts → f (rs ++ ts) ≡ f rs ++ ts) where
  skip-all : (rs ts : List Record) → AreBelow place rs → f (rs ++ ts) ≡ rs ++ f ts
  skip-all [] ts below = refl
  skip-all (r ∷ rs) ts below = skips r (rs ++ ts) below.0 ∙ ap (λ l. r ∷ l) (skip-all rs ts below.1)

  changed : (i k : ℕ) (rss : List (List Record)) (d : List Record) → AreFrom i rss → k < length rss → i + k ≡ place → joined_records (set rss k (f (get_or rss k d))) ≡ f (joined_records rss)
  changed i k [] d from lt at = absurd (omega arith)
  changed i zero (rs ∷ rss) d from lt at = sym (stops rs (joined_records rss) (above-from (suc i) place rss (omega arith) from.1))
  changed i (suc k) (rs ∷ rss) d from lt at =
      ap (λ l. rs ++ l) (changed (suc i) k rss d from.1 (omega arith) (omega arith))
      ∙ sym (skip-all rs (joined_records rss) (below-of i place rs (omega arith) from.0))

  untouched : (rss : List (List Record)) → f [] ≡ [] → AreFrom 0 rss → length rss ≤ place → f (joined_records rss) ≡ joined_records rss
  untouched rss none from le =
      ap f (sym (append-nil (joined_records rss)))
      ∙ skip-all (joined_records rss) [] (below-from 0 place rss (omega arith) from)
      ∙ ap (λ l. joined_records rss ++ l) none
      ∙ append-nil (joined_records rss)

-- ---- the first record that passes a test, of one namespace

module _ (p : Record → Bool) (f : Record → Record) where
  amended-skips : (r : Record) (rs : List Record) → p r ≡ false → amended p f (r ∷ rs) ≡ r ∷ amended p f rs
  amended-skips r rs other = ap (λ b. if b then f r ∷ rs else r ∷ amended p f rs) other

  pub amended-others : (rs : List Record) → AllByRecursion (λ r. p r ≡ false) rs → amended p f rs ≡ rs
  amended-others [] all = refl
  amended-others (r ∷ rs) all = amended-skips r rs all.0 ∙ ap (λ l. r ∷ l) (amended-others rs all.1)

  pub amended-stops : (rs ts : List Record) → AllByRecursion (λ r. p r ≡ false) ts → amended p f (rs ++ ts) ≡ amended p f rs ++ ts
  amended-stops [] ts all = amended-others ts all
  amended-stops (r ∷ rs) ts all =
      elim (p r) as (λ b. (if b then f r ∷ (rs ++ ts) else r ∷ amended p f (rs ++ ts)) ≡ (if b then f r ∷ rs else r ∷ amended p f rs) ++ ts) [
        | true ↦ refl
        | false ↦ ap (λ l. r ∷ l) (amended-stops rs ts all)
      ]

  pub length-amended : (rs : List Record) → length (amended p f rs) ≡ length rs
  length-amended [] = refl
  length-amended (r ∷ rs) = elim (p r) as (λ b. length (if b then f r ∷ rs else r ∷ amended p f rs) ≡ suc (length rs)) [ true ↦ refl | false ↦ ap suc (length-amended rs) ]

  pub all-amended : (P : Record → Type 0) (rs : List Record) → ((r : Record) → P r → P (f r)) → AllByRecursion P rs → AllByRecursion P (amended p f rs)
  all-amended P [] g all = tt
  all-amended P (r ∷ rs) g all = elim (p r) as (λ b. AllByRecursion P (if b then f r ∷ rs else r ∷ amended p f rs)) [ true ↦ (g r all.0, all.1) | false ↦ (all.0, all-amended P rs g all.1) ]

module _ (p : Record → Bool) where
  without-skips : (r : Record) (rs : List Record) → p r ≡ false → without_first p (r ∷ rs) ≡ r ∷ without_first p rs
  without-skips r rs other = ap (λ b. if b then rs else r ∷ without_first p rs) other

  pub without-others : (rs : List Record) → AllByRecursion (λ r. p r ≡ false) rs → without_first p rs ≡ rs
  without-others [] all = refl
  without-others (r ∷ rs) all = without-skips r rs all.0 ∙ ap (λ l. r ∷ l) (without-others rs all.1)

  pub without-stops : (rs ts : List Record) → AllByRecursion (λ r. p r ≡ false) ts → without_first p (rs ++ ts) ≡ without_first p rs ++ ts
  without-stops [] ts all = without-others ts all
  without-stops (r ∷ rs) ts all =
      elim (p r) as (λ b. (if b then rs ++ ts else r ∷ without_first p (rs ++ ts)) ≡ (if b then rs else r ∷ without_first p rs) ++ ts) [
        | true ↦ refl
        | false ↦ ap (λ l. r ∷ l) (without-stops rs ts all)
      ]

  pub find-others : (rs ts : List Record) → AllByRecursion (λ r. p r ≡ false) rs → find p (rs ++ ts) ≡ find p ts
  find-others [] ts all = refl
  find-others (r ∷ rs) ts all = ap (λ b. cond b (Some r) (find p (rs ++ ts))) all.0 ∙ find-others rs ts all.1

  pub find-stops : (rs ts : List Record) → AllByRecursion (λ r. p r ≡ false) ts → find p (rs ++ ts) ≡ find p rs
  find-stops [] ts all = ap (find p) (sym (append-nil ts)) ∙ find-others ts [] all
  find-stops (r ∷ rs) ts all = ap (λ o. cond (p r) (Some r) o) (find-stops rs ts all)

-- ---- by name

unnamed-other : (place : ℕ) (key : Bytes) (r : Record) → (r.namespace ≡ place → ⊥) → is_named place key r ≡ false
unnamed-other place key r apart = ap (λ b. b && bytes_eq r.key key) (false_from_ne_true (r.namespace == place) (λ e. apart (eqb-true r.namespace place e)))

unnamed-below : (place : ℕ) (key : Bytes) (rs : List Record) → AreBelow place rs → AllByRecursion (λ r. is_named place key r ≡ false) rs
unnamed-below place key rs below = all-map (λ r. r.namespace < place) (λ r. is_named place key r ≡ false) (λ r lt. unnamed-other place key r (λ e. omega (arith, e, lt))) rs below

unnamed-above : (place : ℕ) (key : Bytes) (rs : List Record) → AreAbove place rs → AllByRecursion (λ r. is_named place key r ≡ false) rs
unnamed-above place key rs above = all-map (λ r. place < r.namespace) (λ r. is_named place key r ≡ false) (λ r lt. unnamed-other place key r (λ e. omega (arith, e, lt))) rs above

module _ (place : ℕ) (key : Bytes) where
  skips-without : (r : Record) (rs : List Record) → r.namespace < place → without_key place key (r ∷ rs) ≡ r ∷ without_key place key rs
  skips-without r rs lt = without-skips (is_named place key) r rs (unnamed-other place key r (λ e. omega (arith, e, lt)))

  stops-without : (rs ts : List Record) → AreAbove place ts → without_key place key (rs ++ ts) ≡ without_key place key rs ++ ts
  stops-without rs ts above = without-stops (is_named place key) rs ts (unnamed-above place key ts above)

  pub joined-without : (rss : List (List Record)) (d : List Record) → AreFrom 0 rss → place < length rss → joined_records (set rss place (without_key place key (get_or rss place d))) ≡ without_key place key (joined_records rss)
  joined-without rss d from lt = changed (without_key place key) place skips-without stops-without 0 place rss d from lt (omega arith)

  pub joined-without-past : (rss : List (List Record)) → AreFrom 0 rss → length rss ≤ place → without_key place key (joined_records rss) ≡ joined_records rss
  joined-without-past rss from le = untouched (without_key place key) place skips-without stops-without rss refl from le

  module _ (f : Record → Record) where
    skips-amended : (r : Record) (rs : List Record) → r.namespace < place → amended (is_named place key) f (r ∷ rs) ≡ r ∷ amended (is_named place key) f rs
    skips-amended r rs lt = amended-skips (is_named place key) f r rs (unnamed-other place key r (λ e. omega (arith, e, lt)))

    stops-amended : (rs ts : List Record) → AreAbove place ts → amended (is_named place key) f (rs ++ ts) ≡ amended (is_named place key) f rs ++ ts
    stops-amended rs ts above = amended-stops (is_named place key) f rs ts (unnamed-above place key ts above)

    pub joined-amended : (rss : List (List Record)) (d : List Record) → AreFrom 0 rss → place < length rss → joined_records (set rss place (amended (is_named place key) f (get_or rss place d))) ≡ amended (is_named place key) f (joined_records rss)
    joined-amended rss d from lt = changed (amended (is_named place key) f) place skips-amended stops-amended 0 place rss d from lt (omega arith)

    pub joined-amended-past : (rss : List (List Record)) → AreFrom 0 rss → length rss ≤ place → amended (is_named place key) f (joined_records rss) ≡ joined_records rss
    joined-amended-past rss from le = untouched (amended (is_named place key) f) place skips-amended stops-amended rss refl from le

  -- what is found in all is found in the namespace
  found-from : (i k : ℕ) (rss : List (List Record)) (d : List Record) → AreFrom i rss → k < length rss → i + k ≡ place → record_at place key (joined_records rss) ≡ record_at place key (get_or rss k d)
  found-from i k [] d from lt at = absurd (omega arith)
  found-from i zero (rs ∷ rss) d from lt at = find-stops (is_named place key) rs (joined_records rss) (unnamed-above place key (joined_records rss) (above-from (suc i) place rss (omega arith) from.1))
  found-from i (suc k) (rs ∷ rss) d from lt at =
      find-others (is_named place key) rs (joined_records rss) (unnamed-below place key rs (below-of i place rs (omega arith) from.0))
      ∙ found-from (suc i) k rss d from.1 (omega arith) (omega arith)

  pub joined-found : (rss : List (List Record)) (d : List Record) → AreFrom 0 rss → place < length rss → record_at place key (joined_records rss) ≡ record_at place key (get_or rss place d)
  joined-found rss d from lt = found-from 0 place rss d from lt (omega arith)

  pub joined-found-past : (rss : List (List Record)) → AreFrom 0 rss → length rss ≤ place → record_at place key (joined_records rss) ≡ None
  joined-found-past rss from le =
      ap (record_at place key) (sym (append-nil (joined_records rss)))
      ∙ find-others (is_named place key) (joined_records rss) [] (unnamed-below place key (joined_records rss) (below-from 0 place rss (omega arith) from))

-- ---- by parent

module _ (place : ℕ) (key : Bytes) where
  childless : (rs : List Record) → AllByRecursion (λ r. r.namespace ≡ place → ⊥) rs → has_children place key rs ≡ false
  childless [] apart = refl
  childless (r ∷ rs) apart =
      ap (λ b. b && bytes_eq r.parent key || has_children place key rs) (false_from_ne_true (r.namespace == place) (λ e. apart.0 (eqb-true r.namespace place e)))
      ∙ childless rs apart.1

  childless-below : (rs : List Record) → AreBelow place rs → has_children place key rs ≡ false
  childless-below rs below = childless rs (all-map (λ r. r.namespace < place) (λ r. r.namespace ≡ place → ⊥) (λ r lt e. omega (arith, e, lt)) rs below)

  childless-above : (rs : List Record) → AreAbove place rs → has_children place key rs ≡ false
  childless-above rs above = childless rs (all-map (λ r. place < r.namespace) (λ r. r.namespace ≡ place → ⊥) (λ r lt e. omega (arith, e, lt)) rs above)

-- ---- how many by parent

module _ (place : ℕ) (key : Bytes) where
  none-counted : (rs : List Record) → has_children place key rs ≡ false → child_count place key rs ≡ 0
  none-counted rs none = let e = is_positive-count_by (is_child place key) rs ∙ none in grind (arith, nat_tests, e)

  count-from : (i k : ℕ) (rss : List (List Record)) (d : List Record) → AreFrom i rss → k < length rss → i + k ≡ place → child_count place key (joined_records rss) ≡ child_count place key (get_or rss k d)
  count-from i k [] d from lt at = absurd (omega arith)
  count-from i zero (rs ∷ rss) d from lt at =
      let later = none-counted (joined_records rss) (childless-above place key (joined_records rss) (above-from (suc i) place rss (omega arith) from.1)) in
      omega (arith, later, sum_by-append (ones (is_child place key)) rs (joined_records rss))
  count-from i (suc k) (rs ∷ rss) d from lt at =
      let before = none-counted rs (childless-below place key rs (below-of i place rs (omega arith) from.0)) in
      let rest = count-from (suc i) k rss d from.1 (omega arith) (omega arith) in
      omega (arith, before, rest, sum_by-append (ones (is_child place key)) rs (joined_records rss))

  pub joined-count : (rss : List (List Record)) (d : List Record) → AreFrom 0 rss → place < length rss → child_count place key (joined_records rss) ≡ child_count place key (get_or rss place d)
  joined-count rss d from lt = count-from 0 place rss d from lt (omega arith)

  pub joined-count-past : (rss : List (List Record)) → AreFrom 0 rss → length rss ≤ place → child_count place key (joined_records rss) ≡ 0
  joined-count-past rss from le = none-counted (joined_records rss) (childless-below place key (joined_records rss) (below-from 0 place rss (omega arith) from))

-- ---- one record more

nat-Less : (x y : ℕ) → x < y → nat_cmp x y ≡ Less
nat-Less x y lt = by (nat_cmp x y) (ranked x y (nat_cmp x y) refl)
  where
    by : (o : Ordering) → MatchOrdering o (x < y) (x ≡ y) (y < x) → o ≡ Less
    by Less h = refl
    by Equal h = absurd (omega (arith, h))
    by Greater h = absurd (omega (arith, h))

nat-Greater : (x y : ℕ) → y < x → nat_cmp x y ≡ Greater
nat-Greater x y lt = by (nat_cmp x y) (ranked x y (nat_cmp x y) refl)
  where
    by : (o : Ordering) → MatchOrdering o (x < y) (x ≡ y) (y < x) → o ≡ Greater
    by Less h = absurd (omega (arith, h))
    by Equal h = absurd (omega (arith, h))
    by Greater h = refl

module _ (r : Record) where
  skips-with_record : (t : Record) (ts : List Record) → t.namespace < r.namespace → with_record r (t ∷ ts) ≡ t ∷ with_record r ts
  skips-with_record t ts lt = ap (λ o. if is_lt (ordering_then o (slice_cmp nat_cmp r.key t.key)) then r ∷ t ∷ ts else t ∷ with_record r ts) (nat-Greater r.namespace t.namespace lt)

  before-later : (ts : List Record) → AreAbove r.namespace ts → with_record r ts ≡ r ∷ ts
  before-later [] above = refl
  before-later (t ∷ ts) above = ap (λ o. if is_lt (ordering_then o (slice_cmp nat_cmp r.key t.key)) then r ∷ t ∷ ts else t ∷ with_record r ts) (nat-Less r.namespace t.namespace above.0)

  stops-with_record : (rs ts : List Record) → AreAbove r.namespace ts → with_record r (rs ++ ts) ≡ with_record r rs ++ ts
  stops-with_record [] ts above = before-later ts above
  stops-with_record (t ∷ rs) ts above =
      elim (is_lt (record_cmp r t)) as (λ b. (if b then r ∷ t ∷ (rs ++ ts) else t ∷ with_record r (rs ++ ts)) ≡ (if b then r ∷ t ∷ rs else t ∷ with_record r rs) ++ ts) [
        | true ↦ refl
        | false ↦ ap (λ l. t ∷ l) (stops-with_record rs ts above)
      ]

  pub joined-with_record : (rss : List (List Record)) (d : List Record) → AreFrom 0 rss → r.namespace < length rss → joined_records (set rss r.namespace (with_record r (get_or rss r.namespace d))) ≡ with_record r (joined_records rss)
  joined-with_record rss d from lt = changed (with_record r) r.namespace skips-with_record stops-with_record 0 r.namespace rss d from lt (omega arith)

any-append : (p : Record → Bool) (rs ts : List Record) → list_any p (rs ++ ts) ≡ false → (list_any p rs ≡ false) × (list_any p ts ≡ false)
any-append p [] ts none = (refl, none)
any-append p (r ∷ rs) ts none =
    let h = or_parts (p r) (list_any p (rs ++ ts)) none in
    let g = any-append p rs ts h.1 in
    (or_none (p r) (list_any p rs) h.0 g.0, g.1)
  where
    or_none : (a b : Bool) → a ≡ false → b ≡ false → (a || b) ≡ false
    or_none true b x y = x
    or_none false b x y = y

-- a key that no record has, none of one namespace has
pub joined-absent : (p : Record → Bool) (rss : List (List Record)) (k : ℕ) (d : List Record) → k < length rss → list_any p (joined_records rss) ≡ false → list_any p (get_or rss k d) ≡ false
joined-absent p [] k d lt none = absurd (omega arith)
joined-absent p (rs ∷ rss) zero d lt none = (any-append p rs (joined_records rss) none).0
joined-absent p (rs ∷ rss) (suc k) d lt none = joined-absent p rss k d (omega arith) (any-append p rs (joined_records rss) none).1

-- ---- room for one namespace more

pub joined-append : (rss tss : List (List Record)) → joined_records (rss ++ tss) ≡ joined_records rss ++ joined_records tss
joined-append [] tss = refl
joined-append (rs ∷ rss) tss = ap (λ l. rs ++ l) (joined-append rss tss) ∙ sym (append_assoc rs (joined_records rss) (joined_records tss))

pub joined-more : (rss : List (List Record)) → joined_records (rss ++ [] ∷ []) ≡ joined_records rss
joined-more rss = joined-append rss ([] ∷ []) ∙ append-nil (joined_records rss)

pub from-more : (i : ℕ) (rss : List (List Record)) → AreFrom i rss → AreFrom i (rss ++ [] ∷ [])
from-more i [] from = (tt, tt)
from-more i (rs ∷ rss) from = (from.0, from-more (suc i) rss from.1)

-- ---- the changes of all

-- one namespace's records as they are lent
module _ (rss : List (List Record)) (count : ℕ) (o : AreCounted rss count) (place : ℕ) (lt : place < length rss) (rs : List Record) (at : rs ≡ get_or rss place rs) where
  pub lent-of : IsOf place rs
  lent-of = let e : 0 + place ≡ place = omega arith in subst (λ l. IsOf place l) (sym at) (subst (λ n. IsOf n (get_or rss place rs)) e (of-at 0 place rss rs o.from lt))

  put-from : (ts : List Record) → IsOf place ts → AreFrom 0 (set rss place ts)
  put-from ts of = let e : place ≡ 0 + place = omega arith in from-set 0 place rss ts o.from (subst (λ n. IsOf n ts) e of)

  module _ (key : Bytes) where
    pub lent-found : record_at place key rs ≡ record_at place key (joined_records rss)
    lent-found = ap (record_at place key) at ∙ sym (joined-found place key rss rs o.from lt)

    pub lent-count : child_count place key rs ≡ child_count place key (joined_records rss)
    lent-count = ap (child_count place key) at ∙ sym (joined-count place key rss rs o.from lt)

    module _ (ts : List Record) (taken : (p : ℕ) → IsOf p rs → ts ≡ without_key p key rs) where
      pub put-without : joined_records (set rss place ts) ≡ without_key place key (joined_records rss)
      put-without = ap (λ l. joined_records (set rss place l)) (taken place lent-of ∙ ap (without_key place key) at) ∙ joined-without place key rss rs o.from lt

      put-of : IsOf place ts
      put-of = subst (IsOf place) (sym (taken place lent-of)) (all-without (is_named place key) (λ r. r.namespace ≡ place) rs lent-of)

      less : (r : Record) → record_at place key rs ≡ Some r → length (joined_records (set rss place ts)) + 1 ≡ count
      less r found = ap (λ l. length l + 1) put-without ∙ length-without_found (is_named place key) (joined_records rss) r (sym lent-found ∙ found) ∙ sym o.counted

      pub counted-less : (r : Record) → record_at place key rs ≡ Some r → AreCounted (set rss place ts) (count - 1)
      counted-less r found = record { from = put-from ts put-of; counted = (let e = less r found in omega (arith, e)) }

      pub counted-some : (r : Record) → record_at place key rs ≡ Some r → 1 ≤ count
      counted-some r found = let e = less r found in omega (arith, e)

      pub counted-unfound : record_at place key rs ≡ None → AreCounted (set rss place ts) count
      counted-unfound none = record { from = put-from ts put-of; counted = o.counted ∙ sym (ap length (put-without ∙ without-none (is_named place key) (joined_records rss) (sym lent-found ∙ none))) }

    module _ (edit : RecordEdit) (ts : List Record) (changed : (p : ℕ) → IsOf p rs → ts ≡ edited_at p key edit rs) where
      pub put-edited : joined_records (set rss place ts) ≡ edited_at place key edit (joined_records rss)
      put-edited = ap (λ l. joined_records (set rss place l)) (changed place lent-of ∙ ap (edited_at place key edit) at) ∙ joined-amended place key (edited_record edit) rss rs o.from lt

      pub counted-edited : AreCounted (set rss place ts) count
      counted-edited = record {
        from = put-from ts (subst (IsOf place) (sym (changed place lent-of)) (all-amended (is_named place key) (edited_record edit) (λ r. r.namespace ≡ place) rs (λ r e. edited-namespace edit r ∙ e) lent-of));
        counted = o.counted ∙ sym (ap length put-edited ∙ length-amended (is_named place key) (edited_record edit) (joined_records rss));
      }

-- one record more, where there is room for its namespace
module _ (rss : List (List Record)) (count : ℕ) (o : AreCounted rss count) (r : Record) (lt : r.namespace < length rss) (rs : List Record) (at : rs ≡ get_or rss r.namespace rs) where
  pub added-of : IsOf r.namespace rs
  added-of = lent-of rss count o r.namespace lt rs at

  pub added-absent : has_key r.namespace r.key (joined_records rss) ≡ false → has_key r.namespace r.key rs ≡ false
  added-absent none = ap (has_key r.namespace r.key) at ∙ joined-absent (is_named r.namespace r.key) rss r.namespace rs lt none

  pub put-added : (ts : List Record) → ts ≡ with_record r rs → joined_records (set rss r.namespace ts) ≡ with_record r (joined_records rss)
  put-added ts is = ap (λ l. joined_records (set rss r.namespace l)) (is ∙ ap (with_record r) at) ∙ joined-with_record r rss rs o.from lt

  pub counted-added : (ts : List Record) → ts ≡ with_record r rs → AreCounted (set rss r.namespace ts) (count + 1)
  counted-added ts is = record {
    from = put-from rss count o r.namespace lt rs at ts (subst (IsOf r.namespace) (sym is) (all-with_record r (λ t. t.namespace ≡ r.namespace) rs refl added-of));
    counted = ap (λ n. n + 1) o.counted ∙ sym (ap length (put-added ts is) ∙ length-with_record r (joined_records rss));
  }

pub counted-grown : (rss tss : List (List Record)) (count : ℕ) → AreCounted rss count → AreFrom 0 tss → joined_records tss ≡ joined_records rss → AreCounted tss count
counted-grown rss tss count o from same = record { from = from; counted = o.counted ∙ sym (ap length same) }

-- the list so far, and the next namespace's
pub joined-next : (rss : List (List Record)) (k : ℕ) (rs : List Record) → k < length rss → rs ≡ get_or rss k rs → joined_records (take (k + 1) rss) ≡ joined_records (take k rss) ++ rs
joined-next rss k rs lt at = ap joined_records (take_more rss k rs lt) ∙ joined-append (take k rss) (get_or rss k rs ∷ []) ∙ ap (λ l. joined_records (take k rss) ++ l) (append-nil (get_or rss k rs) ∙ sym at)

-- ---- the records of one namespace that pass a test

pub filter-append : (p : Record → Bool) (rs ts : List Record) → filter p (rs ++ ts) ≡ filter p rs ++ filter p ts
filter-append p [] ts = refl
filter-append p (r ∷ rs) ts =
    elim (p r) as (λ b. cond b (r ∷ filter p (rs ++ ts)) (filter p (rs ++ ts)) ≡ cond b (r ∷ filter p rs) (filter p rs) ++ filter p ts) [
      | true ↦ ap (λ l. r ∷ l) (filter-append p rs ts)
      | false ↦ filter-append p rs ts
    ]

pub filter-none : (p : Record → Bool) (rs : List Record) → AllByRecursion (λ r. p r ≡ false) rs → filter p rs ≡ []
filter-none p [] all = refl
filter-none p (r ∷ rs) all = ap (λ b. cond b (r ∷ filter p rs) (filter p rs)) all.0 ∙ filter-none p rs all.1

module _ (place : ℕ) (after : Bytes) (asked : Filter) where
  unwalked : (r : Record) → (r.namespace ≡ place → ⊥) → is_walked place after asked r ≡ false
  unwalked r apart = ap (λ b. b && is_lt (slice_cmp nat_cmp after r.key) && is_match (info_of r) asked) (false_from_ne_true (r.namespace == place) (λ e. apart (eqb-true r.namespace place e)))

  unwalked-below : (rs : List Record) → AreBelow place rs → filter (is_walked place after asked) rs ≡ []
  unwalked-below rs below = filter-none (is_walked place after asked) rs (all-map (λ r. r.namespace < place) (λ r. is_walked place after asked r ≡ false) (λ r lt. unwalked r (λ e. omega (arith, e, lt))) rs below)

  unwalked-above : (rs : List Record) → AreAbove place rs → filter (is_walked place after asked) rs ≡ []
  unwalked-above rs above = filter-none (is_walked place after asked) rs (all-map (λ r. place < r.namespace) (λ r. is_walked place after asked r ≡ false) (λ r lt. unwalked r (λ e. omega (arith, e, lt))) rs above)

  walked-from : (i k : ℕ) (rss : List (List Record)) (d : List Record) → AreFrom i rss → k < length rss → i + k ≡ place → filter (is_walked place after asked) (joined_records rss) ≡ filter (is_walked place after asked) (get_or rss k d)
  walked-from i k [] d from lt at = absurd (omega arith)
  walked-from i zero (rs ∷ rss) d from lt at =
      filter-append (is_walked place after asked) rs (joined_records rss)
      ∙ ap (λ l. filter (is_walked place after asked) rs ++ l) (unwalked-above (joined_records rss) (above-from (suc i) place rss (omega arith) from.1))
      ∙ append-nil (filter (is_walked place after asked) rs)
  walked-from i (suc k) (rs ∷ rss) d from lt at =
      filter-append (is_walked place after asked) rs (joined_records rss)
      ∙ ap (λ l. l ++ filter (is_walked place after asked) (joined_records rss)) (unwalked-below rs (below-of i place rs (omega arith) from.0))
      ∙ walked-from (suc i) k rss d from.1 (omega arith) (omega arith)

  pub joined-page : (most : ℕ) (rss : List (List Record)) (d : List Record) → AreFrom 0 rss → place < length rss → info_page place after most asked (get_or rss place d) ≡ info_page place after most asked (joined_records rss)
  joined-page most rss d from lt = ap (λ l. map info_of (take most l)) (sym (walked-from 0 place rss d from lt (omega arith)))

  pub joined-page-past : (most : ℕ) (rss : List (List Record)) → AreFrom 0 rss → length rss ≤ place → [] ≡ info_page place after most asked (joined_records rss)
  joined-page-past most rss from le = sym (ap (λ l. map info_of (take most l)) (unwalked-below (joined_records rss) (below-from 0 place rss (omega arith) from)) ∙ ap (map info_of) (take-nil most))

-- ---- the records of one namespace

module _ (place : ℕ) where
  others-none : (rs : List Record) → AllByRecursion (λ r. r.namespace ≡ place → ⊥) rs → filter (λ r. r.namespace == place) rs ≡ []
  others-none rs apart =
      filter-none (λ r. r.namespace == place) rs
      (all-map (λ r. r.namespace ≡ place → ⊥) (λ r. (r.namespace == place) ≡ false) (λ r other. false_from_ne_true (r.namespace == place) (λ e. other (eqb-true r.namespace place e))) rs apart)

  own-all : (rs : List Record) → IsOf place rs → filter (λ r. r.namespace == place) rs ≡ rs
  own-all [] of = refl
  own-all (r ∷ rs) of =
      ap (λ b. cond b (r ∷ filter (λ t. t.namespace == place) rs) (filter (λ t. t.namespace == place) rs)) (eq-eqb r.namespace place of.0)
      ∙ ap (λ l. r ∷ l) (own-all rs of.1)

  own-from : (i k : ℕ) (rss : List (List Record)) (d : List Record) → AreFrom i rss → k < length rss → i + k ≡ place → filter (λ r. r.namespace == place) (joined_records rss) ≡ get_or rss k d
  own-from i k [] d from lt at = absurd (omega arith)
  own-from i zero (rs ∷ rss) d from lt at =
      let e : i ≡ place = omega (arith, at) in
      let above = above-from (suc i) place rss (omega arith) from.1 in
      filter-append (λ r. r.namespace == place) rs (joined_records rss)
      ∙ ap (λ l. filter (λ r. r.namespace == place) rs ++ l) (others-none (joined_records rss) (all-map (λ r. place < r.namespace) (λ r. r.namespace ≡ place → ⊥) (λ r lt is. omega (arith, is, lt)) (joined_records rss) above))
      ∙ append-nil (filter (λ r. r.namespace == place) rs)
      ∙ own-all rs (subst (λ n. IsOf n rs) e from.0)
  own-from i (suc k) (rs ∷ rss) d from lt at =
      let below = below-of i place rs (omega arith) from.0 in
      filter-append (λ r. r.namespace == place) rs (joined_records rss)
      ∙ ap (λ l. l ++ filter (λ r. r.namespace == place) (joined_records rss)) (others-none rs (all-map (λ r. r.namespace < place) (λ r. r.namespace ≡ place → ⊥) (λ r lt is. omega (arith, is, lt)) rs below))
      ∙ own-from (suc i) k rss d from.1 (omega arith) (omega arith)

  pub joined-own : (rss : List (List Record)) (d : List Record) → AreFrom 0 rss → place < length rss → filter (λ r. r.namespace == place) (joined_records rss) ≡ get_or rss place d
  joined-own rss d from lt = own-from 0 place rss d from lt (omega arith)

  pub joined-own-past : (rss : List (List Record)) → AreFrom 0 rss → length rss ≤ place → filter (λ r. r.namespace == place) (joined_records rss) ≡ []
  joined-own-past rss from le =
      others-none (joined_records rss)
      (all-map (λ r. r.namespace < place) (λ r. r.namespace ≡ place → ⊥) (λ r lt is. omega (arith, is, lt)) (joined_records rss) (below-from 0 place rss (omega arith) from))

-- ---- whether a namespace has records

abbrev pub is_nil : {X : Type 0} → List X → Bool
is_nil [] = true
is_nil (x ∷ xs) = false

pub nil_is : {X : Type 0} (b : Bool) (xs : List X) → (IsTrue b → xs ≡ []) × (xs ≡ [] → IsTrue b) → b ≡ is_nil xs
nil_is true [] h = refl
nil_is false [] h = h.1 refl
nil_is true (x ∷ xs) h = let none : x ∷ xs ≡ [] = h.0 refl in absurd (cc)
nil_is false (x ∷ xs) h = refl

any-joined : (p : Record → Bool) (rs ts : List Record) → list_any p (rs ++ ts) ≡ (list_any p rs || list_any p ts)
any-joined p [] ts = refl
any-joined p (r ∷ rs) ts = by (p r) (any-joined p rs ts)
  where
    by : (b : Bool) → list_any p (rs ++ ts) ≡ (list_any p rs || list_any p ts) → (b || list_any p (rs ++ ts)) ≡ ((b || list_any p rs) || list_any p ts)
    by true rest = refl
    by false rest = rest

of_other : (k place : ℕ) (rs : List Record) → IsOf k rs → k ≢ place → has_records place rs ≡ false
of_other k place [] all other = refl
of_other k place (r ∷ rs) all other =
    ap (λ b. b || has_records place rs) (false_from_ne_true (r.namespace == place) (λ is. other (sym all.0 ∙ eqb-true r.namespace place is))) ∙ of_other k place rs all.1 other

of_own : (k : ℕ) (rs : List Record) → IsOf k rs → has_records k rs ≡ not (is_nil rs)
of_own k [] all = refl
of_own k (r ∷ rs) all = ap (λ b. b || has_records k rs) (eq-eqb r.namespace k all.0)

none_before : (k place : ℕ) (rss : List (List Record)) → AreFrom k rss → place < k → has_records place (joined_records rss) ≡ false
none_before k place [] from low = refl
none_before k place (rs ∷ rss) from low =
    any-joined (λ r. r.namespace == place) rs (joined_records rss)
    ∙ ap (λ b. b || has_records place (joined_records rss)) (of_other k place rs from.0 (λ same. omega (arith, low, same)))
    ∙ none_before (suc k) place rss from.1 (omega (arith, low))

pub records_at : (i k place : ℕ) (rss : List (List Record)) (d : List Record) → AreFrom k rss → place ≡ k + i → i < length rss → has_records place (joined_records rss) ≡ not (is_nil (get_or rss i d))
records_at i k place [] d from is low = absurd (omega (arith, low))
records_at zero k place (rs ∷ rss) d from is low =
    let own : k ≡ place = omega (arith, is) in
    any-joined (λ r. r.namespace == place) rs (joined_records rss)
    ∙ ap (λ b. has_records place rs || b) (none_before (suc k) place rss from.1 (omega (arith, own)))
    ∙ either_none (has_records place rs) ∙ subst (λ p. has_records p rs ≡ not (is_nil rs)) own (of_own k rs from.0)
  where
    either_none : (b : Bool) → (b || false) ≡ b
    either_none true = refl
    either_none false = refl
records_at (suc i) k place (rs ∷ rss) d from is low =
    any-joined (λ r. r.namespace == place) rs (joined_records rss)
    ∙ ap (λ b. b || has_records place (joined_records rss)) (of_other k place rs from.0 (λ same. omega (arith, is, same)))
    ∙ records_at i (suc k) place rss d from.1 (omega (arith, is)) (omega (arith, low))

pub records_past : (i k place : ℕ) (rss : List (List Record)) → AreFrom k rss → place ≡ k + i → length rss ≤ i → has_records place (joined_records rss) ≡ false
records_past i k place [] from is past = refl
records_past zero k place (rs ∷ rss) from is past = absurd (omega (arith, past))
records_past (suc i) k place (rs ∷ rss) from is past =
    any-joined (λ r. r.namespace == place) rs (joined_records rss)
    ∙ ap (λ b. b || has_records place (joined_records rss)) (of_other k place rs from.0 (λ same. omega (arith, is, same)))
    ∙ records_past i (suc k) place rss from.1 (omega (arith, is)) (omega (arith, past))

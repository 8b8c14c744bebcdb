-- The order of the records after each change.
use Rattle.std.proofs.Common.{◌≡◌, ℕ, ◌<◌, Bool, true, false, true≢false, eq-eqb, cond, List, [], ◌∷◌, Some, refl, sym, ap, ◌∙◌, subst}
use Rattle.std.specs.List.{AllByRecursion}
use Rattle.std.specs.List.Sorted.{IsStrictlySortedBy}
use Rattle.std.specs.Prelude.{if◌then◌else◌, ◌==◌, bytes_eq, filter}
use Rattle.std.specs.declared.cmp.Ordering.{Ordering}
use Rattle.std.specs.declared.cmp.Ordering.TheVariants.{Less, Equal, Greater}
use Rattle.std.specs.Ordering.{is_lt, is_eq, nat_cmp, ordering_then, ordering_reverse, MatchOrdering}
use Rattle.std.specs.Cmp.{IsTotalOrder}
use Rattle.std.specs.Cmp.Lexicographic.{slice_cmp}
use Rattle.std.proofs.lemmas.Bool.{and_from, and_parts, eqb-true, false_from_ne_true, or_parts}
use Rattle.std.proofs.lemmas.Cmp.{nat_cmp_total, nat_list_cmp_total, on_total, then_total, tied_back, tied_itself, ranked}
use Rattle.std.proofs.lemmas.Map.Text.{is_eq-slice_cmp}
use Rattle.std.proofs.lemmas.Slice.Eq.{bytes_eq-Decides}
use Rattle.snap_usage.specs.declared.usage.Usage.{Usage}
use Rattle.snap_lease.proofs.ListLemmas.{all-filter}
use Rattle.snap_record.specs.Labels.{Bytes}
use Rattle.snap_record.specs.declared.record.Record.{Record}
use Rattle.snap_call.specs.Records.{record_cmp, is_named, record_at, has_key, is_slot, with_record, without_first, recharged}
use Rattle.snap_call.proofs.Lists.{all-map, all-both, none-passes, list_any-none, with_charge, all-with_record, all-without, all-recharged}

pub record_cmp_total : IsTotalOrder record_cmp
record_cmp_total = then_total (on_total (λ (r : Record). r.namespace) nat_cmp_total) (on_total (λ (r : Record). r.key) nat_list_cmp_total)

-- ---- records that tie

both_equal : (a b : Ordering) → ordering_then a b ≡ Equal → (a ≡ Equal) × (b ≡ Equal)
both_equal Less b e = absurd (cc)
both_equal Equal b e = (refl, e)
both_equal Greater b e = absurd (cc)

nat_tied : (x y : ℕ) → nat_cmp x y ≡ Equal → x ≡ y
nat_tied x y e = subst (λ o. MatchOrdering o (x < y) (x ≡ y) (y < x)) e (ranked x y (nat_cmp x y) refl)

-- records that tie have one namespace and one key
pub tied-is_named : (r t : Record) → record_cmp r t ≡ Equal → is_named r.namespace r.key t ≡ true
tied-is_named r t e =
    let h = both_equal (nat_cmp t.namespace r.namespace) (slice_cmp nat_cmp t.key r.key) (tied_back record_cmp_total r t e) in
    and_from _ _ (eq-eqb t.namespace r.namespace (nat_tied t.namespace r.namespace h.0)) (sym (is_eq-slice_cmp t.key r.key) ∙ ap is_eq h.1)

named_tied : (r t : Record) → is_named r.namespace r.key t ≡ true → record_cmp t r ≡ Equal
named_tied r t is =
    let h = and_parts (t.namespace == r.namespace) (bytes_eq t.key r.key) is in
    let place : t.namespace ≡ r.namespace = eqb-true t.namespace r.namespace h.0 in
    let key : t.key ≡ r.key = (bytes_eq-Decides t.key r.key).0 h.1 in
    (λ i. ordering_then (nat_cmp (place i) r.namespace) (slice_cmp nat_cmp (key i) r.key)) ∙ tied_itself record_cmp_total r

-- a record has its own name
pub own_named : (r : Record) → is_named r.namespace r.key r ≡ true
own_named r = and_from (r.namespace == r.namespace) (bytes_eq r.key r.key) (eq-eqb r.namespace r.namespace refl) ((bytes_eq-Decides r.key r.key).1 refl)

-- and one that comes after it has another
pub unnamed_before : (r t : Record) → record_cmp r t ≡ Less → is_named t.namespace t.key r ≡ false
unnamed_before r t e = false_from_ne_true (is_named t.namespace t.key r) (λ is. apart (sym e ∙ named_tied t r is))
  where
    apart : Less ≡ Equal → ⊥
    apart same = cc

-- of sorted records, each is the one of its key
pub own_found : (rs : List Record) → IsStrictlySortedBy record_cmp rs → AllByRecursion (λ r. record_at r.namespace r.key rs ≡ Some r) rs
unfolding IsStrictlySortedBy
own_found [] sorted = tt
own_found (r ∷ rs) sorted = (
  ap (λ b. cond b (Some r) (record_at r.namespace r.key rs)) (own_named r),
  all-map (λ t. (record_cmp r t ≡ Less) × (record_at t.namespace t.key rs ≡ Some t)) (λ t. record_at t.namespace t.key (r ∷ rs) ≡ Some t)
      (λ t h. ap (λ b. cond b (Some r) (record_at t.namespace t.key rs)) (unnamed_before r t h.0) ∙ h.1)
      rs (all-both (λ t. record_cmp r t ≡ Less) (λ t. record_at t.namespace t.key rs ≡ Some t) rs sorted.0 (own_found rs sorted.1)),
)

-- ---- the changes

above : (r t : Record) (rs : List Record) → record_cmp r t ≡ Less → AllByRecursion (λ u. record_cmp t u ≡ Less) rs → AllByRecursion (λ u. record_cmp r u ≡ Less) rs
above r t [] e all = tt
above r t (u ∷ us) e all = (record_cmp_total.trans r t u e all.0, above r t us e all.1)

pub sorted-with_record : (r : Record) (rs : List Record) → has_key r.namespace r.key rs ≡ false → IsStrictlySortedBy record_cmp rs → IsStrictlySortedBy record_cmp (with_record r rs)
unfolding IsStrictlySortedBy
sorted-with_record r [] none sorted = (tt, tt)
sorted-with_record r (t ∷ ts) none sorted = by (record_cmp r t) refl (sorted-with_record r ts rest.1 sorted.1)
  where
    rest : (is_named r.namespace r.key t ≡ false) × (has_key r.namespace r.key ts ≡ false)
    rest = or_parts (is_named r.namespace r.key t) (has_key r.namespace r.key ts) none

    by : (o : Ordering) → record_cmp r t ≡ o → IsStrictlySortedBy record_cmp (with_record r ts) → IsStrictlySortedBy record_cmp (if is_lt o then r ∷ t ∷ ts else t ∷ with_record r ts)
    by Less e next = ((e, above r t ts e sorted.0), sorted)
    by Equal e next = absurd (true≢false (sym (tied-is_named r t e) ∙ rest.0))
    by Greater e next = (all-with_record r (λ u. record_cmp t u ≡ Less) ts (record_cmp_total.antisymm t r ∙ ap ordering_reverse e) sorted.0, next)

pub sorted-without : (p : Record → Bool) (rs : List Record) → IsStrictlySortedBy record_cmp rs → IsStrictlySortedBy record_cmp (without_first p rs)
unfolding IsStrictlySortedBy
sorted-without p [] sorted = tt
sorted-without p (r ∷ rs) sorted =
    elim (p r) as (λ b. IsStrictlySortedBy record_cmp (if b then rs else r ∷ without_first p rs)) [
      | true ↦ sorted.1
      | false ↦ (all-without p (λ u. record_cmp r u ≡ Less) rs sorted.0, sorted-without p rs sorted.1)
    ]

pub sorted-filter : (keep : Record → Bool) (rs : List Record) → IsStrictlySortedBy record_cmp rs → IsStrictlySortedBy record_cmp (filter keep rs)
unfolding IsStrictlySortedBy
sorted-filter keep [] sorted = tt
sorted-filter keep (r ∷ rs) sorted =
    elim (keep r) as (λ b. IsStrictlySortedBy record_cmp (cond b (r ∷ filter keep rs) (filter keep rs))) [
      | true ↦ (all-filter (λ u. record_cmp r u ≡ Less) keep rs sorted.0, sorted-filter keep rs sorted.1)
      | false ↦ sorted-filter keep rs sorted.1
    ]

pub sorted-recharged : (slot : ℕ) (to : Usage) (rs : List Record) → IsStrictlySortedBy record_cmp rs → IsStrictlySortedBy record_cmp (recharged slot to rs)
unfolding IsStrictlySortedBy
sorted-recharged slot to [] sorted = tt
sorted-recharged slot to (r ∷ rs) sorted =
    elim (is_slot slot r) as (λ b. IsStrictlySortedBy record_cmp (if b then with_charge slot to r ∷ rs else r ∷ recharged slot to rs)) [
      | true ↦ sorted
      | false ↦ (all-recharged slot to (λ u. record_cmp r u ≡ Less) rs (λ u is e. e) sorted.0, sorted-recharged slot to rs sorted.1)
    ]

-- a key that is free stays free where a record goes
pub has_key-without : (p : Record → Bool) (place : ℕ) (key : Bytes) (rs : List Record) → has_key place key rs ≡ false → has_key place key (without_first p rs) ≡ false
has_key-without p place key rs none =
    list_any-none (is_named place key) (without_first p rs) (all-without p (λ r. is_named place key r ≡ false) rs (none-passes (is_named place key) rs none))

-- ---- a record comes and another goes

-- a record that doesn't pass a test comes to the same place before and after that which passes goes
pub without-with_record : (p : Record → Bool) (c : Record) (rs : List Record) → p c ≡ false → IsStrictlySortedBy record_cmp rs → without_first p (with_record c rs) ≡ with_record c (without_first p rs)
unfolding IsStrictlySortedBy
without-with_record p c [] out sorted = ap (λ b. if b then [] else c ∷ []) out
without-with_record p c (t ∷ ts) out sorted = by (record_cmp c t) refl (p t) refl (without-with_record p c ts out sorted.1)
  where
    -- a record that comes before the first comes before the rest
    first : record_cmp c t ≡ Less → (us : List Record) → AllByRecursion (λ u. record_cmp t u ≡ Less) us → with_record c us ≡ c ∷ us
    first e [] all = refl
    first e (u ∷ us) all = ap (λ o. if is_lt o then c ∷ u ∷ us else u ∷ with_record c us) (record_cmp_total.trans c t u e all.0)

    by : (o : Ordering) → record_cmp c t ≡ o → (b : Bool) → p t ≡ b → without_first p (with_record c ts) ≡ with_record c (without_first p ts)
        → without_first p (if is_lt o then c ∷ t ∷ ts else t ∷ with_record c ts) ≡ with_record c (if b then ts else t ∷ without_first p ts)
    by Less e true is next = ap (λ b. if b then t ∷ ts else c ∷ without_first p (t ∷ ts)) out ∙ ap (λ b. c ∷ (if b then ts else t ∷ without_first p ts)) is ∙ sym (first e ts sorted.0)
    by Less e false is next = ap (λ b. if b then t ∷ ts else c ∷ without_first p (t ∷ ts)) out ∙ ap (λ b. c ∷ (if b then ts else t ∷ without_first p ts)) is ∙ sym (ap (λ o. if is_lt o then c ∷ t ∷ without_first p ts else t ∷ with_record c (without_first p ts)) e)
    by Equal e true is next = ap (λ b. if b then with_record c ts else t ∷ without_first p (with_record c ts)) is
    by Equal e false is next = ap (λ b. if b then with_record c ts else t ∷ without_first p (with_record c ts)) is ∙ ap (λ l. t ∷ l) next ∙ sym (ap (λ o. if is_lt o then c ∷ t ∷ without_first p ts else t ∷ with_record c (without_first p ts)) e)
    by Greater e true is next = ap (λ b. if b then with_record c ts else t ∷ without_first p (with_record c ts)) is
    by Greater e false is next = ap (λ b. if b then with_record c ts else t ∷ without_first p (with_record c ts)) is ∙ ap (λ l. t ∷ l) next ∙ sym (ap (λ o. if is_lt o then c ∷ t ∷ without_first p ts else t ∷ with_record c (without_first p ts)) e)

-- a record that came goes again
pub without-with_record_own : (p : Record → Bool) (c : Record) (rs : List Record) → p c ≡ true → AllByRecursion (λ t. p t ≡ false) rs → without_first p (with_record c rs) ≡ rs
without-with_record_own p c [] is none = ap (λ b. if b then [] else c ∷ []) is
without-with_record_own p c (t ∷ ts) is none =
    elim (is_lt (record_cmp c t)) as (λ b. without_first p (if b then c ∷ t ∷ ts else t ∷ with_record c ts) ≡ t ∷ ts) [
      | true ↦ ap (λ b. if b then t ∷ ts else c ∷ without_first p (t ∷ ts)) is
      | false ↦ ap (λ b. if b then with_record c ts else t ∷ without_first p (with_record c ts)) none.0 ∙ ap (λ l. t ∷ l) (without-with_record_own p c ts is none.1)
    ]

-- Records in order: what each change keeps, and where a search by halves ends.
use Rattle.std.proofs.Common.{◌≡◌, ℕ, zero, suc, ◌<◌, ◌≤◌, true, false, true≢false, List, [], ◌∷◌, length, get_or, Some, None, position, refl, sym, ap, ◌∙◌, inl, inr, arith}
use Rattle.std.proofs.lemmas.Bool.{cases_eq, cases_lt, false_from_ne_true, not-false, not-true}
use Rattle.std.proofs.lemmas.List.{get_or_default}
use Rattle.std.proofs.lemmas.Cmp.{tied_itself, upto}
use Rattle.std.specs.Cmp.{IsTotalOrder}
use Rattle.std.specs.List.{AllByRecursion, insert}
use Rattle.std.specs.List.Sorted.{IsStrictlySortedBy, IsPartitionedBy, IsPartitionPoint}
use Rattle.std.specs.Prelude.{not}
use Rattle.std.specs.declared.cmp.Ordering.{Ordering}
use Rattle.std.specs.declared.cmp.Ordering.TheVariants.{Less, Equal, Greater}
use Rattle.std.specs.Ordering.{is_gt, is_lt}
use Rattle.snap_record.specs.Labels.{Bytes}
use Rattle.snap_record.specs.declared.record.Record.{Record}
use Rattle.snap_call.specs.Indexes.{IsAscending}
use Rattle.snap_call.specs.Marked.{key_cmp}
use Rattle.snap_call.specs.Records.{AllPairwise, record_cmp, is_later, is_named, with_record}
use Rattle.snap_call.proofs.CodeLemmas.{with_record_found, with_record-None}
use Rattle.snap_call.proofs.Lists.{all-map}
use Rattle.snap_call.proofs.InOrder.{record_cmp_total}
use Rattle.snap_call.proofs.Searches.{probe, named_tied, tied_named, position-absent, position-found}

-- ---- orders

is_lt-Less : (o : Ordering) → is_lt o ≡ true → o ≡ Less
is_lt-Less Less e = refl
is_lt-Less Equal e = absurd (true≢false (sym e))
is_lt-Less Greater e = absurd (true≢false (sym e))

-- what is below a later one is above
module _ {X : Type 0} {R : X → X → Ordering} (total : IsTotalOrder R) where
  below_later : (x y z : X) → is_gt (R x y) ≡ false → is_lt (R y z) ≡ true → is_lt (R x z) ≡ true
  below_later x y z up low = by (R x y) refl
    where
      less : R y z ≡ Less
      less = is_lt-Less (R y z) low

      by : (o : Ordering) → R x y ≡ o → is_lt (R x z) ≡ true
      by Less e = ap is_lt (total.trans x y z e less)
      by Equal e = ap is_lt (total.congr x y z e ∙ less)
      by Greater e = absurd (true≢false (sym (ap is_gt e) ∙ up))

-- ---- lists

module _ {X : Type 0} where
  all-at : (P : X → Type 0) (xs : List X) (k : ℕ) (d : X) → AllByRecursion P xs → k < length xs → P (get_or xs k d)
  all-at P [] k d all lt = absurd (omega arith)
  all-at P (x ∷ xs) zero d all lt = all.0
  all-at P (x ∷ xs) (suc k) d all lt = all-at P xs k d all.1 (omega arith)

  pairwise-at : (R : X → X → Type 0) (xs : List X) (i j : ℕ) (d : X) → AllPairwise R xs → i < j → j < length xs → R (get_or xs i d) (get_or xs j d)
  pairwise-at R [] i j d all lt within = absurd (omega arith)
  pairwise-at R (x ∷ xs) zero (suc j) d all lt within = all-at (R x) xs j d all.0 (omega arith)
  pairwise-at R (x ∷ xs) (suc i) (suc j) d all lt within = pairwise-at R xs i j d all.1 (omega arith) (omega arith)
  pairwise-at R (x ∷ xs) i zero d all lt within = absurd (omega arith)

-- ---- the changes

above : (r t : Record) (rs : List Record) → is_gt (record_cmp r t) ≡ false → AllByRecursion (λ u. is_gt (record_cmp t u) ≡ false) rs → AllByRecursion (λ u. is_gt (record_cmp r u) ≡ false) rs
above r t rs e all = all-map (λ u. is_gt (record_cmp t u) ≡ false) (λ u. is_gt (record_cmp r u) ≡ false) (λ u h. upto record_cmp_total r t u e h) rs all

-- records that are strictly in order are in order
pub ascending-sorted : (rs : List Record) → IsStrictlySortedBy record_cmp rs → IsAscending rs
unfolding IsStrictlySortedBy
ascending-sorted [] sorted = tt
ascending-sorted (r ∷ rs) sorted = (all-map (λ t. record_cmp r t ≡ Less) (λ t. is_gt (record_cmp r t) ≡ false) (λ t e. ap is_gt e) rs sorted.0, ascending-sorted rs sorted.1)

-- ---- the searches

not_after : (rs : List Record) (i j : ℕ) (d : Record) → IsAscending rs → i ≤ j → j < length rs → is_gt (record_cmp (get_or rs i d) (get_or rs j d)) ≡ false
not_after rs i j d up le lt = elim (cases_eq i j) [
  | inl same ↦ ap (λ k. is_gt (record_cmp (get_or rs i d) (get_or rs k d))) (sym same) ∙ ap is_gt (tied_itself record_cmp_total (get_or rs i d))
  | inr differ ↦ pairwise-at (λ r t. is_gt (record_cmp r t) ≡ false) rs i j d up (omega arith) lt
]

-- the records that come before a key stand first
pub parted-key : (place : ℕ) (key : Bytes) (rs : List Record) → IsAscending rs → IsPartitionedBy (λ r. is_lt (key_cmp place key r)) rs
parted-key place key rs up i j d le lt low =
    let t = get_or rs j d in
    below_later record_cmp_total (get_or rs i d) t (record t { namespace = place; key = key }) (not_after rs i j d up le lt) low

-- where a record goes
pub placed : (r : Record) (rs : List Record) (i : ℕ) → i ≤ length rs → IsPartitionPoint (λ t. not (is_later r t) ≡ true) (λ t. not (is_later r t) ≡ false) rs i → insert rs i r ≡ with_record r rs
placed r rs i within parts = elim (cases_lt i (length rs)) [
  | inl below ↦ with_record_found r rs i r below (not-false (is_later r (get_or rs i r)) (parts.1 i r (omega arith) below)) (λ k lt. before k r lt)
  | inr past ↦ (let e : i ≡ length rs = omega arith in ap (λ k. insert rs k r) e ∙ with_record-None r rs (position-absent (is_later r) rs (λ k d lt. before k d (omega arith))))
]
  where
    before : (k : ℕ) (d : Record) → k < i → is_later r (get_or rs k d) ≡ false
    before k d lt = not-true (is_later r (get_or rs k d)) (parts.0 k d (omega arith) lt)

module _ (place : ℕ) (key : Bytes) (rs : List Record) (up : IsAscending rs) (i : ℕ) (within : i ≤ length rs) (parts : IsPartitionPoint (λ r. is_lt (key_cmp place key r) ≡ true) (λ r. is_lt (key_cmp place key r) ≡ false) rs i) where
  unnamed : (r : Record) (o : Ordering) → key_cmp place key r ≡ o → (o ≡ Equal → ⊥) → is_named place key r ≡ false
  unnamed r o e ne = false_from_ne_true (is_named place key r) (λ is. ne (sym e ∙ named_tied place key r is))

  before : (k : ℕ) (d : Record) → k < i → is_named place key (get_or rs k d) ≡ false
  before k d lt = unnamed (get_or rs k d) Less (is_lt-Less (key_cmp place key (get_or rs k d)) (parts.0 k d (omega arith) lt)) (λ h. cc)

  -- the record there has the key
  pub search-here : (d : Record) → i < length rs → is_named place key (get_or rs i d) ≡ true → position (is_named place key) rs ≡ Some i
  search-here d lt is = position-found (is_named place key) rs i d lt is (λ k below. before k d below)

  -- or no record has
  pub search-past : i ≡ length rs → position (is_named place key) rs ≡ None
  search-past e = position-absent (is_named place key) rs (λ k d lt. before k d (omega arith))

  pub search-other : (r : Record) → i < length rs → is_named place key (get_or rs i r) ≡ false → position (is_named place key) rs ≡ None
  search-other r lt other = position-absent (is_named place key) rs none
    where
      -- the record there comes after the key
      after : key_cmp place key (get_or rs i r) ≡ Greater
      after = by (key_cmp place key (get_or rs i r)) refl
        where
          by : (o : Ordering) → key_cmp place key (get_or rs i r) ≡ o → o ≡ Greater
          by Less e = absurd (true≢false (sym (ap is_lt e) ∙ parts.1 i r (omega arith) lt))
          by Equal e = absurd (true≢false (sym (tied_named place key (get_or rs i r) e) ∙ other))
          by Greater e = refl

      none : (k : ℕ) (d : Record) → k < length rs → is_named place key (get_or rs k d) ≡ false
      none k d ltk = elim (cases_lt k i) [
        | inl below ↦ before k d below
        | inr past ↦ false_from_ne_true (is_named place key (get_or rs k d)) (λ is. true≢false (sym (ap is_gt greater) ∙ upto record_cmp_total (get_or rs i d) (get_or rs k d) (probe place key d) (not_after rs i k d up past ltk) (ap is_gt (named_tied place key (get_or rs k d) is))))
      ]
        where
          greater : key_cmp place key (get_or rs i d) ≡ Greater
          greater = ap (key_cmp place key) (get_or_default rs i d r lt) ∙ after

-- A page whose filter names the key: the record of that key makes it alone.
use Rattle.std.proofs.Common.{◌≡◌, ℕ, zero, suc, ◌<◌, Bool, true, false, true≢false, cond, List, [], ◌∷◌, map, take, Some, refl, sym, ap, ◌∙◌, eq-eqb, arith}
use Rattle.std.specs.List.{list_all}
use Rattle.std.specs.List.Sorted.{IsStrictlySortedBy}
use Rattle.std.specs.Option.{option_to_list}
use Rattle.std.specs.Prelude.{◌==◌, ◌&&◌, bytes_eq, filter}
use Rattle.std.specs.declared.cmp.Ordering.TheVariants.{Less}
use Rattle.std.proofs.lemmas.Bool.{and_from, and_parts, eqb-true, false_from_ne_true}
use Rattle.std.proofs.lemmas.Slice.Eq.{bytes_eq-Decides}
use Rattle.snap_record.specs.Filters.{has_label, is_text_asked, is_kind_asked}
use Rattle.snap_record.specs.Labels.{Bytes}
use Rattle.snap_record.specs.Records.{info_of}
use Rattle.snap_record.specs.declared.filter.Filter.{Filter}
use Rattle.snap_record.specs.declared.record.Record.{Record}
use Rattle.snap_call.specs.Records.{record_cmp, is_named, record_at, info_page}
use Rattle.snap_call.specs.Spaces.{is_key_after, is_asked}
use Rattle.snap_call.proofs.Entries.{take-nil}
use Rattle.snap_call.proofs.InOrder.{unnamed_before}
use Rattle.snap_call.proofs.Joined.{filter-none}
use Rattle.snap_call.proofs.Lists.{all-map}
use Rattle.snap_call.proofs.Parts.{is_walked}

module _ (place : ℕ) (after key : Bytes) (asked : Filter) (names : asked.name ≡ Some key) where
  -- a record of another name is not asked for
  left_out : (a l b m n o : Bool) → (a && b) ≡ false → (a && l && (b && m && n && o)) ≡ false
  left_out false l b m n o e = refl
  left_out true l true m n o e = absurd (true≢false e)
  left_out true true false m n o e = refl
  left_out true false false m n o e = refl

  unwalked : (r : Record) → is_named place key r ≡ false → is_walked place after asked r ≡ false
  unwalked r other =
      ap (λ part. (r.namespace == place) && is_key_after after r && (is_text_asked part (info_of r).name && parent && kind && labels)) names
      ∙ left_out (r.namespace == place) (is_key_after after r) (bytes_eq r.key key) parent kind labels other
    where
      parent : Bool
      parent = is_text_asked asked.parent (info_of r).parent

      kind : Bool
      kind = is_kind_asked asked.kind (info_of r).kind

      labels : Bool
      labels = list_all (has_label (info_of r).labels) asked.labels

  -- a record after the one of this name has another
  unnamed_after : (r t : Record) → is_named place key r ≡ true → record_cmp r t ≡ Less → is_named place key t ≡ false
  unnamed_after r t is less = false_from_ne_true (is_named place key t) (λ same. true≢false (sym (own same) ∙ unnamed_before r t less))
    where
      own : is_named place key t ≡ true → is_named t.namespace t.key r ≡ true
      own same =
          let h = and_parts (t.namespace == place) (bytes_eq t.key key) same in
          let at : t.namespace ≡ place = eqb-true t.namespace place h.0 in
          let called : t.key ≡ key = (bytes_eq-Decides t.key key).0 h.1 in
          (λ i. is_named (at i) (called i) r) ∙ is

  walked-named : (rs : List Record) → IsStrictlySortedBy record_cmp rs → filter (is_walked place after asked) (option_to_list (record_at place key rs)) ≡ filter (is_walked place after asked) rs
  unfolding IsStrictlySortedBy
  walked-named [] sorted = refl
  walked-named (r ∷ ts) sorted = by (is_named place key r) refl (walked-named ts sorted.1)
    where
      walked : List Record → List Record
      walked rs = filter (is_walked place after asked) rs

      by : (b : Bool) → is_named place key r ≡ b → walked (option_to_list (record_at place key ts)) ≡ walked ts
          → walked (option_to_list (cond b (Some r) (record_at place key ts))) ≡ walked (r ∷ ts)
      by true is next =
          sym (ap (λ l. cond (is_walked place after asked r) (r ∷ l) l) (filter-none (is_walked place after asked) ts
          (all-map (λ t. record_cmp r t ≡ Less) (λ t. is_walked place after asked t ≡ false) (λ t less. unwalked t (unnamed_after r t is less)) ts sorted.0)))
      by false is next = next ∙ sym (ap (λ b. cond b (r ∷ walked ts) (walked ts)) (unwalked r is))

  pub page-named : (most : ℕ) (rs : List Record) → IsStrictlySortedBy record_cmp rs → info_page place after most asked (option_to_list (record_at place key rs)) ≡ info_page place after most asked rs
  page-named most rs sorted = ap (λ l. map info_of (take most l)) (walked-named rs sorted)

-- the page of one record of the namespace
module _ (place : ℕ) (after : Bytes) (most : ℕ) (asked : Filter) (r : Record) (of : r.namespace ≡ place) where
  walked-one : is_walked place after asked r ≡ (is_key_after after r && is_asked asked r)
  walked-one = ap (λ b. b && is_key_after after r && is_asked asked r) (eq-eqb r.namespace place of)

  page-by : (b : Bool) → (is_key_after after r && is_asked asked r) ≡ b → info_page place after most asked (r ∷ []) ≡ map info_of (take most (cond b (r ∷ []) []))
  page-by b is = ap (λ b. map info_of (take most (cond b (r ∷ []) []))) (walked-one ∙ is)

  pub page-one : 0 < most → is_key_after after r ≡ true → is_asked asked r ≡ true → info_page place after most asked (r ∷ []) ≡ info_of r ∷ []
  page-one some later passes = page-by true (and_from (is_key_after after r) (is_asked asked r) later passes) ∙ first most some
    where
      first : (n : ℕ) → 0 < n → map info_of (take n (r ∷ [])) ≡ info_of r ∷ []
      first zero lt = absurd (omega (arith, lt))
      first (suc n) lt = ap (λ l. info_of r ∷ map info_of l) (take-nil n)

  pub page-unasked : is_asked asked r ≡ false → info_page place after most asked (r ∷ []) ≡ []
  page-unasked fails = page-by false (neither (is_key_after after r) (is_asked asked r) fails) ∙ ap (map info_of) (take-nil most)
    where
      neither : (a b : Bool) → b ≡ false → (a && b) ≡ false
      neither true b e = e
      neither false b e = refl

  pub page-before : is_key_after after r ≡ false → info_page place after most asked (r ∷ []) ≡ []
  page-before before = page-by false (ap (λ b. b && is_asked asked r) before) ∙ ap (map info_of) (take-nil most)

  pub page-none : most ≡ 0 → info_page place after most asked (r ∷ []) ≡ []
  page-none none = ap (λ n. info_page place after n asked (r ∷ [])) none

-- A binary search among the records finds where a key stands.
use Rattle.std.proofs.Common.{◌≡◌, ◌≢◌, ℕ, zero, suc, ◌+◌, ◌<◌, ◌≤◌, Bool, true, false, List, [], ◌∷◌, length, get_or, Some, None, position, refl, sym, ap, ◌∙◌, inl, inr, arith}
use Rattle.std.proofs.lemmas.Bool.{and_parts, cases_order, eqb-true, false_from_ne_true, true≢false}
use Rattle.std.proofs.lemmas.Cmp.{alike_right, tied_back, tied_itself}
use Rattle.std.proofs.lemmas.Iterator.Adapters.{position_from-zero}
use Rattle.std.proofs.lemmas.Map.Keys.{Less-from_sorted}
use Rattle.std.proofs.lemmas.Slice.Eq.{bytes_eq-Decides}
use Rattle.std.specs.List.{position_from}
use Rattle.std.specs.List.Sorted.{IsStrictlySortedBy}
use Rattle.std.specs.Prelude.{bytes_eq, ◌==◌}
use Rattle.std.specs.declared.cmp.Ordering.{Ordering}
use Rattle.std.specs.declared.cmp.Ordering.TheVariants.{Less, Equal, Greater}
use Rattle.std.specs.Ordering.{ordering_index}
use Rattle.snap_record.specs.Labels.{Bytes}
use Rattle.snap_record.specs.declared.record.Record.{Record}
use Rattle.snap_call.specs.Records.{record_cmp, is_named}
use Rattle.snap_call.specs.Marked.{key_cmp}
use Rattle.snap_call.proofs.InOrder.{record_cmp_total, tied-is_named}

-- ---- where the first stands that passes a test

module _ {X : Type 0} (p : X → Bool) where
  position_from-found : (n : ℕ) (xs : List X) (i : ℕ) (d : X) → i < length xs → p (get_or xs i d) ≡ true → ((k : ℕ) → k < i → p (get_or xs k d) ≡ false) → position_from p n xs ≡ Some (n + i)
  position_from-found n [] i d lt here before = absurd (omega arith)
  position_from-found n (x ∷ xs) zero d lt here before = rw here (let e : n ≡ n + 0 = omega arith in ap Some e)
  position_from-found n (x ∷ xs) (suc i) d lt here before =
      let no : p x ≡ false = before 0 (omega arith) in
      let e : (n + 1) + i ≡ n + suc i = omega arith in
      rw no (position_from-found (n + 1) xs i d (omega arith) here (λ k h. before (suc k) (omega arith)) ∙ ap Some e)

  position_from-absent : (n : ℕ) (xs : List X) → ((k : ℕ) (d : X) → k < length xs → p (get_or xs k d) ≡ false) → position_from p n xs ≡ None
  position_from-absent n [] none = refl
  position_from-absent n (x ∷ xs) none =
      let no : p x ≡ false = none 0 x (omega arith) in
      rw no (position_from-absent (n + 1) xs (λ k d lt. none (suc k) d (omega arith)))

  pub position-found : (xs : List X) (i : ℕ) (d : X) → i < length xs → p (get_or xs i d) ≡ true → ((k : ℕ) → k < i → p (get_or xs k d) ≡ false) → position p xs ≡ Some i
  position-found xs i d lt here before = let e : 0 + i ≡ i = omega arith in position_from-zero p xs ∙ position_from-found 0 xs i d lt here before ∙ ap Some e

  pub position-absent : (xs : List X) → ((k : ℕ) (d : X) → k < length xs → p (get_or xs k d) ≡ false) → position p xs ≡ None
  position-absent xs none = position_from-zero p xs ∙ position_from-absent 0 xs none

-- ---- a key in a namespace

index_below : (o : Ordering) → ordering_index o ≤ 2
index_below Less = omega arith
index_below Equal = omega arith
index_below Greater = omega arith

module _ (place : ℕ) (key : Bytes) where
  -- a record of the key in the namespace, like this one in all else
  abbrev pub probe : Record → Record
  probe d = record d { namespace = place; key = key }

  pub tied_named : (r : Record) → key_cmp place key r ≡ Equal → is_named place key r ≡ true
  tied_named r e = tied-is_named (probe r) r (tied_back record_cmp_total r (probe r) e)

  pub named_tied : (r : Record) → is_named place key r ≡ true → key_cmp place key r ≡ Equal
  named_tied r is =
      let h = and_parts (r.namespace == place) (bytes_eq r.key key) is in
      let at : r.namespace ≡ place = eqb-true r.namespace place h.0 in
      let named : r.key ≡ key = (bytes_eq-Decides r.key key).0 h.1 in
      ap (λ (k : Bytes). key_cmp place k r) (sym named) ∙ ap (λ (n : ℕ). key_cmp n r.key r) (sym at) ∙ tied_itself record_cmp_total r

  not_named : (r : Record) (o : Ordering) → key_cmp place key r ≡ o → o ≢ Equal → is_named place key r ≡ false
  not_named r o e ne = false_from_ne_true (is_named place key r) (λ is. ne (sym e ∙ named_tied r is))

  rises : (x y : Record) → record_cmp x y ≡ Less → ordering_index (key_cmp place key x) ≤ ordering_index (key_cmp place key y)
  rises x y less = by (key_cmp place key y) refl
    where
      by : (o : Ordering) → key_cmp place key y ≡ o → ordering_index (key_cmp place key x) ≤ ordering_index o
      by Less e =
          let h : key_cmp place key x ≡ Less = record_cmp_total.trans x y (probe y) less e in
          let i : ordering_index (key_cmp place key x) ≡ 0 = ap ordering_index h in omega arith
      by Equal e =
          let h : key_cmp place key x ≡ Less = sym (alike_right record_cmp_total y (probe y) x e) ∙ less in
          let i : ordering_index (key_cmp place key x) ≡ 0 = ap ordering_index h in omega arith
      by Greater e = index_below (key_cmp place key x)

  module _ (rs : List Record) (sorted : IsStrictlySortedBy record_cmp rs) where
    -- no record before one of the key is of the key
    named_first : (i k : ℕ) (d : Record) → i < length rs → is_named place key (get_or rs i d) ≡ true → k < i → is_named place key (get_or rs k d) ≡ false
    named_first i k d lt here below =
        let e : key_cmp place key (get_or rs k d) ≡ Less =
        sym (alike_right record_cmp_total (get_or rs i d) (probe (get_or rs i d)) (get_or rs k d) (named_tied (get_or rs i d) here)) ∙ Less-from_sorted record_cmp rs k i d sorted below lt in
        not_named (get_or rs k d) Less e (λ h. cc)

    -- two records of one key stand in one place
    pub named_once : (i k : ℕ) (d : Record) → i < length rs → k < length rs → is_named place key (get_or rs i d) ≡ true → is_named place key (get_or rs k d) ≡ true → i ≡ k
    named_once i k d lti ltk hi hk = elim (cases_order i k) [
      | inl same ↦ same
      | inr (inl below) ↦ absurd (clash (get_or rs i d) hi (named_first k i d ltk hk below))
      | inr (inr above) ↦ absurd (clash (get_or rs k d) hk (named_first i k d lti hi above))
    ]
      where
        clash : (r : Record) → is_named place key r ≡ true → is_named place key r ≡ false → ⊥
        clash r h g = true≢false (sym h ∙ g)

-- The records whose ids are below a number, which a state has once these are put back.
use Rattle.std.proofs.Common.{◌≡◌, ◌≢◌, ℕ, suc, ◌<◌, ◌≤◌, Bool, true, false, true≢false, not, cond, List, [], ◌∷◌, Option, Some, refl, sym, ap, ◌∙◌, subst, arith}
use Rattle.std.specs.List.{AllByRecursion, list_any}
use Rattle.std.specs.List.Sorted.{IsStrictlySortedBy}
use Rattle.std.specs.Prelude.{◌==◌, bytes_eq, filter, find, if◌then◌else◌, nat_lt, IsSomeAnd}
use Rattle.std.specs.declared.cmp.Ordering.TheVariants.{Less, Greater}
use Rattle.std.specs.Ordering.{is_lt, ordering_reverse}
use Rattle.std.proofs.lemmas.Bool.{and_parts, eqb-true, false_from_ne_true, le-ltb, lt-ltb, ltb-true}
use Rattle.std.proofs.lemmas.Bool.Decides.{nat_tests}
use Rattle.std.proofs.lemmas.Slice.Eq.{bytes_eq-Decides}
use Rattle.snap_usage.specs.declared.usage.Usage.{Usage}
use Rattle.snap_usage.specs.Counted.{Covers}
use Rattle.snap_ledger.specs.States.{plus}
use Rattle.snap_lease.proofs.ListLemmas.{all-filter}
use Rattle.snap_record.specs.Labels.{Bytes}
use Rattle.snap_record.specs.declared.record.Record.{Record}
use Rattle.snap_call.specs.Good.{HasOlderParent}
use Rattle.snap_call.specs.Records.{record_cmp, is_named, record_at, is_slot, active_at, charge_of, committed_at, with_record, AllPairwise, AreApart}
use Rattle.snap_call.specs.Saved.{has_id}
use Rattle.snap_call.proofs.Chains.{IsRising, KeepsFor, OnParent}
use Rattle.snap_call.proofs.InOrder.{own_found, record_cmp_total}
use Rattle.snap_call.proofs.Joined.{filter-none}
use Rattle.snap_call.proofs.Lists.{all-both, all-each, all-kept, all-map, committed-from, committed-parts, committed_at-record_at, find-all, find-filter, list_any-none, none_some, record_at-all, record_at-is_named, some_same}
use Rattle.snap_call.proofs.Sums.{charge_of-filter, find-here, find-past}

-- the record's id is below the number
abbrev pub is_older : ℕ → Record → Bool
is_older n r = nat_lt r.id n

-- the records whose ids are below the number
abbrev pub older : ℕ → List Record → List Record
older n rs = filter (is_older n) rs

-- no two of the records have the same id
abbrev pub HaveOwnIds : List Record → Type 0
HaveOwnIds rs = AllPairwise (λ r t. r.id ≢ t.id) rs

-- ---- one number more

-- a number other than n is below the next one where it is below n
lt-suc : (x n : ℕ) → (x == n) ≡ false → nat_lt x (suc n) ≡ nat_lt x n
lt-suc x n ne = grind (arith, nat_tests)

pub older-zero : (rs : List Record) → older 0 rs ≡ []
older-zero rs = filter-none (is_older 0) rs (all-each (λ r. is_older 0 r ≡ false) (λ r. le-ltb r.id 0 (omega arith)) rs)

pub older-all : (n : ℕ) (rs : List Record) → AllByRecursion (λ r. r.id < n) rs → older n rs ≡ rs
older-all n [] all = refl
older-all n (r ∷ rs) all = ap (λ b. cond b (r ∷ older n rs) (older n rs)) (lt-ltb r.id n all.0) ∙ ap (λ l. r ∷ l) (older-all n rs all.1)

-- where no record has the number as its id
pub older-none : (n : ℕ) (rs : List Record) → AllByRecursion (λ r. has_id n r ≡ false) rs → older (suc n) rs ≡ older n rs
older-none n [] all = refl
older-none n (r ∷ rs) all = ap (λ b. cond b (r ∷ older (suc n) rs) (older (suc n) rs)) (lt-suc r.id n all.0) ∙ ap (λ l. cond (is_older n r) (r ∷ l) l) (older-none n rs all.1)

-- those that come after the record of an id have others
others : (n : ℕ) (r : Record) (rs : List Record) → has_id n r ≡ true → AllByRecursion (λ t. r.id ≢ t.id) rs → AllByRecursion (λ t. has_id n t ≡ false) rs
others n r rs is apart = all-map (λ t. r.id ≢ t.id) (λ t. has_id n t ≡ false) (λ t ne. false_from_ne_true (has_id n t) (λ same. ne (eqb-true r.id n is ∙ sym (eqb-true t.id n same)))) rs apart

-- the record of an id is the only one
pub one_of_id : (n : ℕ) (rs : List Record) (r : Record) → HaveOwnIds rs → find (has_id n) rs ≡ Some r → filter (has_id n) rs ≡ r ∷ []
one_of_id n [] r apart e = absurd (none_some r e)
one_of_id n (t ∷ ts) r apart e = by (has_id n t) refl (one_of_id n ts r apart.1)
  where
    by : (b : Bool) → has_id n t ≡ b → (find (has_id n) ts ≡ Some r → filter (has_id n) ts ≡ r ∷ []) → filter (has_id n) (t ∷ ts) ≡ r ∷ []
    by true is next =
        ap (λ b. cond b (t ∷ filter (has_id n) ts) (filter (has_id n) ts)) is
        ∙ ap (λ l. t ∷ l) (filter-none (has_id n) ts (others n t ts is apart.0))
        ∙ ap (λ x. x ∷ []) (find-here (has_id n) t ts r is e)
    by false is next = ap (λ b. cond b (t ∷ filter (has_id n) ts) (filter (has_id n) ts)) is ∙ next (find-past (has_id n) t ts r is e)

-- a record that comes before all others comes first
with_record-first : (r : Record) (rs : List Record) → AllByRecursion (λ t. record_cmp r t ≡ Less) rs → with_record r rs ≡ r ∷ rs
with_record-first r [] all = refl
with_record-first r (t ∷ ts) all = ap (λ o. if is_lt o then r ∷ t ∷ ts else t ∷ with_record r ts) all.0

module _ (n : ℕ) (t : Record) (ts : List Record) (r : Record) where
  -- it is the first record
  more-here : has_id n t ≡ true → t ≡ r → AllByRecursion (λ u. t.id ≢ u.id) ts → AllByRecursion (λ u. record_cmp t u ≡ Less) ts → with_record r (older n (t ∷ ts)) ≡ older (suc n) (t ∷ ts)
  more-here is same apart sorted =
      ap (λ b. with_record r (cond b (t ∷ older n ts) (older n ts))) (le-ltb t.id n (omega (arith, id)))
      ∙ ap (λ x. with_record x (older n ts)) (sym same)
      ∙ with_record-first t (older n ts) (all-filter (λ u. record_cmp t u ≡ Less) (is_older n) ts sorted)
      ∙ ap (λ l. t ∷ l) (sym (older-none n ts (others n t ts is apart)))
      ∙ sym (ap (λ b. cond b (t ∷ older (suc n) ts) (older (suc n) ts)) (lt-ltb t.id (suc n) (omega (arith, id))))
    where
      id : t.id ≡ n
      id = eqb-true t.id n is

  -- it comes after the first record
  more-past : has_id n t ≡ false → record_cmp t r ≡ Less → with_record r (older n ts) ≡ older (suc n) ts → with_record r (older n (t ∷ ts)) ≡ older (suc n) (t ∷ ts)
  more-past out before next = by (is_older n t) refl
    where
      after : record_cmp r t ≡ Greater
      after = record_cmp_total.antisymm r t ∙ ap ordering_reverse before

      by : (b : Bool) → is_older n t ≡ b → with_record r (older n (t ∷ ts)) ≡ older (suc n) (t ∷ ts)
      by true is =
          ap (λ b. with_record r (cond b (t ∷ older n ts) (older n ts))) is
          ∙ ap (λ o. if is_lt o then r ∷ t ∷ older n ts else t ∷ with_record r (older n ts)) after
          ∙ ap (λ l. t ∷ l) next
          ∙ sym (ap (λ b. cond b (t ∷ older (suc n) ts) (older (suc n) ts)) (lt-suc t.id n out ∙ is))
      by false is =
          ap (λ b. with_record r (cond b (t ∷ older n ts) (older n ts))) is
          ∙ next
          ∙ sym (ap (λ b. cond b (t ∷ older (suc n) ts) (older (suc n) ts)) (lt-suc t.id n out ∙ is))

-- where a record has it, that record comes to its place
pub older-more : (n : ℕ) (rs : List Record) (r : Record) → HaveOwnIds rs → IsStrictlySortedBy record_cmp rs → find (has_id n) rs ≡ Some r → with_record r (older n rs) ≡ older (suc n) rs
unfolding IsStrictlySortedBy
older-more n [] r apart sorted e = absurd (none_some r e)
older-more n (t ∷ ts) r apart sorted e = by (has_id n t) refl (older-more n ts r apart.1 sorted.1)
  where
    by : (b : Bool) → has_id n t ≡ b → (find (has_id n) ts ≡ Some r → with_record r (older n ts) ≡ older (suc n) ts) → with_record r (older n (t ∷ ts)) ≡ older (suc n) (t ∷ ts)
    by true is next = more-here n t ts r is (find-here (has_id n) t ts r is e) apart.0 sorted.0
    by false is next =
        let found = find-past (has_id n) t ts r is e in
        more-past n t ts r is (find-all (λ u. record_cmp t u ≡ Less) (has_id n) ts r found sorted.0) (next found)

-- ---- tests that one record passes

-- each record that passes is the one that is found
abbrev pub FindsEach : (Record → Bool) → List Record → Type 0
FindsEach p rs = AllByRecursion (λ t. p t ≡ true → find p rs ≡ Some t) rs

older-below : (n : ℕ) (rs : List Record) → AllByRecursion (λ r. r.id < n) (older n rs)
older-below n rs = all-kept (is_older n) (λ r. r.id < n) rs (all-each (λ r. is_older n r ≡ true → r.id < n) (λ r is. ltb-true r.id n is) rs)

-- none below the id of the one that is found passes
pub none-older : (n : ℕ) (p : Record → Bool) (rs : List Record) (r : Record) → FindsEach p rs → find p rs ≡ Some r → n ≤ r.id → list_any p (older n rs) ≡ false
none-older n p rs r alone e high =
    list_any-none p (older n rs) (all-map (λ t. (t.id < n) × (p t ≡ true → find p rs ≡ Some t)) (λ t. p t ≡ false)
    (λ t h. false_from_ne_true (p t) (λ is. other t h.0 (some_same t r (sym (h.1 is) ∙ e))))
    (older n rs) (all-both (λ t. t.id < n) (λ t. p t ≡ true → find p rs ≡ Some t) (older n rs) (older-below n rs) (all-filter (λ t. p t ≡ true → find p rs ≡ Some t) (is_older n) rs alone)))
  where
    other : (t : Record) → t.id < n → t ≡ r → ⊥
    other t low same = let one : t.id ≡ r.id = ap (λ (x : Record). x.id) same in absurd (omega (arith, low, high, one))

-- the key of a record is no other's
pub finds-named : (place : ℕ) (key : Bytes) (rs : List Record) → IsStrictlySortedBy record_cmp rs → FindsEach (is_named place key) rs
finds-named place key rs sorted = all-map (λ t. record_at t.namespace t.key rs ≡ Some t) (λ t. is_named place key t ≡ true → record_at place key rs ≡ Some t) by rs (own_found rs sorted)
  where
    by : (t : Record) → record_at t.namespace t.key rs ≡ Some t → is_named place key t ≡ true → record_at place key rs ≡ Some t
    by t own is =
        let h = and_parts (t.namespace == place) (bytes_eq t.key key) is in
        subst (λ (k : Bytes). record_at place k rs ≡ Some t) ((bytes_eq-Decides t.key key).0 h.1) (subst (λ (m : ℕ). record_at m t.key rs ≡ Some t) (eqb-true t.namespace place h.0) own)

-- nor is the slot of an active one
pub finds-active : (slot : ℕ) (rs : List Record) → AllPairwise AreApart rs → FindsEach (is_slot slot) rs
finds-active slot [] apart = tt
finds-active slot (t ∷ ts) apart = (
  λ is. ap (λ b. cond b (Some t) (active_at slot ts)) is,
  all-map (λ u. AreApart t u × (is_slot slot u ≡ true → active_at slot ts ≡ Some u)) (λ u. is_slot slot u ≡ true → active_at slot (t ∷ ts) ≡ Some u)
      (λ u h is. ap (λ b. cond b (Some t) (active_at slot ts)) (false_from_ne_true (is_slot slot t) (λ held. true≢false (sym is ∙ h.0 slot held))) ∙ h.1 is)
      ts (all-both (AreApart t) (λ u. is_slot slot u ≡ true → active_at slot ts ≡ Some u) ts apart.0 (finds-active slot ts apart.1)),
)

-- ---- what stands on committed records

-- the keys of committed records whose ids are below the number
abbrev pub IsOlder : List Record → ℕ → ℕ → Bytes → Type 0
IsOlder rs n place key = (r : Record) → committed_at place key rs ≡ Some r → r.id < n

-- a parent that is older than a record with an id up to the number
pub on_older : (rs : List Record) (n place : ℕ) (parent : Bytes) (id : ℕ) → id ≤ n → HasOlderParent rs place parent id → OnParent (IsOlder rs n) place parent
on_older rs n place [] id le h = tt
on_older rs n place (b ∷ bs) id le h = λ r e. let low : r.id < id = subst (λ (o : Option Record). IsSomeAnd o (λ p. p.id < id)) e h in omega (arith, low, le)

-- they are kept, since each has its parent below it
pub keeps_older : (rs : List Record) (n : ℕ) → AllByRecursion (IsRising rs) rs → KeepsFor (IsOlder rs n) rs (older n rs)
keeps_older rs n rising = record {
  same = λ place key r low e.
      let h = committed-parts (record_at place key rs) r e in
      committed-from (record_at place key (older n rs)) r (find-filter (is_older n) (is_named place key) rs r (lt-ltb r.id n (low r e)) h.0) h.1;
  above = λ place key r low e.
      let found = committed_at-record_at place key rs r e in
      let named = and_parts (r.namespace == place) (bytes_eq r.key key) (record_at-is_named place key rs r found) in
      subst (λ (m : ℕ). OnParent (IsOlder rs n) m r.parent) (eqb-true r.namespace place named.0)
      (on_older rs n r.namespace r.parent r.id (below r (low r e)) (record_at-all (IsRising rs) place key rs r found rising));
}
  where
    below : (r : Record) → r.id < n → r.id ≤ n
    below r low = omega (arith, low)

-- ---- the charge

-- what covers a sum covers its second part
covers_part : (limit rest part : Usage) → Covers limit (plus rest part) → Covers limit part
covers_part limit rest part a = record { blocks = omega (arith, a.blocks); inodes = omega (arith, a.inodes) }

-- a limit that covers the charge of all covers that of some
pub covers-older : (limit : Usage) (place n : ℕ) (rs : List Record) → Covers limit (charge_of place rs) → Covers limit (charge_of place (older n rs))
covers-older limit place n rs a =
    covers_part limit (charge_of place (filter (λ r. not (is_older n r)) rs)) (charge_of place (older n rs)) (subst (λ (u : Usage). Covers limit u) (charge_of-filter place (is_older n) rs) a)

-- The lowest free slot.
use Rattle.std.proofs.Common.{◌≡◌, ◌≢◌, ℕ, zero, suc, ◌<◌, ◌≤◌, leb, List, [], ◌∷◌, Bool, true, false, true≢false, Some, None, refl, sym, ap, ◌∙◌, subst, ⊎_elim, arith}
use Rattle.std.proofs.lemmas.Bool.Decides.{eqb_tells, leb_tells}
use Rattle.std.specs.Prelude.{◌==◌, if◌then◌else◌, Option}
use Rattle.std.specs.List.{list_any}
use Rattle.std.specs.Option.{option_or}
use Rattle.snap_record.specs.declared.record.Record.{Record}
use Rattle.snap_call.specs.Records.{is_slot, active_at, lowest_free}

-- a snapshot is active in the slot
abbrev pub is_taken : ℕ → List Record → Bool
is_taken slot rs = list_any (is_slot slot) rs

-- the slot that was found below n, or n where it is free
abbrev or_if : Option ℕ → Bool → ℕ → Option ℕ
or_if o taken n = option_or o (if taken then None else Some n)

-- a slot is free where no record is found in it
pub is_taken-None : (slot : ℕ) (rs : List Record) → is_taken slot rs ≡ false → active_at slot rs ≡ None
is_taken-None slot [] e = refl
is_taken-None slot (r ∷ rs) e = at (is_slot slot r) refl (is_taken-None slot rs)
  where
    at : (b : Bool) → is_slot slot r ≡ b → (is_taken slot rs ≡ false → active_at slot rs ≡ None) → active_at slot (r ∷ rs) ≡ None
    at true is next = absurd (true≢false (rw is at e))
    at false is next = rw is (next (rw is at e))

-- and it is taken where one is
pub is_taken-Some : (slot : ℕ) (rs : List Record) → is_taken slot rs ≡ true → (r : Record) × (active_at slot rs ≡ Some r)
is_taken-Some slot [] e = absurd (true≢false (sym e))
is_taken-Some slot (r ∷ rs) e = at (is_slot slot r) refl (is_taken-Some slot rs)
  where
    at : (b : Bool) → is_slot slot r ≡ b → (is_taken slot rs ≡ true → (t : Record) × (active_at slot rs ≡ Some t)) → (t : Record) × (active_at slot (r ∷ rs) ≡ Some t)
    at true is next = (r, rw is refl)
    at false is next = let f = next (rw is at e) in (f.0, rw is f.1)

-- below any number
none_below : (n : ℕ) (rs : List Record) → lowest_free n rs ≡ None → (k : ℕ) → k < n → is_taken k rs ≡ true
unfolding lowest_free
none_below zero rs e k lt = absurd (omega arith)
none_below (suc n) rs e k lt = at (lowest_free n rs) (is_taken n rs) refl refl e (none_below n rs)
  where
    at : (o : Option ℕ) (b : Bool) → lowest_free n rs ≡ o → is_taken n rs ≡ b → or_if o b n ≡ None → (lowest_free n rs ≡ None → (j : ℕ) → j < n → is_taken j rs ≡ true) → is_taken k rs ≡ true
    at (Some m) b low is e next = absurd (cc)
    at None false low is e next = absurd (cc)
    at None true low is e next =
        ⊎_elim
        (λ (h : ((k == n) ≡ true) × (k ≡ n)). ap (λ j. is_taken j rs) h.1 ∙ is)
        (λ (h : ((k == n) ≡ false) × (k ≢ n)). next low k (let p = h.1 in omega arith))
        (eqb_tells k n)

abbrev IsLowest : ℕ → ℕ → List Record → Type 0
IsLowest n slot rs = (slot < n) × (is_taken slot rs ≡ false) × ((k : ℕ) → k < slot → is_taken k rs ≡ true)

lowest_below : (n : ℕ) (rs : List Record) (slot : ℕ) → lowest_free n rs ≡ Some slot → IsLowest n slot rs
unfolding lowest_free
lowest_below zero rs slot e = absurd (cc)
lowest_below (suc n) rs slot e = at (lowest_free n rs) (is_taken n rs) refl refl e (lowest_below n rs slot)
  where
    at : (o : Option ℕ) (b : Bool) → lowest_free n rs ≡ o → is_taken n rs ≡ b → or_if o b n ≡ Some slot → (lowest_free n rs ≡ Some slot → IsLowest n slot rs) → IsLowest (suc n) slot rs
    at (Some m) b low is e next = let h = next (low ∙ e) in (omega (arith, h.0), h.1, h.2)
    at None false low is e next = let P : ℕ → Type 0 = λ k. IsLowest (suc n) k rs in subst P (cc) (omega arith, is, none_below n rs low)
    at None true low is e next = absurd (cc)

found_below : (n : ℕ) (rs : List Record) (k : ℕ) → lowest_free k rs ≡ None → is_taken k rs ≡ false → k < n → lowest_free n rs ≡ Some k
unfolding lowest_free
found_below zero rs k low is lt = absurd (omega arith)
found_below (suc n) rs k low is lt = at (found_below n rs k low is)
  where
    at : (k < n → lowest_free n rs ≡ Some k) → or_if (lowest_free n rs) (is_taken n rs) n ≡ Some k
    at next =
        ⊎_elim
        (λ (h : ((n == k) ≡ true) × (n ≡ k)). ap (λ j. or_if (lowest_free j rs) (is_taken j rs) j) h.1 ∙ rw (low, is) refl)
        (λ (h : ((n == k) ≡ false) × (n ≢ k)). ap (λ o. or_if o (is_taken n rs) n) (next (let p = h.1 in omega arith)))
        (eqb_tells n k)

past : (k : ℕ) (rs : List Record) → lowest_free k rs ≡ None → is_taken k rs ≡ true → lowest_free (suc k) rs ≡ None
unfolding lowest_free
past k rs low is = rw (low, is) refl

-- the lowest free slot below a number: no record is in it, and one is in each slot below it
pub lowest_free-Some : (n : ℕ) (rs : List Record) (slot : ℕ) → lowest_free n rs ≡ Some slot → (slot < n) × (active_at slot rs ≡ None) × ((k : ℕ) → k < slot → (r : Record) × (active_at k rs ≡ Some r))
lowest_free-Some n rs slot e =
    let h = lowest_below n rs slot e in
    (h.0, is_taken-None slot rs h.1, λ k lt. is_taken-Some k rs (h.2 k lt))

-- where there is none, a record is in each
pub lowest_free-None : (n : ℕ) (rs : List Record) → lowest_free n rs ≡ None → (k : ℕ) → k < n → (r : Record) × (active_at k rs ≡ Some r)
lowest_free-None n rs e k lt = is_taken-Some k rs (none_below n rs e k lt)

-- for a loop over the slots: at the start, at a free slot, past slots that are taken, and at the end
pub lowest_free-start : (rs : List Record) → lowest_free 0 rs ≡ None
unfolding lowest_free
lowest_free-start rs = refl

pub lowest_free-found : (n k : ℕ) (rs : List Record) → lowest_free k rs ≡ None → is_taken k rs ≡ false → k < n → lowest_free n rs ≡ Some k
lowest_free-found n k rs low is lt = found_below n rs k low is lt

none_where : (n : ℕ) (rs : List Record) → ((k : ℕ) → k < n → is_taken k rs ≡ true) → lowest_free n rs ≡ None
unfolding lowest_free
none_where zero rs taken = refl
none_where (suc n) rs taken = past n rs (none_where n rs (λ k lt. taken k (omega arith))) (taken n (omega arith))

pub lowest_free-past : (k n : ℕ) (rs : List Record) → lowest_free k rs ≡ None → ((j : ℕ) → k ≤ j → j < n → is_taken j rs ≡ true) → lowest_free n rs ≡ None
lowest_free-past k n rs low taken = none_where n rs (λ j lt. ⊎_elim
    (λ (h : (leb k j ≡ true) × (k ≤ j)). taken j h.1 lt)
    (λ (h : (leb k j ≡ false) × (j < k)). none_below k rs low j h.1)
    (leb_tells k j))

pub lowest_free-end : (k n : ℕ) (rs : List Record) → lowest_free k rs ≡ None → n ≤ k → lowest_free n rs ≡ None
lowest_free-end k n rs low most = none_where n rs (λ j lt. none_below k rs low j (omega arith))

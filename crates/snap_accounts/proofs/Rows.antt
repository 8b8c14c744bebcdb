-- The charges of all slots.
use Rattle.std.proofs.Common.{◌≡◌, ◌≢◌, ℕ, zero, suc, ◌<◌, List, [], ◌∷◌, ◌++◌, length, get_or, set, true, false, Some, eqb, sym, refl, ap, ◌∙◌, subst, ⊎_elim, arith, length-append}
use Rattle.std.specs.Prelude.{slice_get}
use Rattle.std.proofs.lemmas.Bool.Decides.{eqb_tells}
use Rattle.std.proofs.lemmas.List.{get_or-set_same, get_or-set_other, length-set}
use Rattle.snap_ledger.specs.States.{ChargeState, free_charge, free_row}
use Rattle.snap_call.specs.Records.{max_slots}
use Rattle.snap_accounts.specs.Slots.{charge_in, IsRow}

-- an item that is found is the one at its place
pub slice_get-found : {A : Type 0} → (xs : List A) (i : ℕ) (x d : A) → slice_get xs i ≡ Some x → get_or xs i d ≡ x
slice_get-found [] i x d e = absurd (cc)
slice_get-found (z ∷ xs) zero x d e = cc
slice_get-found (z ∷ xs) (suc i) x d e = slice_get-found xs i x d e

pub get_or-default : {A : Type 0} → (xs : List A) (i : ℕ) (c d : A) → i < length xs → get_or xs i c ≡ get_or xs i d
get_or-default [] i c d lt = absurd (omega arith)
get_or-default (z ∷ xs) zero c d lt = refl
get_or-default (z ∷ xs) (suc i) c d lt = get_or-default xs i c d (omega arith)

-- the charge at a place of the row is that of the slot
pub found-in : (charges : List ChargeState) (i slot : ℕ) (x : ChargeState) → i ≡ slot → IsRow charges → slot < max_slots → x ≡ get_or charges i x → x ≡ charge_in charges slot
found-in charges i slot x e row low at =
    let inside : slot < length charges = (let p = row.count in omega arith) in
    at ∙ ap (λ (k : ℕ). get_or charges k x) e ∙ get_or-default charges slot x (free_charge slot) inside

pub slot-found : (charges : List ChargeState) (i slot : ℕ) (x : ChargeState) → i ≡ slot → IsRow charges → slot < max_slots → x ≡ get_or charges i x → slot ≡ x.slot
slot-found charges i slot x e row low at = sym (ap (λ (c : ChargeState). c.slot) (found-in charges i slot x e row low at) ∙ row.places slot low)

-- a row with one charge in its place changed
pub row-set : (charges : List ChargeState) (slot : ℕ) (x : ChargeState) → IsRow charges → slot < max_slots → x.slot ≡ slot → IsRow (set charges slot x)
row-set charges slot x row low e = record {
  count = length-set charges slot x ∙ row.count;
  places = λ k lt. ⊎_elim
      (λ (h : (eqb k slot ≡ true) × (k ≡ slot)).
      let inside : slot < length charges = (let p = row.count in omega arith) in
      let P : ℕ → Type 0 = λ j. (get_or (set charges slot x) j (free_charge j)).slot ≡ j in
      subst P (sym h.1) (ap (λ (c : ChargeState). c.slot) (get_or-set_same charges slot x (free_charge slot) inside) ∙ e))
      (λ (h : (eqb k slot ≡ false) × (k ≢ slot)).
      ap (λ (c : ChargeState). c.slot) (get_or-set_other charges slot k x (free_charge k) h.1) ∙ row.places k lt)
      (eqb_tells k slot);
}

-- a row of free charges

past_row : (xs : List ChargeState) (x : ChargeState) (k : ℕ) → k ≡ length xs → slice_get (xs ++ x ∷ []) k ≡ Some x
past_row [] x zero e = refl
past_row [] x (suc k) e = absurd (omega arith)
past_row (y ∷ ys) x zero e = absurd (omega arith)
past_row (y ∷ ys) x (suc k) e = past_row ys x k (omega arith)

in_row : (xs : List ChargeState) (x y : ChargeState) (k : ℕ) → slice_get xs k ≡ Some y → slice_get (xs ++ x ∷ []) k ≡ Some y
in_row [] x y k e = absurd (cc)
in_row (z ∷ zs) x y zero e = e
in_row (z ∷ zs) x y (suc k) e = in_row zs x y k e

length-free_row : (n : ℕ) → length (free_row n) ≡ n
length-free_row zero = refl
length-free_row (suc n) = let h = length-free_row n in omega (arith, length-append (free_row n) (free_charge n ∷ []))

pub free_row-get : (n k : ℕ) → k < n → slice_get (free_row n) k ≡ Some (free_charge k)
free_row-get zero k lt = absurd (omega arith)
free_row-get (suc n) k lt =
    ⊎_elim
    (λ (h : (eqb k n ≡ true) × (k ≡ n)). let P : ℕ → Type 0 = λ j. slice_get (free_row n ++ free_charge n ∷ []) j ≡ Some (free_charge j) in
    subst P (sym h.1) (past_row (free_row n) (free_charge n) n (sym (length-free_row n))))
    (λ (h : (eqb k n ≡ false) × (k ≢ n)). in_row (free_row n) (free_charge n) (free_charge k) k (free_row-get n k (let p = h.1 in omega arith)))
    (eqb_tells k n)

pub row-free : IsRow (free_row max_slots)
row-free = record {
  count = length-free_row max_slots;
  places = λ k lt. ap (λ (c : ChargeState). c.slot) (slice_get-found (free_row max_slots) k (free_charge k) (free_charge k) (free_row-get max_slots k lt));
}

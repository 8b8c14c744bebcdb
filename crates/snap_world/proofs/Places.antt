-- The hand of a slot, after a change of the hands.
use Rattle.std.proofs.Common.{◌≡◌, ◌≢◌, ℕ, zero, suc, ◌<◌, List, [], ◌∷◌, length, Option, None, Some, refl, sym, ap, ◌∙◌, arith}
use Rattle.std.proofs.lemmas.List.{get_or-set_same, get_or-set_other}
use Rattle.snap_world.specs.World.{HandValue, hand_at, with_hand}

-- what was put there stands there
pub hand_at-own : (slot : ℕ) (h : Option HandValue) (hands : List (Option HandValue)) → slot < length hands → hand_at slot (with_hand slot h hands) ≡ h
hand_at-own slot h hands low = get_or-set_same hands slot h None low

-- the others stay
pub hand_at-other : (k slot : ℕ) (h : Option HandValue) (hands : List (Option HandValue)) → k ≢ slot → hand_at k (with_hand slot h hands) ≡ hand_at k hands
hand_at-other k slot h hands other = get_or-set_other hands slot k h None other

-- the last change of a place counts
pub with_hand-twice : (slot : ℕ) (g h : Option HandValue) (hands : List (Option HandValue)) → with_hand slot h (with_hand slot g hands) ≡ with_hand slot h hands
with_hand-twice zero g h [] = refl
with_hand-twice zero g h (x ∷ xs) = refl
with_hand-twice (suc k) g h [] = refl
with_hand-twice (suc k) g h (x ∷ xs) = ap (λ (l : List (Option HandValue)). x ∷ l) (with_hand-twice k g h xs)

-- what stands there put there again
pub with_hand-same : (slot : ℕ) (hands : List (Option HandValue)) → with_hand slot (hand_at slot hands) hands ≡ hands
with_hand-same zero [] = refl
with_hand-same zero (x ∷ xs) = refl
with_hand-same (suc k) [] = refl
with_hand-same (suc k) (x ∷ xs) = ap (λ (l : List (Option HandValue)). x ∷ l) (with_hand-same k xs)

pub with_hand-again : (slot : ℕ) (h : Option HandValue) (hands : List (Option HandValue)) → hand_at slot hands ≡ h → with_hand slot h hands ≡ hands
with_hand-again slot h hands e = ap (λ (o : Option HandValue). with_hand slot o hands) (sym e) ∙ with_hand-same slot hands

-- a hand that comes back into its place
pub back_again : (hands out after : List (Option HandValue)) (slot : ℕ) (h : HandValue) → hand_at slot hands ≡ Some h → out ≡ with_hand slot None hands → after ≡ with_hand slot (Some h) out → after ≡ hands
back_again hands out after slot h at gone back =
    back ∙ (ap (λ (l : List (Option HandValue)). with_hand slot (Some h) l) gone ∙ (with_hand-twice slot None (Some h) hands ∙ with_hand-again slot (Some h) hands at))

-- a hand stands in one of the places
pub hand_at-low : (slot : ℕ) (h : HandValue) (hands : List (Option HandValue)) → hand_at slot hands ≡ Some h → slot < length hands
hand_at-low zero h [] e = absurd (cc)
hand_at-low zero h (x ∷ xs) e = omega arith
hand_at-low (suc k) h [] e = absurd (cc)
hand_at-low (suc k) h (x ∷ xs) e = let p = hand_at-low k h xs e in omega arith

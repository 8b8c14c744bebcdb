-- What is cut: where a text is cut, what stays as it is, and what is too long still.
use Rattle.std.proofs.Common.{◌≡◌, ℕ, zero, suc, ◌+◌, ◌<◌, ◌≤◌, Bool, true, false, [], ◌∷◌, length, take, refl, sym, ap, ◌∙◌, arith}
use Rattle.std.specs.Prelude.{if◌then◌else◌, ◌&&◌, nat_le, nat_lt}
use Rattle.std.specs.Str.{IsCharBoundary}
use Rattle.std.proofs.lemmas.Bool.Decides.{nat_tests}
use Rattle.snap_record.specs.Labels.{Bytes}
use Rattle.snap_record.specs.Cut.{is_inner, rest_of_character, cut}

-- a byte where no character begins is within one
inner_at : (b : ℕ) → ¬ ((128 ≤ b → 192 ≤ b)) → is_inner b ≡ true
inner_at b inside = by (nat_le 128 b) (nat_lt b 192) refl refl
  where
    by : (low high : Bool) → nat_le 128 b ≡ low → nat_lt b 192 ≡ high → low && high ≡ true
    by true true e f = refl
    by true false e f = absurd (inside (λ h. grind (arith, nat_tests)))
    by false high e f = absurd (inside (λ h. grind (arith, nat_tests)))

outer_at : (b : ℕ) → (128 ≤ b → 192 ≤ b) → is_inner b ≡ false
outer_at b begins = by (nat_le 128 b) (nat_lt b 192) refl refl
  where
    by : (low high : Bool) → nat_le 128 b ≡ low → nat_lt b 192 ≡ high → low && high ≡ false
    by true true e f =
        let above : 128 ≤ b = grind (arith, nat_tests) in
        let beyond : 192 ≤ b = begins above in
        let below : b < 192 = grind (arith, nat_tests) in
        absurd (omega arith)
    by true false e f = refl
    by false high e f = refl

-- the rest of a character ends at the next boundary
rest_to : (bs : Bytes) (n : ℕ) → IsCharBoundary bs n → ((i : ℕ) → i < n → ¬ (IsCharBoundary bs i)) → take n bs ≡ rest_of_character bs
rest_to [] zero at none = refl
rest_to [] (suc n) at none = refl
rest_to (b ∷ bs) zero at none = sym (ap (λ inner. if inner then b ∷ rest_of_character bs else []) (outer_at b (at.1 (omega arith))))
rest_to (b ∷ bs) (suc n) at none =
    ap (λ rest. b ∷ rest) (rest_to bs n (omega arith, λ low. at.1 (omega arith)) (λ i low here. none (suc i) (omega arith) (omega arith, λ inside. here.1 (omega arith))))
    ∙ sym (ap (λ inner. if inner then b ∷ rest_of_character bs else []) (inner_at b (λ begins. none 0 (omega arith) (omega arith, λ inside. begins))))

-- a text is cut at the first boundary above this number of bytes
pub cut_at : (bs : Bytes) (most n : ℕ) → most < n → IsCharBoundary bs n → ((i : ℕ) → most + 1 ≤ i → i < n → ¬ (IsCharBoundary bs i)) → take n bs ≡ cut most bs
unfolding cut
cut_at [] most zero low at none = refl
cut_at [] most (suc n) low at none = refl
cut_at (b ∷ bs) zero (suc n) low at none =
    ap (λ rest. b ∷ rest) (rest_to bs n (omega arith, λ inside. at.1 (omega arith)) (λ i below here. none (suc i) (omega arith) (omega arith) (omega arith, λ inside. here.1 (omega arith))))
cut_at (b ∷ bs) (suc most) (suc n) low at none =
    ap (λ rest. b ∷ rest) (cut_at bs most n (omega arith) (omega arith, λ inside. at.1 (omega arith)) (λ i above below here. none (suc i) (omega arith) (omega arith) (omega arith, λ inside. here.1 (omega arith))))
cut_at (b ∷ bs) most zero low at none = absurd (omega arith)

-- a text within the limit stays as it is
pub cut_within : (most : ℕ) (bs : Bytes) → length bs ≤ most → cut most bs ≡ bs
unfolding cut
cut_within most [] short = refl
cut_within zero (b ∷ bs) short = absurd (omega arith)
cut_within (suc most) (b ∷ bs) short = ap (λ rest. b ∷ rest) (cut_within most bs (omega arith))

-- a text above it stays above it
pub cut_above : (most : ℕ) (bs : Bytes) → most < length bs → most < length (cut most bs)
unfolding cut
cut_above most [] long = absurd (omega arith)
cut_above zero (b ∷ bs) long = omega arith
cut_above (suc most) (b ∷ bs) long = let h = cut_above most bs (omega arith) in omega arith

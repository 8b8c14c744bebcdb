-- What is seen at and below a path.
use Rattle.std.proofs.Common.{◌≡◌, ◌≤◌, ◌+◌, ◌-◌, ◌++◌, ℕ, zero, suc, arith, List, [], ◌∷◌, Some, None, refl, sym, ap, subst, ◌∙◌}
use Rattle.std.specs.List.{flat_map}
use Rattle.snap_path.specs.Text.{Names}
use Rattle.snap_layer.specs.Tree.{Tree}
use Rattle.snap_merge.specs.declared.taken.FileAt.{FileAt}
use Rattle.snap_merge.specs.declared.taken.Part.TheVariants as parts
use Rattle.snap_merge.specs.Listing.{names}
use Rattle.std.proofs.Math.Nat.{add-zero, min-eq_left}
use Rattle.snap_merge.specs.Taken.{capped, part, parts_below, with_inside}

-- a number of 64 bits is below the cap
pub capped_end : (n m : ℕ) → n ≤ 18446744073709551615 → capped (n + 0) ≡ m → n ≡ m
capped_end n m fits same = sym (min-eq_left fits) ∙ ap capped (sym (add-zero n)) ∙ same

-- a directory with what is in it
pub dir_below : (n : ℕ) (s : List Tree) (p : Names) → (n ≡ 0 → ⊥) → part 0 s p ≡ Some parts.Dir → parts_below n s p ≡ parts.Dir ∷ flat_map (λ name. parts_below (n - 1) s (p ++ name ∷ [])) (names s p)
unfolding parts_below
dir_below zero s p more is = absurd (more refl)
dir_below (suc n) s p more is =
    let less : n ≡ suc n - 1 = omega arith in
    subst (λ (k : ℕ). parts_below (suc n) s p ≡ parts.Dir ∷ flat_map (λ name. parts_below k s (p ++ name ∷ [])) (names s p)) less
    (ap (with_inside (flat_map (λ name. parts_below n s (p ++ name ∷ [])) (names s p))) is)

-- nothing, or a file or a symlink alone
pub none_below : (n : ℕ) (s : List Tree) (p : Names) → (n ≡ 0 → ⊥) → part 0 s p ≡ None → parts_below n s p ≡ []
unfolding parts_below
none_below zero s p more is = refl
none_below (suc n) s p more is = ap (with_inside (flat_map (λ name. parts_below n s (p ++ name ∷ [])) (names s p))) is

pub file_below : (n : ℕ) (s : List Tree) (p : Names) (f : FileAt) → (n ≡ 0 → ⊥) → part 0 s p ≡ Some (parts.File f) → parts_below n s p ≡ parts.File f ∷ []
unfolding parts_below
file_below zero s p f more is = absurd (more refl)
file_below (suc n) s p f more is = ap (with_inside (flat_map (λ name. parts_below n s (p ++ name ∷ [])) (names s p))) is

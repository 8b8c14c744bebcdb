-- Whether moved paths are short enough.
use Rattle.std.proofs.Common.{◌≡◌, ℕ, ◌+◌, ◌-◌, ◌≤◌, Bool, true, false, cond, [], ◌∷◌, ◌++◌, length, length-append, drop, IsSome, refl, sym, ap, ◌∙◌, arith}
use Rattle.std.specs.Prelude.{nat_le, not, ◌||◌, ◌&&◌}
use Rattle.std.specs.List.{list_all}
use Rattle.std.proofs.lemmas.Bool.Decides.{nat_tests}
use Rattle.snap_path.specs.Text.{Names, text_of, text_below, begins}
use Rattle.snap_path.proofs.Texts.{text_below-append}
use Rattle.snap_path.specs.Limits.{most_path_bytes}
use Rattle.snap_layer.specs.Tree.{Tree, Entries, at}
use Rattle.snap_layer.specs.Layers.{IsLayer}
use Rattle.snap_layer.specs.Edits.{inside}
use Rattle.snap_layer.proofs.Paths.{begins_rest}
use Rattle.snap_layer.proofs.Testing.{is_short}
use Rattle.snap_layer.specs.Rows.{is_text_within}

text_is : (p : Names) → (p ≡ [] → ⊥) → text_of p ≡ text_below p
text_is [] some = absurd (some refl)
text_is (n ∷ p) some = refl

-- where the new front is no longer, each path stays short
pub stays_short : (u : Tree) → IsLayer u → (from to : Names) → (from ≡ [] → ⊥) → (to ≡ [] → ⊥) → length (text_of to) ≤ length (text_of from) → (r : Names) → IsSome (at u (from ++ r)) → length (text_below (to ++ r)) ≤ most_path_bytes
stays_short u ok from to one two shorter r some =
    omega (
      arith,
      (ok.paths (from ++ r) some).1,
      shorter,
      ap length (text_is from one),
      ap length (text_is to two),
      ap length (text_below-append to r),
      ap length (text_below-append from r),
      length-append (text_below to) (text_below r),
      length-append (text_below from) (text_below r),
    )

le_shift : (a b c : ℕ) → b ≤ c → nat_le (a + b) c ≡ nat_le a (c - b)
le_shift a b c h = by (nat_le (a + b) c) refl (nat_le a (c - b)) refl
  where
    over : nat_le (a + b) c ≡ true → nat_le a (c - b) ≡ false → ⊥
    over e f = grind (arith, nat_tests)

    under : nat_le (a + b) c ≡ false → nat_le a (c - b) ≡ true → ⊥
    under e f = grind (arith, nat_tests)

    by : (x : Bool) → nat_le (a + b) c ≡ x → (y : Bool) → nat_le a (c - b) ≡ y → x ≡ y
    by true e true f = refl
    by true e false f = absurd (over e f)
    by false e true f = absurd (under e f)
    by false e false f = refl

-- the test of each entry at the front and below it is that of all entries
pub short_inside : (from to : Names) → (from ≡ [] → ⊥) → length (text_of to) ≤ most_path_bytes → (most : ℕ) → most ≡ most_path_bytes + length (text_of from) - length (text_of to) → (es : Entries) → list_all (is_text_within most) (inside from es) ≡ list_all (is_short from to) es
short_inside from to one short most is [] = refl
short_inside from to one short most is (e ∷ es) = by (begins from e.0) refl (short_inside from to one short most is es)
  where
    some : (p q : Names) → p ≡ from ++ q → p ≡ [] → ⊥
    some p q whole none = first from one (sym whole ∙ none)
      where
        first : (xs : Names) → (xs ≡ [] → ⊥) → xs ++ q ≡ [] → ⊥
        first [] apart f = apart refl
        first (x ∷ xs) apart f = cc

    test : begins from e.0 ≡ true → is_text_within most e ≡ nat_le (length (text_of e.0) + length (text_of to)) (most_path_bytes + length (text_of from))
    test below =
        let text : text_of e.0 ≡ text_below e.0 = text_is e.0 (some e.0 (drop (length from) e.0) (begins_rest from e.0 below)) in
        let room : length (text_of to) ≤ most_path_bytes + length (text_of from) = omega arith in
        (λ i. nat_le (length (sym text i)) (is i)) ∙ sym (le_shift (length (text_of e.0)) (length (text_of to)) (most_path_bytes + length (text_of from)) room)

    by : (b : Bool) → begins from e.0 ≡ b → list_all (is_text_within most) (inside from es) ≡ list_all (is_short from to) es
        → list_all (is_text_within most) (cond b (e ∷ inside from es) (inside from es)) ≡ ((not b || nat_le (length (text_of e.0) + length (text_of to)) (most_path_bytes + length (text_of from))) && list_all (is_short from to) es)
    by true below later = λ i. test below i && later i
    by false below later = later

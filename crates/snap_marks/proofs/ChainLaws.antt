-- Sums go on byte by byte.
use Rattle.std.proofs.Common.{◌≡◌, ◌≤◌, ◌<◌, ◌+◌, ◌-◌, ℕ, suc, List, [], ◌∷◌, ◌++◌, length, take, drop, slice_index, true, false, ◌==◌, sym, ap, ◌∙◌, arith, get_or, get_or-drop, length-drop}
use Rattle.std.specs.Prelude.{cond}
use Rattle.std.proofs.lemmas.List.{drop_more}
use lib.Seq.{take-suc}
use Rattle.snap_marks.specs.Marks.{chained, chained_from}

module _ (sum lines : List ℕ) (from at : ℕ) (low : at < length lines) (ordered : from ≤ at) where
  abbrev begun : List ℕ
  begun = take (at - from) (drop from lines)

  byte : ℕ
  byte = slice_index lines at

  next : drop at lines ≡ slice_index lines at ∷ drop (at + 1) lines
  next = drop_more lines at 0 low

  -- a line feed ends the line
  pub ended : (slice_index lines at == 10) ≡ true → chained_from sum begun (drop at lines) ≡ chained_from (chained sum (begun ++ 10 ∷ [])) (take (at + 1 - (at + 1)) (drop (at + 1) lines)) (drop (at + 1) lines)
  ended e =
      let none : at + 1 - (at + 1) ≡ 0 = omega arith in
      ap (chained_from sum begun) next
      ∙ ap (λ t. cond t (chained_from (chained sum (begun ++ 10 ∷ [])) [] (drop (at + 1) lines)) (chained_from sum (begun ++ slice_index lines at ∷ []) (drop (at + 1) lines))) e
      ∙ ap (λ n. chained_from (chained sum (begun ++ 10 ∷ [])) (take n (drop (at + 1) lines)) (drop (at + 1) lines)) (sym none)

  -- and another byte goes on with it
  pub more : (slice_index lines at == 10) ≡ false → chained_from sum begun (drop at lines) ≡ chained_from sum (take (at + 1 - from) (drop from lines)) (drop (at + 1) lines)
  more e =
      let long : at + 1 - from ≡ suc (at - from) = omega (arith, ordered) in
      let within : at - from < length (drop from lines) = omega (arith, ordered, low, length-drop from lines) in
      let place : from + (at - from) ≡ at = omega (arith, ordered) in
      let last : get_or (drop from lines) (at - from) 0 ≡ slice_index lines at = get_or-drop from lines (at - from) 0 ∙ ap (λ i. get_or lines i 0) place in
      let longer : take (at + 1 - from) (drop from lines) ≡ begun ++ slice_index lines at ∷ [] =
      ap (λ n. take n (drop from lines)) long ∙ take-suc (drop from lines) (at - from) 0 within ∙ ap (λ b. begun ++ b ∷ []) last in
      ap (chained_from sum begun) next
      ∙ ap (λ t. cond t (chained_from (chained sum (begun ++ 10 ∷ [])) [] (drop (at + 1) lines)) (chained_from sum (begun ++ slice_index lines at ∷ []) (drop (at + 1) lines))) e
      ∙ ap (λ l. chained_from sum l (drop (at + 1) lines)) (sym longer)

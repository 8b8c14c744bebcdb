-- What bytes that were read say of a file's text.
use Rattle.std.proofs.Common.{◌≡◌, inl, inr, ℕ, ◌+◌, Bool, true, false, List, [], ◌∷◌, ◌++◌, length, take, drop, get_or-drop, append_assoc, refl, sym, ◌∙◌, ap, arith, length-append, length-take, length-drop, take-append-drop}
use Rattle.std.specs.Prelude.{if◌then◌else◌}
use Rattle.std.proofs.lemmas.Bool.{cases_eq}
use Rattle.std.proofs.lemmas.Bool.Decides.{nat_tests}
use Rattle.std.proofs.lemmas.List.{take_at}
use Rattle.sqlite_disk.specs.Disk.{Holds}
use Rattle.snap_log.specs.declared.scan.Place.TheVariants.{Before, Within, Behind}
use Rattle.snap_log.specs.declared.scan.Scan.{Scan}
use Rattle.snap_log.specs.Texts.{has_feed, text_from, log_text}
use Rattle.snap_log.specs.Scans.{at_start, scan_step, scanned}
use Rattle.snap_log.proofs.GateLaws.{front}
use Rattle.snap_log.proofs.TextLaws.{closed}

pub scanned_more : (s : Scan) (xs ys : List ℕ) → scanned s (xs ++ ys) ≡ scanned (scanned s xs) ys
scanned_more s [] ys = refl
scanned_more s (b ∷ xs) ys = scanned_more (scan_step s.end s.at b s.place) xs ys

-- behind the lines nothing more is found
behind : (end n : ℕ) (xs : List ℕ) → (scanned (record { end = end; at = n; place = Behind }) xs).end ≡ end
behind end n [] = refl
behind end n (b ∷ xs) = behind end (n + 1) xs

-- what is found from within a line, or before one
abbrev ends : Bool → ℕ → ℕ → List ℕ → ℕ
ends true end n xs = if has_feed xs then n + length (text_from true xs) else end
ends false end n xs = n + length (log_text xs)

abbrev from : Bool → ℕ → ℕ → Scan
from true end n = record { end = end; at = n; place = Within }
from false end n = record { end = n; at = n; place = Before }

found : (w : Bool) (end n : ℕ) (xs : List ℕ) → (scanned (from w end n) xs).end ≡ ends w end n xs
found true end n [] = refl
found false end n [] = omega arith
found true end n (b ∷ xs) = elim (cases_eq b 10) [
  | inl e ↦ let more : (scanned (from false (n + 1) (n + 1)) xs).end ≡ n + 1 + length (log_text xs) = found false (n + 1) (n + 1) xs in grind (arith, nat_tests)
  | inr other ↦ let more : (scanned (from true end (n + 1)) xs).end ≡ ends true end (n + 1) xs = found true end (n + 1) xs in grind (arith, nat_tests)
]
found false end n (b ∷ xs) = elim (cases_eq b 123) [
  | inl e ↦ let more : (scanned (from true n (n + 1)) xs).end ≡ ends true n (n + 1) xs = found true n (n + 1) xs in grind (arith, nat_tests)
  | inr other ↦ let none : log_text (b ∷ xs) ≡ [] = closed b xs other in let more : (scanned (record { end = n; at = n + 1; place = Behind }) xs).end ≡ n = behind n (n + 1) xs in grind (arith, nat_tests)
]

pub end_is : (file : List ℕ) → (scanned at_start file).end ≡ length (log_text file)
end_is file = let is : (scanned (from false 0 0) file).end ≡ 0 + length (log_text file) = found false 0 0 file in is ∙ omega arith

-- the first bytes of a file, and then those that were read behind them
pub read_on : (file bytes : List ℕ) (n : ℕ) → Holds file n bytes → take (n + length bytes) file ≡ take n file ++ bytes
read_on file bytes n holds =
    let d : List ℕ = drop n file in
    let size : length (take n file) ≡ n = omega (arith, length-take n file, holds.within) in
    let tail : d ≡ bytes ++ drop (length bytes) d = front bytes d (omega (arith, length-drop n file, holds.within)) (λ i low. get_or-drop n file i 0 ∙ holds.each i low) in
    let whole : file ≡ (take n file ++ bytes) ++ drop (length bytes) d = sym (take-append-drop n file) ∙ ap (λ (l : List ℕ). take n file ++ l) tail ∙ sym (append_assoc (take n file) bytes (drop (length bytes) d)) in
    ap (λ (l : List ℕ). take (n + length bytes) l) whole ∙ take_at (take n file ++ bytes) (drop (length bytes) d) (n + length bytes) (length-append (take n file) bytes ∙ ap (λ (k : ℕ). k + length bytes) size)

-- where these bytes lead
pub scanned_on : (s : Scan) (file bytes : List ℕ) (n : ℕ) → Holds file n bytes → s ≡ scanned at_start (take n file) → scanned s bytes ≡ scanned at_start (take (n + length bytes) file)
scanned_on s file bytes n holds is =
    ap (λ (t : Scan). scanned t bytes) is ∙ sym (scanned_more at_start (take n file) bytes) ∙ ap (λ (l : List ℕ). scanned at_start l) (sym (read_on file bytes n holds))

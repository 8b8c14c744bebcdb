-- The bytes of a read, line by line.
use Rattle.std.proofs.Common.{◌≡◌, ◌≤◌, ◌<◌, ◌+◌, ◌-◌, ℕ, suc, List, [], ◌∷◌, ◌++◌, length, take, drop, get_or, true, false, not, ◌==◌, Option, Some, None, refl, sym, ap, ◌∙◌, subst, arith, length-take-le, length-drop, get_or-take, get_or-drop, append-nil}
use Rattle.std.specs.Prelude.{◌&&◌}
use Rattle.std.proofs.lemmas.Bool.{eqb-true, false_from_ne_true}
use Rattle.std.proofs.lemmas.List.{take-append-drop, take_rest}
use lib.Seq.{take-add}
use Rattle.memchr.specs.Find.{IsFirstByte, is_byte}
use Rattle.snap_lines.specs.Effects.{Effects}
use Rattle.snap_lines.specs.Lines.{is_open}
use Rattle.snap_lines.specs.Runs.{Run, Goes, StopsIn, kept_length}
use Rattle.snap_lines.specs.declared.stop.Stop.{Stop}
use Rattle.snap_lines.proofs.LineLaws.{open_cons}
use Rattle.snap_lines.proofs.TranscriptLaws.{goes_trans, goes_stops}
use Rattle.snap_script.specs.Lines.{max_line}

-- no line feed stands in these bytes
abbrev pub Open : List ℕ → Type 0
Open bytes = IsFirstByte (is_byte 10) bytes None

pub open_is : (bytes : List ℕ) → Open bytes → is_open bytes ≡ true
open_is [] o = refl
open_is (b ∷ bytes) o =
    let first : (b == 10) ≡ false = false_from_ne_true (b == 10) (o 0 (omega arith) (omega arith)) in
    ap (λ t. not t && is_open bytes) first ∙ open_is bytes (λ k low high. o (suc k) (omega arith) (omega arith))

pub open_both : (p q : List ℕ) → is_open p ≡ true → is_open q ≡ true → is_open (p ++ q) ≡ true
open_both [] q h k = k
open_both (b ∷ p) q h k =
    let o = open_cons b p h in
    ap (λ t. not t && is_open (p ++ q)) o.head ∙ open_both p q o.tail k

-- p bytes and n more are no more than are kept
pub kept_more : (left : Option ℕ) (p n : ℕ) → p ≤ kept_length left → n ≤ max_line - p → p + n ≤ kept_length left
kept_more None p n h k = omega arith
kept_more (Some left) p n h k = omega arith

module _ (bytes : List ℕ) (i : ℕ) where
  -- the bytes from a place on
  abbrev rest : List ℕ
  rest = drop i bytes

  -- as a slice has them
  pub first_in_rest : (r : Option ℕ) → IsFirstByte (is_byte 10) (take (length bytes - i) rest) r → IsFirstByte (is_byte 10) rest r
  first_in_rest r h = subst (λ l. IsFirstByte (is_byte 10) l r) (take_rest bytes i) h

  -- the bytes from a place to one behind it, as a slice has them
  pub first_slice : (n : ℕ) → take (i + n - i) rest ≡ take n rest
  first_slice n = let len : i + n - i ≡ n = omega arith in ap (λ k. take k rest) len

  -- nothing before the first line feed is one
  pub open_before : (n : ℕ) → IsFirstByte (is_byte 10) rest (Some n) → Open (take n rest)
  open_before n h k low high =
      let len : length (take n rest) ≡ n = length-take-le n rest (omega (arith, h.0.high)) in
      λ p. h.0.before k low (omega arith) (subst (λ v. (v == 10) ≡ true) (get_or-take n rest k 0 (omega arith)) p)

  pub within_rest : (n : ℕ) → IsFirstByte (is_byte 10) rest (Some n) → i + n < length bytes
  within_rest n h = let len = length-drop i bytes in omega (arith, h.0.high)

  pub found : (n : ℕ) → IsFirstByte (is_byte 10) rest (Some n) → 10 ≡ get_or bytes (i + n) 0
  found n h = sym (eqb-true (get_or rest n 0) 10 h.1) ∙ get_or-drop i bytes n 0

  module _ {A : Type 0} (effect : Effects A) (r q : Run A) (x y : Option (List ℕ)) (goes : Goes effect r (take i bytes) q x y) where
    -- up to a place, and on to another
    pub goes_to : (n : ℕ) (s : Run A) (z : Option (List ℕ)) → Goes effect q (take n rest) s y z → Goes effect r (take (i + n) bytes) s x z
    goes_to n s z g = subst (λ (l : List ℕ). Goes effect r l s x z) (sym (take-add i n bytes)) (goes_trans effect r q s (take i bytes) (take n rest) x y z goes g)

    -- up to a place, and on to the end
    pub goes_on : (s : Run A) (z : Option (List ℕ)) → Goes effect q rest s y z → Goes effect r bytes s x z
    goes_on s z g = subst (λ (l : List ℕ). Goes effect r l s x z) (take-append-drop i bytes) (goes_trans effect r q s (take i bytes) rest x y z goes g)

    -- up to a place, and a stop in some bytes behind it
    pub stops_to : (n : ℕ) (stop : Stop) (z : Option (List ℕ)) → StopsIn effect q (take n rest) stop y z → StopsIn effect r bytes stop x z
    stops_to n stop z h =
        let parts : take i bytes ++ (take n rest ++ drop n rest) ≡ bytes = ap (λ l. take i bytes ++ l) (take-append-drop n rest) ∙ take-append-drop i bytes in
        subst (λ (l : List ℕ). StopsIn effect r l stop x z) parts (goes_stops effect r q (take i bytes) (take n rest) (drop n rest) stop x y z goes h)

    pub stops_rest : (stop : Stop) (z : Option (List ℕ)) → StopsIn effect q rest stop y z → StopsIn effect r bytes stop x z
    stops_rest stop z h =
        let parts : take i bytes ++ (rest ++ []) ≡ bytes = ap (λ l. take i bytes ++ l) (append-nil rest) ∙ take-append-drop i bytes in
        subst (λ (l : List ℕ). StopsIn effect r l stop x z) parts (goes_stops effect r q (take i bytes) rest [] stop x y z goes h)

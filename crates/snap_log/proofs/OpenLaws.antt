-- Bytes without a line feed that are taken at once, and the line feed behind them.
use Rattle.std.proofs.Common.{◌≡◌, ◌≤◌, ◌<◌, ◌+◌, ◌-◌, ℕ, suc, List, [], ◌∷◌, ◌++◌, length, take, drop, slice_index, Bool, true, false, ◌==◌, Some, None, refl, sym, ap, ◌∙◌, subst, arith, append_assoc, append-nil, length-append, length-take-le, length-drop, get_or-take}
use Rattle.std.specs.Prelude.{cond, ◌&&◌, ◌||◌, nat_le}
use Rattle.std.proofs.lemmas.Bool.{eqb-true, false_from_ne_true, lt-leb, ne_eqb}
use Rattle.std.proofs.lemmas.List.{drop-drop, drop_more, take-append-drop, take_rest}
use Rattle.memchr.specs.Find.{IsFirstByte, is_byte}
use Rattle.snap_log.specs.Batches.{Batched, batched, begins_blank, is_blank, with_byte, with_line}

branch : {X Y : Type 0} (f : X → Y) (t : Bool) (x y : X) (a b : Y) → a ≡ f x → b ≡ f y → cond t a b ≡ f (cond t x y)
branch f true x y a b p q = p
branch f false x y a b p q = q

pub batched_more : (s : Batched) (a b : List ℕ) → batched s (a ++ b) ≡ batched (batched s a) b
batched_more s [] b = refl
batched_more s (x ∷ a) b =
    branch (λ (t : Batched). batched t b) (x == 10) (batched (with_line s) a) (batched (with_byte s x) a) (batched (with_line s) (a ++ b)) (batched (with_byte s x) (a ++ b))
    (batched_more (with_line s) a b) (batched_more (with_byte s x) a b)

-- no line feed stands in these bytes
abbrev pub Open : List ℕ → Type 0
Open bytes = IsFirstByte (is_byte 10) bytes None

open_head : (b : ℕ) (bytes : List ℕ) → Open (b ∷ bytes) → (b == 10) ≡ false
open_head b bytes o = false_from_ne_true (b == 10) (o 0 (omega arith) (omega arith))

open_tail : (b : ℕ) (bytes : List ℕ) → Open (b ∷ bytes) → Open bytes
open_tail b bytes o k low high = o (suc k) (omega arith) (omega arith)

-- a blank within a line is kept
begun : (s : Batched) (bytes : List ℕ) → 0 < length s.held → begins_blank s bytes ≡ false
begun s [] h = refl
begun s (b ∷ bytes) h =
    let some : (length s.held == 0) ≡ false = ne_eqb (length s.held) 0 (λ e. omega (arith, e)) in
    ap (λ t. t && is_blank b) some

pub open_batched : (s : Batched) (bytes : List ℕ) → Open bytes → begins_blank s bytes ≡ false → length bytes ≤ s.limit - length s.held → batched s bytes ≡ record s { held = s.held ++ bytes }
open_batched s [] o f room = ap (λ h. record s { held = h }) (sym (append-nil s.held))
open_batched s (b ∷ bytes) o f room =
    let more : Batched = record s { held = s.held ++ b ∷ [] } in
    let len : length (s.held ++ b ∷ []) ≡ length s.held + 1 = length-append s.held (b ∷ []) in
    let short : nat_le s.limit (length s.held) ≡ false = lt-leb s.limit (length s.held) (omega arith) in
    ap (λ t. cond t (batched (with_line s) bytes) (batched (with_byte s b) bytes)) (open_head b bytes o)
    ∙ ap (λ t. batched (cond (t || nat_le s.limit (length s.held)) s more) bytes) f
    ∙ ap (λ t. batched (cond t s more) bytes) short
    ∙ open_batched more bytes (open_tail b bytes o) (begun more bytes (omega arith)) (omega arith)
    ∙ ap (λ h. record s { held = h }) (append_assoc s.held (b ∷ []) bytes)

module _ (bytes : List ℕ) (i : ℕ) where
  -- the bytes from a place on, as a slice has them
  abbrev rest : List ℕ
  rest = drop i bytes

  pub first_in_rest : (r : _) → IsFirstByte (is_byte 10) (take (length bytes - i) rest) r → IsFirstByte (is_byte 10) rest r
  first_in_rest r h = subst (λ l. IsFirstByte (is_byte 10) l r) (take_rest bytes i) h

  -- the bytes from a place to one behind it, as a slice has them
  pub first_slice : (n : ℕ) → take (i + n - i) rest ≡ take n rest
  first_slice n = let len : i + n - i ≡ n = omega arith in ap (λ k. take k rest) len

  -- nothing before the first line feed is one
  pub open_before : (n : ℕ) → IsFirstByte (is_byte 10) rest (Some n) → Open (take n rest)
  open_before n h k low high =
      let len : length (take n rest) ≡ n = length-take-le n rest (omega (arith, h.0.high)) in
      λ p. h.0.before k low (omega arith) (subst (λ v. (v == 10) ≡ true) (get_or-take n rest k 0 (omega arith)) p)

  pub within_rest : (n : ℕ) → IsFirstByte (is_byte 10) rest (Some n) → i + n + 1 ≤ length bytes
  within_rest n h = let len = length-drop i bytes in omega (arith, h.0.high)

  parts : (n : ℕ) → IsFirstByte (is_byte 10) rest (Some n) → rest ≡ take n rest ++ 10 ∷ drop (i + n + 1) bytes
  parts n h =
      let at : i + (n + 1) ≡ i + n + 1 = omega arith in
      sym (take-append-drop n rest) ∙ ap (λ l. take n rest ++ l) (drop_more rest n 0 h.0.high)
      ∙ ap (λ b. take n rest ++ b ∷ drop (n + 1) rest) (eqb-true (slice_index rest n) 10 h.1)
      ∙ ap (λ l. take n rest ++ 10 ∷ l) (drop-drop (n + 1) i bytes ∙ ap (λ k. drop k bytes) at)

  -- a line up to its line feed, and the bytes behind it
  pub line_batched : (n : ℕ) (s t u : Batched) → IsFirstByte (is_byte 10) rest (Some n) → t ≡ batched s (take n rest) → u ≡ batched t (10 ∷ []) → batched u (drop (i + n + 1) bytes) ≡ batched s rest
  line_batched n s t u h e f =
      let behind = drop (i + n + 1) bytes in
      ap (λ z. batched z behind) (f ∙ ap (λ z. batched z (10 ∷ [])) e) ∙ sym (batched_more s (take n rest) (10 ∷ behind)) ∙ ap (batched s) (sym (parts n h))

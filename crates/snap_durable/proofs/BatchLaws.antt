-- Batches of an input, one after another.
use Rattle.std.proofs.Common.{◌≡◌, ◌⊎◌, inl, inr, ℕ, List, [], ◌∷◌, ◌++◌, Bool, true, false, ◌==◌, ◌≤◌, refl, sym, ap, ◌∙◌, subst, arith, append_assoc, append-nil}
use Rattle.std.specs.Prelude.{if◌then◌else◌, ◌&&◌, ◌||◌, nat_le, length}
use Rattle.snap_lines.specs.Lines.{lines_of, is_open}
use Rattle.snap_lines.proofs.LineLaws.{line_split, open_more}
use Rattle.snap_log.specs.Batches.{Batched, batched, emptied, none_yet, with_line, with_byte, is_nothing, is_blank}
use Rattle.snap_log.proofs.OpenLaws.{batched_more}
use Rattle.snap_durable.specs.Parts.{whole_in}
use Rattle.snap_durable.specs.Served.{IsBegun}
use Rattle.snap_durable.proofs.ServeLaws.{lines_more}

branch : {X Y : Type 0} (f : X → Y) (t : Bool) (x y : X) (a b : Y) → a ≡ f x → b ≡ f y → (if t then a else b) ≡ f (if t then x else y)
branch f true x y a b p q = p
branch f false x y a b p q = q

-- the same with more before it
abbrev ahead : List ℕ → Batched → Batched
ahead w t = record { limit = t.limit; whole = w ++ t.whole; held = t.held }

abbrev made : ℕ → List ℕ → List ℕ → Batched
made l h w = record { limit = l; whole = w; held = h }

line_ahead : (w : List ℕ) (t : Batched) → with_line (ahead w t) ≡ ahead w (with_line t)
line_ahead w t = ap (made t.limit []) (append_assoc w t.whole (t.held ++ 10 ∷ []))

byte_ahead : (w : List ℕ) (t : Batched) (x : ℕ) → with_byte (ahead w t) x ≡ ahead w (with_byte t x)
byte_ahead w t x = branch (ahead w) ((is_nothing t.held && is_blank x) || nat_le t.limit (length t.held)) t (record t { held = t.held ++ x ∷ [] }) (ahead w t) (record (ahead w t) { held = t.held ++ x ∷ [] }) refl refl

batched_ahead : (w : List ℕ) (t : Batched) (b : List ℕ) → batched (ahead w t) b ≡ ahead w (batched t b)
batched_ahead w t [] = refl
batched_ahead w t (x ∷ b) =
    branch (ahead w) (x == 10) (batched (with_line t) b) (batched (with_byte t x) b) (batched (with_line (ahead w t)) b) (batched (with_byte (ahead w t) x) b)
    (ap (λ s. batched s b) (line_ahead w t) ∙ batched_ahead w (with_line t) b)
    (ap (λ s. batched s b) (byte_ahead w t x) ∙ batched_ahead w (with_byte t x) b)

-- a batch after one whose whole lines were dropped
after_emptied : (s : Batched) (b : List ℕ) → batched s b ≡ ahead s.whole (batched (emptied s) b)
after_emptied s b = ap (λ t. batched t b) (ap (made s.limit s.held) (sym (append-nil s.whole))) ∙ batched_ahead s.whole (emptied s) b

module _ (s : Batched) (a b : List ℕ) where
  all_is : batched s (a ++ b) ≡ ahead (batched s a).whole (batched (emptied (batched s a)) b)
  all_is = batched_more s a b ∙ after_emptied (batched s a) b

  pub whole_more : (batched s (a ++ b)).whole ≡ (batched s a).whole ++ (batched (emptied (batched s a)) b).whole
  whole_more = ap (λ t. t.whole) all_is

  pub emptied_more : emptied (batched s (a ++ b)) ≡ emptied (batched (emptied (batched s a)) b)
  emptied_more = ap emptied all_is

-- without whole lines, dropping them leaves all
pub emptied_same : (s : Batched) → s.whole ≡ [] → s ≡ emptied s
emptied_same s is = ap (made s.limit s.held) is

-- a line that has begun lacks its line feed
begun_on : (t : Bool) (x y : Batched) → (t ≡ true → is_open x.held ≡ true) → (t ≡ false → is_open y.held ≡ true) → is_open (if t then x else y).held ≡ true
begun_on true x y p q = p refl
begun_on false x y p q = q refl

open_byte : (s : Batched) (x : ℕ) → is_open s.held ≡ true → (x == 10) ≡ false → is_open (with_byte s x).held ≡ true
open_byte s x h other = begun_on ((is_nothing s.held && is_blank x) || nat_le s.limit (length s.held)) s (record s { held = s.held ++ x ∷ [] }) (λ e. h) (λ e. open_more s.held x h other)

open_held : (s : Batched) (b : List ℕ) → is_open s.held ≡ true → is_open (batched s b).held ≡ true
open_held s [] h = h
open_held s (x ∷ b) h = begun_on (x == 10) (batched (with_line s) b) (batched (with_byte s x) b) (λ e. open_held (with_line s) b refl) (λ e. open_held (with_byte s x) b (open_byte s x h e))

pub begun_none : (limit : ℕ) → IsBegun (none_yet limit)
begun_none limit = record { none = refl; held = refl }

pub begun_next : (s t : Batched) (b : List ℕ) → IsBegun s → t ≡ emptied (batched s b) → IsBegun t
begun_next s t b is held = record { none = ap (λ z. z.whole) held; held = ap (λ z. is_open z.held) held ∙ open_held s b is.held }

-- a byte ends at most one line
few_on : (t : Bool) (x y : Batched) → length (lines_of x.whole) ≤ 1 → length (lines_of y.whole) ≤ 1 → length (lines_of (if t then x else y).whole) ≤ 1
few_on true x y p q = p
few_on false x y p q = q

few_byte : (s : Batched) (x : ℕ) → length (lines_of s.whole) ≤ 1 → length (lines_of (with_byte s x).whole) ≤ 1
few_byte s x h = few_on ((is_nothing s.held && is_blank x) || nat_le s.limit (length s.held)) s (record s { held = s.held ++ x ∷ [] }) h h

pub one_line : (s : Batched) (b : List ℕ) → IsBegun s → length b ≤ 1 → length (lines_of (batched s b).whole) ≤ 1
one_line s [] is low = subst (λ (l : List ℕ). length (lines_of l) ≤ 1) (sym is.none) (omega arith)
one_line s (x ∷ []) is low =
    let one : lines_of (s.whole ++ (s.held ++ 10 ∷ [])) ≡ (s.held ++ 10 ∷ []) ∷ [] = ap (λ (l : List ℕ). lines_of (l ++ (s.held ++ 10 ∷ []))) is.none ∙ line_split s.held [] is.held in
    few_on (x == 10) (with_line s) (with_byte s x) (subst (λ (l : List (List ℕ)). length l ≤ 1) (sym one) (omega arith)) (few_byte s x (subst (λ (l : List ℕ). length (lines_of l) ≤ 1) (sym is.none) (omega arith)))
one_line s (x ∷ y ∷ b) is low = absurd (omega arith)

-- whole lines end with a line feed
abbrev pub IsWhole : List ℕ → Type 0
IsWhole bytes = (bytes ≡ []) ⊎ ((p : List ℕ) × (bytes ≡ p ++ 10 ∷ []))

stays_on : (t : Bool) (x y : Batched) → IsWhole x.whole → IsWhole y.whole → IsWhole (if t then x else y).whole
stays_on true x y p q = p
stays_on false x y p q = q

pub stays : (s : Batched) (b : List ℕ) → IsWhole s.whole → IsWhole (batched s b).whole
stays s [] is = is
stays s (x ∷ b) is =
    stays_on (x == 10) (batched (with_line s) b) (batched (with_byte s x) b)
    (stays (with_line s) b (inr (s.whole ++ s.held, sym (append_assoc s.whole s.held (10 ∷ [])))))
    (stays (with_byte s x) b (stays_on ((is_nothing s.held && is_blank x) || nat_le s.limit (length s.held)) s (record s { held = s.held ++ x ∷ [] }) is is))

pub lines_join : (a b : List ℕ) → IsWhole a → lines_of (a ++ b) ≡ lines_of a ++ lines_of b
lines_join a b (inl e) = ap (λ (l : List ℕ). lines_of (l ++ b)) e ∙ ap (λ (l : List ℕ). lines_of l ++ lines_of b) (sym e)
lines_join a b (inr (p, e)) = ap (λ (l : List ℕ). lines_of (l ++ b)) e ∙ ap lines_of (append_assoc p (10 ∷ []) b) ∙ lines_more p b ∙ ap (λ (l : List ℕ). lines_of l ++ lines_of b) (sym e)

-- the lines of what was read and of what comes next
pub lines_next : (limit : ℕ) (read bytes : List ℕ) (s : Batched) → s ≡ emptied (batched (none_yet limit) read) → lines_of (whole_in limit (read ++ bytes)) ≡ lines_of (whole_in limit read) ++ lines_of (batched s bytes).whole
lines_next limit read bytes s held =
    ap lines_of (whole_more (none_yet limit) read bytes)
    ∙ lines_join (whole_in limit read) (batched (emptied (batched (none_yet limit) read)) bytes).whole (stays (none_yet limit) read (inl refl))
    ∙ ap (λ z. lines_of (whole_in limit read) ++ lines_of (batched z bytes).whole) (sym held)

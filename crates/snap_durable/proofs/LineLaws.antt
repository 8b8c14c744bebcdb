-- The lines of a part, one after another.
use Rattle.std.proofs.Common.{◌≡◌, ℕ, ◌+◌, ◌<◌, List, [], ◌∷◌, ◌++◌, length, take, drop, true, false, sym, ap, ◌∙◌, arith, take-append-drop}
use Rattle.std.specs.Prelude.{slice_index, ◌==◌}
use Rattle.std.proofs.lemmas.List.{drop_more}
use lib.Seq.{take-add}
use Rattle.snap_lines.specs.Lines.{lines_of, is_open}
use Rattle.snap_lines.proofs.LineLaws.{feed_ended, feed_open, line_last, line_split, open_more}
use Rattle.snap_durable.specs.Parts.{line_limit, line_read}

-- the first line of some bytes, and the lines behind it
abbrev pub HasFirst : List ℕ → List ℕ → List ℕ → Type 0
HasFirst bytes line more = (head : List ℕ) × ((lines_of bytes ≡ head ∷ lines_of more) × (line_read head ≡ line))

split_at : (bytes : List ℕ) (at : ℕ) → at < length bytes → bytes ≡ take at bytes ++ slice_index bytes at ∷ drop (at + 1) bytes
split_at bytes at low = sym (take-append-drop at bytes) ∙ ap (λ (l : List ℕ). take at bytes ++ l) (drop_more bytes at 0 low)

-- up to a line feed
pub first_with : (bytes : List ℕ) (at : ℕ) → at < length bytes → is_open (take at bytes) ≡ true → slice_index bytes at ≡ 10 → HasFirst bytes (take line_limit (take at bytes)) (drop (at + 1) bytes)
unfolding line_read
first_with bytes at low whole feed =
    let p : List ℕ = take at bytes in
    let rest : List ℕ = drop (at + 1) bytes in
    let is : bytes ≡ p ++ 10 ∷ rest = split_at bytes at low ∙ ap (λ (b : ℕ). p ++ b ∷ rest) feed in
    (p ++ 10 ∷ [], (ap lines_of is ∙ line_split p rest whole, ap (take line_limit) (feed_ended p whole)))

-- a line without its line feed
pub first_all : (bytes : List ℕ) → 0 < length bytes → is_open bytes ≡ true → HasFirst bytes (take line_limit bytes) []
unfolding line_read
first_all [] low whole = absurd (omega arith)
first_all (b ∷ p) low whole = (b ∷ p, (line_last b p whole, ap (take line_limit) (feed_open (b ∷ p) whole)))

-- one byte more of it
pub open_next : (bytes : List ℕ) (at : ℕ) → at < length bytes → is_open (take at bytes) ≡ true → (slice_index bytes at == 10) ≡ false → is_open (take (at + 1) bytes) ≡ true
open_next bytes at low whole other =
    let next : take (at + 1) bytes ≡ take at bytes ++ slice_index bytes at ∷ [] = take-add at 1 bytes ∙ ap (λ (l : List ℕ). take at bytes ++ take 1 l) (drop_more bytes at 0 low) in
    ap is_open next ∙ open_more (take at bytes) (slice_index bytes at) whole other

-- The text that a file stands for, and which files are logs; cited by the public clauses of `Log`.
use Rattle.std.specs.Prelude.{◌≡◌, ◌⊎◌, ℕ, zero, suc, ◌<◌, ◌≤◌, ◌==◌, Bool, true, false, not, ◌&&◌, ◌||◌, List, [], ◌∷◌, length, slice_index, if◌then◌else◌}

-- a line feed is among the bytes
abbrev pub has_feed : List ℕ → Bool
has_feed [] = false
has_feed (b ∷ bytes) = (b == 10) || has_feed bytes

-- the text from a place on, within a line that is whole or before one
abbrev pub text_from : Bool → List ℕ → List ℕ
text_from within [] = []
text_from true (b ∷ bytes) = b ∷ text_from (not (b == 10)) bytes
text_from false (b ∷ bytes) = if (b == 123) && has_feed bytes then b ∷ text_from true bytes else []

-- the text that a file stands for: its lines that begin with an open brace, up to the first that doesn't or that lacks its line feed
abbrev pub log_text : List ℕ → List ℕ
log_text file = text_from false file

-- whole lines, each of which begins with an open brace
pub record AreLines (bytes : List ℕ) : Type 0 where
  pub whole : log_text bytes ≡ bytes

-- the closed gate at a place: a zero before the first line, so that no text is one, and then a space, so that the last line of the file is blank
abbrev pub gate_at : ℕ → ℕ
gate_at zero = 0
gate_at (suc n) = 32

-- at this place of the file stands the closed gate
abbrev pub HasGate : List ℕ → ℕ → Type 0
HasGate file at = (at < length file) × (slice_index file at ≡ gate_at at)

-- a log: a file of no byte or one, which is new, or one with a closed gate behind its lines
abbrev pub IsLog : List ℕ → Type 0
IsLog file = (length file ≤ 1) ⊎ HasGate file (length (log_text file))

-- a line without its line feed: it begins with an open brace and has no line feed
abbrev pub is_line : List ℕ → Bool
is_line [] = false
is_line (b ∷ bytes) = (b == 123) && not (has_feed bytes)

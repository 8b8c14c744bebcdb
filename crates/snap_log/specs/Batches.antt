-- What becomes of an input that comes in pieces.
use Rattle.std.specs.Prelude.{ℕ, ◌==◌, Bool, false, ◌&&◌, ◌||◌, nat_le, List, [], ◌∷◌, ◌++◌, length, if◌then◌else◌}

-- the most bytes that are kept of a line, the whole lines, and the line that has begun
pub record Batched : Type 0 where
  pub limit : ℕ
  pub whole : List ℕ
  pub held : List ℕ

-- before the first byte
abbrev pub none_yet : ℕ → Batched
none_yet limit = record { limit = limit; whole = []; held = [] }

-- a space, a tab or a carriage return
abbrev pub is_blank : ℕ → Bool
is_blank b = (b == 32) || (b == 9) || (b == 13)

-- nothing has come of a line
abbrev pub is_nothing : List ℕ → Bool
is_nothing held = length held == 0

-- a line that has ended
abbrev pub with_line : Batched → Batched
with_line s = record { limit = s.limit; whole = s.whole ++ (s.held ++ 10 ∷ []); held = [] }

-- a byte within a line or before one
abbrev pub with_byte : Batched → ℕ → Batched
with_byte s b = if (is_nothing s.held && is_blank b) || nat_le s.limit (length s.held) then s else record s { held = s.held ++ b ∷ [] }

-- the next bytes
abbrev pub batched : Batched → List ℕ → Batched
batched s [] = s
batched s (b ∷ bytes) = if b == 10 then batched (with_line s) bytes else batched (with_byte s b) bytes

-- these bytes come before a line and begin with a blank
abbrev pub begins_blank : Batched → List ℕ → Bool
begins_blank s [] = false
begins_blank s (b ∷ bytes) = is_nothing s.held && is_blank b

-- the whole lines are dropped
abbrev pub emptied : Batched → Batched
emptied s = record { limit = s.limit; whole = []; held = s.held }

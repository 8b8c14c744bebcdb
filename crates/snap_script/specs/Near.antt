-- Which texts are one edit apart; cited by the public clauses of `read_line` and `read_request` through Words.antt and
-- Known.antt.
use Rattle.std.specs.Prelude.{ℕ, Bool, false, ◌&&◌, ◌||◌, ◌==◌, if◌then◌else◌, List, [], ◌∷◌, length}
use Rattle.std.specs.Str.{bytes_eq}

-- the same text, but for its first two bytes, which are swapped
abbrev pub are_swapped : List ℕ → List ℕ → Bool
are_swapped (a ∷ b ∷ rest) (c ∷ d ∷ others) = a == d && (b == c && bytes_eq rest others)
are_swapped text other = false

-- texts that differ in their first byte are one edit apart: it is another byte, or it is missing in one of them, or it is swapped with the next
abbrev pub is_edit : ℕ → List ℕ → ℕ → List ℕ → Bool
is_edit a rest b others = bytes_eq rest others || (bytes_eq (a ∷ rest) others || (bytes_eq rest (b ∷ others) || are_swapped (a ∷ rest) (b ∷ others)))

-- one edit apart: a byte is another one, missing or more, or two neighbours are swapped
abbrev pub is_near : List ℕ → List ℕ → Bool
is_near [] other = length other == 1
is_near (a ∷ rest) [] = length rest == 0
is_near (a ∷ rest) (b ∷ others) = if a == b then is_near rest others else is_edit a rest b others

-- What is written behind a log's text in parts.
use Rattle.std.specs.Prelude.{ℕ, zero, suc, ◌+◌, List, [], ◌∷◌, take, drop}

-- this many bytes behind a text that ends there: the first line's brace, which isn't written yet, and the bytes behind the gate in its place
abbrev pub staged_text : List ℕ → ℕ → ℕ → List ℕ
staged_text file end zero = []
staged_text file end (suc n) = 123 ∷ take n (drop (end + 1) file)

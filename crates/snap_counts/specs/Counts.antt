-- How often a text is counted, in a list of texts with their counts. Texts are their bytes.
use Rattle.std.specs.Prelude.{◌≡◌, ℕ, List, [], ◌∷◌, String, string_bytes}
use Rattle.std.specs.Map.{lookup}
use Rattle.std.specs.Option.{unwrap_or}
use Rattle.std.specs.Str.{bytes_eq}

-- the entries of a map, with the keys as their bytes
abbrev pub by_bytes : {Z X : Type 0} → List (String Z × X) → List (List ℕ × X)
by_bytes [] = []
by_bytes (e ∷ es) = (string_bytes e.0, e.1) ∷ by_bytes es

-- how often the text is counted: the number beside it, and 0 where it isn't there
abbrev pub count_in : List ℕ → List (List ℕ × ℕ) → ℕ
count_in text counts = unwrap_or (lookup (bytes_eq text) counts) 0

-- some text is counted: not every count is 0
abbrev pub HasCounted : List (List ℕ × ℕ) → Type 0
HasCounted counts = ((text : List ℕ) → count_in text counts ≡ 0) → ⊥

-- how often the text is counted in the namespace: in the list beside it, and 0 where it isn't there
abbrev pub count_within : List ℕ → List ℕ → List (List ℕ × List (List ℕ × ℕ)) → ℕ
count_within namespace text counts = count_in text (unwrap_or (lookup (bytes_eq namespace) counts) [])

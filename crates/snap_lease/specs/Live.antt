-- Sets of names, as lists.
use Rattle.std.specs.Prelude.{ℕ, Bool, List, [], ◌∷◌, ◌++◌, if◌then◌else◌}
use Rattle.std.specs.List.{list_any}
use Rattle.std.specs.Str.{bytes_eq}

-- the name is one of them
abbrev pub is_among : List ℕ → List (List ℕ) → Bool
is_among name names = list_any (bytes_eq name) names

-- the names with one more as the last, and as they are where it is one of them
abbrev pub with_added_name : List ℕ → List (List ℕ) → List (List ℕ)
with_added_name name names = if is_among name names then names else names ++ name ∷ []

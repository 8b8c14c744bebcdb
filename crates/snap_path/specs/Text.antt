-- The names of a path, and their text.
use Rattle.std.specs.Prelude.{take, slice_get, Option, Some, None, ◌-◌, ◌≡◌, ℕ, ◌≤◌, Bool, not, false, ◌&&◌, ◌==◌, nat_lt, nat_le, List, [], ◌∷◌, ◌++◌, length, true}
use Rattle.std.specs.List.{list_all, slice_split, starts_with}
use Rattle.std.specs.Str.{bytes_eq, is_utf8}
use Rattle.snap_path.specs.Limits.{most_path_bytes}

-- a path as its names, from the root down
abbrev pub Names : Type 0
Names = List (List ℕ)

-- neither NUL nor `/`
abbrev pub is_name_byte : ℕ → Bool
is_name_byte b = not (b == 0) && not (b == 47)

-- UTF-8 of 1 to 255 bytes without NUL and `/`, and neither `.` nor `..`
abbrev pub is_name : List ℕ → Bool
is_name n = nat_lt 0 (length n) && nat_le (length n) 255 && list_all is_name_byte n && not (bytes_eq n (46 ∷ [])) && not (bytes_eq n (46 ∷ 46 ∷ [])) && is_utf8 n

-- `/` alone, or `/` and then names separated by one `/`, in 4095 bytes at most
abbrev pub is_path : List ℕ → Bool
is_path [] = false
is_path (b ∷ []) = b == 47
is_path (b ∷ c ∷ bs) = b == 47 && nat_le (length (b ∷ c ∷ bs)) most_path_bytes && list_all is_name (slice_split (λ d. d == 47) (c ∷ bs))

-- the names that a path's text spells
abbrev pub path_names : List ℕ → Names
path_names [] = []
path_names (b ∷ []) = []
path_names (b ∷ c ∷ bs) = slice_split (λ d. d == 47) (c ∷ bs)

-- each name after a `/`
abbrev pub text_below : Names → List ℕ
text_below [] = []
text_below (n ∷ ns) = 47 ∷ (n ++ text_below ns)

-- the text of a path
abbrev pub text_of : Names → List ℕ
text_of [] = 47 ∷ []
text_of (n ∷ ns) = text_below (n ∷ ns)

-- valid names whose text is short enough
abbrev pub IsPath : Names → Type 0
IsPath ns = (list_all is_name ns ≡ true) × (length (text_below ns) ≤ most_path_bytes)

-- the text that a path keeps beside its names: empty for the root
abbrev pub IsHeld : List ℕ → Names → Type 0
IsHeld bs ns = (bs ≡ text_below ns) × IsPath ns

-- the names but the last
abbrev pub parent_of : Names → Option Names
parent_of [] = None
parent_of (n ∷ ns) = Some (take (length ns) (n ∷ ns))

-- the last name
abbrev pub last_name : Names → Option (List ℕ)
last_name ns = slice_get ns (length ns - 1)

-- the front is the path or a prefix of it
abbrev pub Begins : Names → Names → Type 0
Begins front ns = (rest : Names) × (ns ≡ front ++ rest)

-- the test of `Begins`
abbrev pub begins : Names → Names → Bool
begins front ns = starts_with bytes_eq ns front

-- these names are a path, and the text is theirs
abbrev pub Spells : List ℕ → Names → Type 0
Spells text ns = IsPath ns × (text_of ns ≡ text)

-- The texts of paths are exactly those that lists of names spell,
-- and each list is read back from its own text.
pub record IsSpelling (text : List ℕ) : Type 0 where
  pub read : is_path text ≡ true → Spells text (path_names text)
  pub only : (ns : Names) → Spells text ns → (is_path text ≡ true) × (path_names text ≡ ns)

-- the path's parent is the front, and its last name is the name
pub record IsJoined (front : Names) (name : List ℕ) (ns : Names) : Type 0 where
  pub parent : parent_of ns ≡ Some front
  pub last : last_name ns ≡ Some name

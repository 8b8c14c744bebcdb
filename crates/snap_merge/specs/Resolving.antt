-- Following symlinks (path_resolution(7), symlink(7)).
use Rattle.std.specs.Prelude.{◌==◌, ◌||◌, ℕ, zero, suc, Bool, true, false, not, nat_lt, List, [], ◌∷◌, ◌++◌, length, Option, Some, None, unwrap_or, if◌then◌else◌, Result, Ok, Err}
use Rattle.std.specs.List.{slice_split}
use Rattle.std.specs.Str.{bytes_eq}
use Rattle.snap_path.specs.Limits.{most_path_bytes}
use Rattle.snap_path.specs.Text.{Names, text_below, parent_of}
use Rattle.snap_layer.specs.Tree.{Tree}
use Rattle.snap_merge.specs.declared.error.FsError.{FsError}
use Rattle.snap_merge.specs.declared.error.FsError.TheVariants.{BadPath, NotFound, NotDir, TooManyLinks}
use Rattle.snap_merge.specs.Objects.{Object, symlink, seen, is_shown_dir}

-- the answer: a path or an error
abbrev pub Answer : Type 0
Answer = Result Names FsError

-- no word between two `/`, or `.`: the directory itself
abbrev pub is_here : List ℕ → Bool
is_here w = length w == 0 || bytes_eq w (46 ∷ [])

-- `..`: the directory above
abbrev pub is_above : List ℕ → Bool
is_above w = bytes_eq w (46 ∷ 46 ∷ [])

-- the directory above; the root is above itself
abbrev pub above : Names → Names
above place = unwrap_or (parent_of place) []

-- a name of more than 255 bytes, or a path of more than 4095 (limits.h: NAME_MAX, PATH_MAX)
abbrev pub is_too_long : Names → List ℕ → Bool
is_too_long place w = nat_lt 255 (length w) || nat_lt most_path_bytes (length (text_below (place ++ w ∷ [])))

-- where a symlink in the directory leads from: the root where its target begins with `/`, else the directory
abbrev pub start_of : Names → List ℕ → Names
start_of place [] = place
start_of place (b ∷ bs) = if b == 47 then [] else place

-- the words of a target, between its `/`
abbrev pub words_of : List ℕ → Names
words_of target = slice_split (λ b. b == 47) target

-- nothing is an error, at a symlink its target is followed, and from anything else the way goes on
abbrev pub entered : (List ℕ → Answer) → Answer → Option Object → Answer
entered follow on None = Err NotFound
entered follow on (Some (symlink target)) = follow target
entered follow on (Some other) = on

-- the way from a place by these words; `follow` is the way from a symlink's start, by its target's words and those left
abbrev pub way : (Names → Names → Answer) → List Tree → Names → Names → Answer
way follow s place [] = Ok place
way follow s place (w ∷ ws) =
    if not (is_shown_dir (seen s place)) then Err NotDir
    else if is_here w then way follow s place ws
    else if is_above w then way follow s (above place) ws
    else if is_too_long place w then Err BadPath
    else entered (λ target. follow (start_of place target) (words_of target ++ ws)) (way follow s (place ++ w ∷ []) ws) (seen s (place ++ w ∷ []))

-- the way from a symlink's start, where this number of symlinks may still be followed
abbrev pub following : ℕ → List Tree → Names → Names → Answer
following zero s place ws = Err TooManyLinks
following (suc k) s place ws = way (following k s) s place ws

-- where the path leads: from the root by its names, with at most 40 symlinks followed
abbrev pub resolution : List Tree → Names → Answer
resolution s p = way (following 40 s) s [] p

-- a symlink
abbrev pub is_symlink : Object → Bool
is_symlink (symlink target) = true
is_symlink other = false

-- nothing is an error, a symlink none, since its target says where the way goes on, and anything else leaves the later one
abbrev pub met : Option Object → Option FsError → Option FsError
met None later = Some NotFound
met (Some o) later = if is_symlink o then None else later

-- the error of the way from a place by these names, as far as no symlink is met on it
abbrev pub plain_error : List Tree → Names → Names → Option FsError
plain_error s place [] = None
plain_error s place (n ∷ ns) = if not (is_shown_dir (seen s place)) then Some NotDir else met (seen s (place ++ n ∷ [])) (plain_error s (place ++ n ∷ []) ns)

-- a directory or a file is seen
abbrev pub is_shown_end : Option Object → Bool
is_shown_end None = false
is_shown_end (Some (symlink target)) = false
is_shown_end (Some other) = true

-- The lines of an input; cited by the public clauses of `read_lines` through Transcripts.antt.
use Rattle.std.specs.Prelude.{ℕ, ◌==◌, List, [], ◌∷◌, Bool, not, if◌then◌else◌}
use Rattle.std.specs.List.{count_by, list_all, onto_first}

-- The lines, each with its line feed. A last one may lack it.
abbrev pub lines_of : List ℕ → List (List ℕ)
lines_of [] = []
lines_of (b ∷ bytes) = if b == 10 then (b ∷ []) ∷ lines_of bytes else onto_first b (lines_of bytes)

-- a line without its line feed
abbrev pub without_feed : List ℕ → List ℕ
without_feed [] = []
without_feed (b ∷ bytes) = if b == 10 then [] else b ∷ without_feed bytes

-- no line feed
abbrev pub is_open : List ℕ → Bool
is_open = list_all (λ b. not (b == 10))

-- how many line feeds there are
abbrev pub feeds : List ℕ → ℕ
feeds = count_by (λ b. b == 10)

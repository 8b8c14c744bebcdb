-- The text that two files stand for.
use Rattle.std.specs.Prelude.{ℕ, List, [], ◌∷◌}
use Rattle.snap_log.specs.Texts.{log_text}

-- the second one where it has a line
abbrev pub counting : List ℕ → List ℕ → List ℕ
counting first [] = first
counting first (b ∷ bytes) = b ∷ bytes

-- that of the files
abbrev pub pair_text : List ℕ → List ℕ → List ℕ
pair_text first second = counting (log_text first) (log_text second)

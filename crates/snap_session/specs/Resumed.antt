-- What the lines of a log make of a server; cited by the public clauses of `Resuming`.
use Rattle.std.specs.Prelude.{List, ℕ, if◌then◌else◌, Ok}
use Rattle.snap_call.specs.Results.{◌>>=◌}
use Rattle.snap_lines.specs.Effects.{Effect, Effects}
use Rattle.snap_marks.specs.Marks.{is_continued_line}
use Rattle.snap_marks.specs.Sums.{continued}
use Rattle.snap_session.specs.Kept.{KeptValue, served_kept}

-- the effect of a mark, from which sums go on
abbrev pub effect_continued : KeptValue → List ℕ → Effect KeptValue → Effect KeptValue
effect_continued v mark e = record { value = record { server = e.value.server; keeps = e.value.keeps; sums = continued v.sums mark }; text = e.text }

-- what the bytes of a log's line do: by a mark from which sums go on they do, else what any line does
unfoldable pub resumed_kept : Effects KeptValue
resumed_kept v bytes = if is_continued_line bytes then (served_kept v bytes >>= (λ e. Ok (effect_continued v bytes e))) else served_kept v bytes

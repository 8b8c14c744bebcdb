-- The sums of a log's lines and answers, and what a replay finds by its marks.
use Rattle.std.specs.Prelude.{ℕ, ◌+◌, ◌-◌, ◌^◌, ◌==◌, ◌&&◌, min, Bool, true, false, List, [], ◌∷◌, ◌++◌, Some, None, is_none, replicate, if◌then◌else◌, bytes_eq}
use Rattle.std.specs.List.{starts_with}
use Rattle.snap_marks.specs.declared.sums.Differs.{Differs}
use Rattle.snap_marks.specs.declared.sums.Differs.TheVariants.{Lines, Answers}
use Rattle.snap_marks.specs.declared.sums.Sums.{Sums}
use Rattle.snap_marks.specs.Marks.{chained, chained_lines, continued_text, first_part, stem, tail, tail_rebased}

-- a sum before the first line
abbrev pub no_sum : List ℕ
no_sum = replicate 32 0

-- both sums there, and nothing was found
abbrev pub no_sums : Sums
no_sums = record { lines = no_sum; answers = no_sum; told = no_sum; read = 0; agreed = 0; differs = None; ends = true }

-- the number of the line after this number of lines; the numbers end at 2^64 - 1
abbrev pub next_read : ℕ → ℕ
next_read read = min (read + 1) (2 ^ 64 - 1)

-- behind a line, which stands here without its line feed, and its answer
abbrev pub summed : Sums → List ℕ → List ℕ → Sums
summed s line answer = record s { lines = chained s.lines (line ++ 10 ∷ []); answers = chained s.answers answer; read = next_read s.read; ends = false }

-- behind a line that isn't added
abbrev pub passed : Sums → Sums
passed s = record s { read = next_read s.read; ends = false }

-- what isn't as a mark has it
abbrev pub what_differs : Sums → List ℕ → Differs
what_differs s mark = if starts_with (λ a b. a == b) mark (first_part s.lines) then Answers else Lines

-- behind a mark that agrees
abbrev pub agreed : Sums → Sums
agreed s = record s { told = s.answers; read = next_read s.read; agreed = if is_none s.differs then next_read s.read else s.agreed; ends = true }

-- behind one from which on marks are compared anew
abbrev pub rebased : Sums → Sums
rebased s = record s { told = s.answers; read = next_read s.read; agreed = next_read s.read; differs = None; ends = true }

-- behind one where this differs
abbrev pub differing : Sums → Differs → Sums
differing s what = record s { told = s.answers; read = next_read s.read; differs = if is_none s.differs then Some (record { line = next_read s.read; what = what }) else s.differs; ends = true }

-- the mark behind further lines: it has the sum of all lines, and of the answers that there were before these
abbrev pub mark_behind : Sums → List ℕ → List ℕ
mark_behind s lines = stem (chained_lines s.lines lines) s.answers ++ tail

-- the mark from which on marks are compared anew
abbrev pub rebased_mark : Sums → List ℕ
rebased_mark s = stem s.lines s.answers ++ tail_rebased

-- behind a mark, which is compared: it agrees where it has the sum of all lines, and of the answers that there were at the mark before
unfoldable pub mark_compared : Sums → List ℕ → Sums
mark_compared s mark =
    if bytes_eq mark (rebased_mark s) then rebased s
    else if bytes_eq mark (stem s.lines s.told ++ tail) then agreed s
    else differing s (what_differs s mark)

-- each mark agrees, and the last line is one, if there is any
abbrev pub marks_agree : Sums → Bool
marks_agree s = is_none s.differs && s.ends

-- the mark from which on sums go on, where they are these
abbrev pub continued_mark : Sums → List ℕ
continued_mark s = continued_text s.lines s.answers

-- behind it: from its bytes alone, so that they go on alike behind two texts that end with it
abbrev pub going_on : Sums → List ℕ → Sums
going_on s mark = record s { lines = chained no_sum (mark ++ 10 ∷ []); answers = no_sum; told = no_sum; read = next_read s.read; agreed = next_read s.read; ends = true }

-- the same, where all marks agree and the last line is one; else this one doesn't
unfoldable pub continued : Sums → List ℕ → Sums
continued s mark = if marks_agree s then going_on s mark else differing s Lines

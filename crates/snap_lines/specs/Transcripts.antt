-- What the lines of an input make of a value and what is written for them, line for line, and the first fault; cited by the public clauses of `read_lines`.
use Rattle.std.specs.Prelude.{◌≡◌, ℕ, ◌+◌, ◌-◌, ◌^◌, min, List, [], ◌∷◌, ◌++◌, length, take, Bool, false, ◌||◌, Option, Some, None, Result, Ok, Err, nat_lt, if◌then◌else◌}
use Rattle.std.specs.Io.KnownBytes.{Appends, Consumes}
use Rattle.snap_script.specs.declared.fault.Fault.{Fault}
use Rattle.snap_script.specs.declared.fault.Fault.TheVariants.{TooLong}
use Rattle.snap_script.specs.Lines.{max_line}
use Rattle.snap_lines.specs.Effects.{Effect, Effects}
use Rattle.snap_lines.specs.Lines.{lines_of, without_feed, feeds}
use Rattle.snap_lines.specs.declared.stop.LineFault.{LineFault}
use Rattle.snap_lines.specs.declared.stop.Stop.{Stop}
use Rattle.snap_lines.specs.declared.stop.Stop.TheVariants.{Line, InputFailed, OutputFailed, OutOfMemory}

-- how many bytes of a longer line are handed on
abbrev pub cut_length : ℕ
cut_length = max_line + 1

-- all lines of a script have at most 1 GiB, with their line feeds
abbrev pub max_bytes : ℕ
max_bytes = 1073741824

-- how many lines are behind, how many bytes the next ones may have, where that has a limit, and the value
pub record Place (A : Type 0) : Type 0 where
  pub lines : ℕ
  pub left : Option ℕ
  pub value : A

-- the number of the line after the first `lines`; the numbers end at 2^64 - 1
abbrev pub next_line : ℕ → ℕ
next_line lines = min (lines + 1) (2 ^ 64 - 1)

-- this many bytes are more than is left
abbrev pub passes : Option ℕ → ℕ → Bool
passes None bytes = false
passes (Some left) bytes = nat_lt left bytes

-- what is left after this many bytes
abbrev pub left_after : Option ℕ → ℕ → Option ℕ
left_after None bytes = None
left_after (Some left) bytes = Some (left - bytes)

-- what is written, the fault that ends it, and the value that the lines before left
pub record Transcript (A : Type 0) : Type 0 where
  pub text : List ℕ
  pub fault : Option LineFault
  pub value : A

-- a text before a transcript
abbrev pub prepended : {A : Type 0} → List ℕ → Transcript A → Transcript A
prepended text s = record { text = text ++ s.text; fault = s.fault; value = s.value }

-- the line is too long by itself, or for what is left
abbrev pub is_over_limit : ℕ → List ℕ → Bool
is_over_limit left line = nat_lt left (length line) || nat_lt max_line (length (without_feed line))

-- what a line, with its line feed, does to the value. Where all lines have a limit, one that is too long is a fault; where they have none, it is handed on, cut.
abbrev pub effect_within : {A : Type 0} → Effects A → Option ℕ → A → List ℕ → Result (Effect A) Fault
effect_within effect None value line = effect value (take cut_length (without_feed line))
effect_within effect (Some left) value line = if is_over_limit left line then Err TooLong else effect value (without_feed line)

-- the same at a place
unfoldable pub effect_at : {A : Type 0} → Effects A → Place A → List ℕ → Result (Effect A) Fault
effect_at effect p line = effect_within effect p.left p.value line

-- the place after a line that leaves this value
abbrev pub place_after : {A : Type 0} → Place A → List ℕ → A → Place A
place_after p line value = record { lines = next_line p.lines; left = left_after p.left (length line); value = value }

-- after a line: a fault, which has the number of the line, ends it
abbrev pub goes_on : {A : Type 0} → Place A → List ℕ → Result (Effect A) Fault → (Place A → Transcript A) → Transcript A
goes_on p line (Err c) more = record { text = []; fault = Some (record { line = next_line p.lines; cause = c }); value = p.value }
goes_on p line (Ok e) more = prepended e.text (more (place_after p line e.value))

-- the transcript of the lines that are left
abbrev pub transcript_from : {A : Type 0} → Effects A → Place A → List (List ℕ) → Transcript A
transcript_from effect p [] = record { text = []; fault = None; value = p.value }
transcript_from effect p (line ∷ lines) = goes_on p line (effect_at effect p line) (λ q. transcript_from effect q lines)

-- before the first line, where all lines have at most `most` bytes, or no limit
abbrev pub start : {A : Type 0} → Option ℕ → A → Place A
start most value = record { lines = 0; left = most; value = value }

-- the transcript of an input, from the value before its first line
unfoldable pub transcript : {A : Type 0} → Option ℕ → Effects A → A → List ℕ → Transcript A
transcript most effect value bytes = transcript_from effect (start most value) (lines_of bytes)

-- the transcript of the first lines alone
unfoldable pub first_lines : {A : Type 0} → Option ℕ → Effects A → A → List ℕ → ℕ → Transcript A
first_lines most effect value bytes n = transcript_from effect (start most value) (take n (lines_of bytes))

-- the output takes the text of a transcript that has this fault
abbrev pub Tells : {A : Type 0} → Transcript A → Option LineFault → Option (List ℕ) → Option (List ℕ) → Type 0
Tells s fault before behind = (s.fault ≡ fault) × Appends before behind s.text

-- the output takes a first part of the text of a transcript
abbrev pub TellsPart : {A : Type 0} → Transcript A → Option (List ℕ) → Option (List ℕ) → Type 0
TellsPart s before after = (part rest : List ℕ) × (s.text ≡ part ++ rest) × Appends before after part

-- What was written where a run over these bytes stops, with what the input has left. At a line's fault, which is that of
-- the transcript, and at want of memory: the text of whole lines. At a read that failed: the text of all lines whose
-- line feed was read, none of which has a fault. At a write that failed: a first part of the text.
abbrev pub Stops : {A : Type 0} → Option ℕ → Effects A → A → List ℕ → Option (List ℕ) → Stop → Option (List ℕ) → Option (List ℕ) → Type 0
Stops most effect value bytes left (Line f) before after = Tells (transcript most effect value bytes) (Some f) before after
Stops most effect value bytes left InputFailed before after = (read : List ℕ) × Consumes (Some bytes) left read × Tells (first_lines most effect value bytes (feeds read)) None before after
Stops most effect value bytes left OutputFailed before after = TellsPart (transcript most effect value bytes) before after
Stops most effect value bytes left (OutOfMemory want) before after = (n : ℕ) × Tells (first_lines most effect value bytes n) None before after

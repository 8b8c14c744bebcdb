-- What is left of a transcript within a line, and how bytes lead from one place to another.
use Rattle.std.specs.Prelude.{◌≡◌, ℕ, ◌+◌, List, [], ◌∷◌, ◌++◌, take, Bool, Option, Some, None, Result, Ok, Err, if◌then◌else◌}
use Rattle.std.specs.Io.KnownBytes.{Appends}
use Rattle.snap_script.specs.declared.fault.Fault.{Fault}
use Rattle.snap_lines.specs.Effects.{Effect, Effects}
use Rattle.snap_lines.specs.Lines.{lines_of, feeds}
use Rattle.snap_script.specs.Lines.{max_line}
use Rattle.snap_lines.specs.Transcripts.{cut_length, next_line, Place, Transcript, prepended, effect_at, place_after, transcript_from, Tells, TellsPart}
use Rattle.snap_lines.specs.declared.stop.LineFault.{LineFault}
use Rattle.snap_lines.specs.declared.stop.Stop.{Stop}
use Rattle.snap_lines.specs.declared.stop.Stop.TheVariants.{Line, InputFailed, OutputFailed, OutOfMemory}

-- how many lines are behind, how many bytes the next ones may have, where that has a limit, and what has come of the next line
pub record Behind : Type 0 where
  pub lines : ℕ
  pub left : Option ℕ
  pub pending : List ℕ

-- nothing has come
abbrev pub nothing : Option ℕ → Behind
nothing most = record { lines = 0; left = most; pending = [] }

-- the most bytes that are kept of a line: where the input has no limit, one more than a line has, by which a longer one is known
abbrev pub kept_length : Option ℕ → ℕ
kept_length None = cut_length
kept_length (Some left) = max_line

-- a place within a line, of which pending has come
pub record Run (A : Type 0) : Type 0 where
  pub place : Place A
  pub pending : List ℕ

-- where a reader stands, with the value that takes the lines
abbrev pub within : {A : Type 0} → Behind → A → Run A
within b value = record { place = record { lines = b.lines; left = b.left; value = value }; pending = b.pending }

-- the lines, or the first n
abbrev pub some_of : {A : Type 0} → Option ℕ → List A → List A
some_of None lines = lines
some_of (Some n) lines = take n lines

-- k lines and then these
abbrev pub and_more : ℕ → Option ℕ → Option ℕ
and_more k None = None
and_more k (Some n) = Some (k + n)

-- the transcript of what has come of a line and of the rest of the input: of all their lines, or of the first n
unfoldable pub transcript_on : {A : Type 0} → Effects A → Run A → Option ℕ → List ℕ → Transcript A
transcript_on effect r n rest = transcript_from effect r.place (some_of n (lines_of (r.pending ++ rest)))

-- bytes lead from r to q, and what is written for the lines that end in them goes to the output
pub record Goes {A : Type 0} (effect : Effects A) (r : Run A) (bytes : List ℕ) (q : Run A) (before behind : Option (List ℕ)) : Type 0 where
  pub written : List ℕ
  pub leads : (n : Option ℕ) (rest : List ℕ) → transcript_on effect r (and_more (feeds bytes) n) (bytes ++ rest) ≡ prepended written (transcript_on effect q n rest)
  pub appended : Appends before behind written

-- bytes lead to a fault after the line that left the value
abbrev pub Faults : {A : Type 0} → Effects A → Run A → List ℕ → LineFault → A → List ℕ → Type 0
Faults effect r bytes f value written = (rest : List ℕ) → transcript_on effect r None (bytes ++ rest) ≡ record { text = written; fault = Some f; value = value }

-- bytes lead to a fault, and what is written before it goes to the output
abbrev pub EndsAtFault : {A : Type 0} → Effects A → Run A → List ℕ → LineFault → Option (List ℕ) → Option (List ℕ) → Type 0
EndsAtFault {A} effect r bytes f before behind = (written : List ℕ) × (value : A) × Appends before behind written × Faults effect r bytes f value written

-- some of the bytes, the first ones, lead from r to a place, and what is written for the lines in them goes to the output
pub record GoesPart {A : Type 0} (effect : Effects A) (r : Run A) (bytes : List ℕ) (before behind : Option (List ℕ)) : Type 0 where
  pub part : List ℕ
  pub more : List ℕ
  pub place : Run A
  pub is : bytes ≡ part ++ more
  pub goes : Goes effect r part place before behind

-- what went to the output where the run stops within the bytes, or, at a write that failed, after them
abbrev pub StopsIn : {A : Type 0} → Effects A → Run A → List ℕ → Stop → Option (List ℕ) → Option (List ℕ) → Type 0
StopsIn effect r bytes (Line f) before behind = EndsAtFault effect r bytes f before behind
StopsIn effect r bytes InputFailed before behind = ⊥
StopsIn effect r bytes OutputFailed before behind = (rest : List ℕ) → TellsPart (transcript_on effect r None (bytes ++ rest)) before behind
StopsIn effect r bytes (OutOfMemory want) before behind = GoesPart effect r bytes before behind

-- what went to the output where the run stops at the end of the input
abbrev pub StopsAtEnd : {A : Type 0} → Effects A → Run A → Stop → Option (List ℕ) → Option (List ℕ) → Type 0
StopsAtEnd effect r (Line f) before behind = Tells (transcript_on effect r None []) (Some f) before behind
StopsAtEnd effect r InputFailed before behind = ⊥
StopsAtEnd effect r OutputFailed before behind = TellsPart (transcript_on effect r None []) before behind
StopsAtEnd effect r (OutOfMemory want) before behind = behind ≡ before

-- the line that has come, with its line feed where that ended it
abbrev pub line_in : List ℕ → Bool → List ℕ
line_in pending ended = if ended then pending ++ 10 ∷ [] else pending

-- a line was taken, and its text went to the output
abbrev pub TakesLine : {A : Type 0} → Effects A → Run A → List ℕ → Run A → Option (List ℕ) → Option (List ℕ) → Type 0
TakesLine effect r line q before behind = (text : List ℕ) × (effect_at effect r.place line ≡ Ok (record { value = q.place.value; text = text }))
    × (q ≡ record { place = place_after r.place line q.place.value; pending = [] }) × Appends before behind text

-- the line after the first `lines` has this fault, or memory was refused
abbrev pub Refuses : {A : Type 0} → Result (Effect A) Fault → ℕ → Stop → Type 0
Refuses reading lines (Line f) = (reading ≡ Err f.cause) × (f.line ≡ next_line lines)
Refuses reading lines (OutOfMemory want) = Unit {0}
Refuses reading lines stop = ⊥

-- a write failed after a first part of the text
abbrev pub Breaks : List ℕ → Stop → Option (List ℕ) → Option (List ℕ) → Type 0
Breaks text OutputFailed before behind = (n : ℕ) × Appends before behind (take n text)
Breaks text stop before behind = ⊥

-- a line was not taken: it has a fault or memory was refused, and nothing went to the output, or a first part of its text did
abbrev pub LeavesLine : {A : Type 0} → Effects A → Run A → List ℕ → Stop → Option (List ℕ) → Option (List ℕ) → Type 0
LeavesLine {A} effect r line OutputFailed before behind = (e : Effect A) × (effect_at effect r.place line ≡ Ok e) × Breaks e.text OutputFailed before behind
LeavesLine effect r line stop before behind = Refuses (effect_at effect r.place line) r.place.lines stop × (behind ≡ before)

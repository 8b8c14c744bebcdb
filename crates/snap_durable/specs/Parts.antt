-- What becomes of the lines of an input that come in parts, where those that change something are kept before they are carried out.
use Rattle.std.specs.Prelude.{◌≡◌, ◌⊎◌, ℕ, ◌≤◌, Bool, true, not, ◌&&◌, ◌||◌, false, List, [], ◌∷◌, ◌++◌, length, take, Option, None, if◌then◌else◌}
use Rattle.std.specs.Io.KnownBytes.{Appends}
use Rattle.snap_log.specs.Batches.{Batched, batched, none_yet}
use Rattle.snap_log.specs.Texts.{is_line, log_text}
use Rattle.snap_lines.specs.Effects.{Effects}
use Rattle.snap_lines.specs.Lines.{lines_of, without_feed}
use Rattle.snap_lines.specs.Transcripts.{Stops}
use Rattle.snap_lines.specs.declared.stop.Stop.{Stop}
use Rattle.snap_durable.specs.Serves.{Serves}

-- what is left of an input in whole lines, where at most `limit` bytes of each are kept
abbrev pub whole_in : ℕ → List ℕ → List ℕ
whole_in limit bytes = (batched (none_yet limit) bytes).whole

-- the most bytes that are kept of a line: one more than it may have
abbrev pub line_limit : ℕ
line_limit = 16777217

-- what is read of a line
unfoldable pub line_read : List ℕ → List ℕ
line_read line = take line_limit (without_feed line)

-- those of the lines that change something, each with its line feed
abbrev pub lines_to_keep : (List ℕ → Bool) → List (List ℕ) → List ℕ
lines_to_keep changes [] = []
lines_to_keep changes (line ∷ lines) = if changes (line_read line) then (line_read line ++ 10 ∷ []) ++ lines_to_keep changes lines else lines_to_keep changes lines

-- one of them is no line of a log: it doesn't begin with an open brace
abbrev pub is_odd : (List ℕ → Bool) → List (List ℕ) → Bool
is_odd changes [] = false
is_odd changes (line ∷ lines) = (changes (line_read line) && not (is_line (line_read line))) || is_odd changes lines

-- one of them, or their mark, is no line of a log
abbrev pub IsNoLine : (List ℕ → Bool) → (List ℕ → List ℕ) → List ℕ → Type 0
IsNoLine changes mark whole = (is_odd changes (lines_of whole) ≡ true) ⊎ (is_line (mark (lines_to_keep changes (lines_of whole))) ≡ false)

-- whole lines that came together, and whether those that change something were kept
pub record Part : Type 0 where
  pub whole : List ℕ
  pub is_kept : Bool

-- the lines of all parts
abbrev pub whole_of : List Part → List ℕ
whole_of [] = []
whole_of (p ∷ parts) = p.whole ++ whole_of parts

-- lines with the mark behind them; where there are none, there is no mark
abbrev pub with_mark : (List ℕ → List ℕ) → List ℕ → List ℕ
with_mark mark [] = []
with_mark mark (b ∷ lines) = (b ∷ lines) ++ (mark (b ∷ lines) ++ 10 ∷ [])

-- what is added of whole lines: those that change something, and a mark
abbrev pub lines_added : (List ℕ → Bool) → (List ℕ → List ℕ) → List ℕ → List ℕ
lines_added changes mark whole = with_mark mark (lines_to_keep changes (lines_of whole))

-- what was added of a part, if that was kept, by what changes something and which mark there is where it came
abbrev pub kept_of : (List ℕ → Bool) → (List ℕ → List ℕ) → Part → List ℕ
kept_of changes mark p = if p.is_kept then lines_added changes mark p.whole else []

module _ {A : Type 0} (effect : Effects A) (changes : A → List ℕ → Bool) (mark : A → List ℕ → List ℕ) (keeping : Bool → A → A) (settled : A → Bool) where
  -- which lines of a part change something could be told before it: they stay the same ones, or it has one line
  abbrev pub IsTimely : A → Part → Type 0
  IsTimely v p = (settled v ≡ true) ⊎ (length (lines_of p.whole) ≤ 1)

  -- the parts are answered with this text, one after another, these lines of them are kept, and they lead from one value to the other
  abbrev pub AreTold : A → List Part → List ℕ → List ℕ → A → Type 0
  AreTold v [] text kept w = (text ≡ []) × (kept ≡ []) × (v ≡ w)
  AreTold v (p ∷ parts) text kept w = (first rest more : List ℕ) × (u : A) × Serves effect (keeping p.is_kept v) (lines_of p.whole) first u × AreTold u parts rest more w
      × (text ≡ first ++ rest) × (kept ≡ kept_of (changes v) (mark v) p ++ more) × IsTimely v p

  -- What a crash leaves of the lines in some bytes that come after those of a state: all lines of some parts were answered, and those of them that were kept are in the file. Of the part behind them, if one had begun, all lines that change something are there or none, and some may have been answered.
  pub record LeavesPart (v : A) (s : Batched) (first : List ℕ) (bytes file : List ℕ) (before after : Option (List ℕ)) : Type 0 where
    pub parts : List Part
    pub text : List ℕ
    pub kept : List ℕ
    pub value : A
    pub told : AreTold v parts text kept value
    pub last : Part
    pub timely : IsTimely value last
    pub more : List ℕ
    pub lines : (batched s bytes).whole ≡ whole_of parts ++ (last.whole ++ more)
    pub stands : log_text file ≡ first ++ (kept ++ kept_of (changes value) (mark value) last)
    pub between : Option (List ℕ)
    pub written : Appends before between text
    pub answered : (after ≡ between) ⊎ ((left : Option (List ℕ)) × (stop : Stop) × Stops None effect (keeping last.is_kept value) last.whole left stop between after)

-- What lines make of what takes them, wherever they stand in an input.
use Rattle.std.specs.Prelude.{◌≡◌, ℕ, List, None}
use Rattle.snap_lines.specs.Effects.{Effects}
use Rattle.snap_lines.specs.Transcripts.{Place, Transcript, transcript_from}

-- a place in an input without a limit
abbrev pub place_unlimited : {A : Type 0} → ℕ → A → Place A
place_unlimited n v = record { lines = n; left = None; value = v }

-- a transcript without a fault
abbrev pub told_whole : {A : Type 0} → List ℕ → A → Transcript A
told_whole text v = record { text = text; fault = None; value = v }

-- these lines are answered with this text, and lead from one value to the other
pub record Serves {A : Type 0} (effect : Effects A) (v : A) (lines : List (List ℕ)) (text : List ℕ) (w : A) : Type 0 where
  pub is : (n : ℕ) → transcript_from effect (place_unlimited n v) lines ≡ told_whole text w

-- What a caller in C gets of a script's run; cited by the public clauses of `pibroulez_run`.
use Rattle.std.specs.Prelude.{◌≡◌, ◌≤◌, ◌<◌, ℕ, Bool, true, false, List, [], ◌++◌, length, drop, Option, None, Some, Result, Ok, Err}
use Rattle.snap_script.specs.declared.unknown.FieldRule.{FieldRule}
use Rattle.snap_script.specs.declared.unknown.FieldRule.TheVariants.{Known, Any}
use Rattle.snap_lines.specs.Transcripts.{Tells}
use Rattle.snap_lines.specs.Words.{status_of}
use Rattle.snap_lines.specs.declared.stop.Stop.{Stop}
use Rattle.snap_lines.specs.declared.stop.Stop.TheVariants.{Line}
use Rattle.snap_session.specs.declared.run.RunOptions.{RunOptions}
use Rattle.snap_session.specs.Script.{script, HasStopped}

-- which fields a line may have
abbrev pub field_rule : Bool → FieldRule
field_rule true = Known
field_rule false = Any

-- how a script is run
abbrev pub options_of : Bool → Bool → RunOptions
options_of strict stop = record { fields = field_rule strict; stops_at_refusal = stop }

-- a run of these bytes ended so, and wrote the text: that of the script, or of whole lines of it
abbrev pub Ran : RunOptions → List ℕ → Result (Unit {0}) Stop → List ℕ → Type 0
Ran options bytes (Ok done) text = Tells (script options bytes) None (Some []) (Some text)
Ran options bytes (Err stop) text = (left : Option (List ℕ)) × HasStopped options bytes left stop (Some []) (Some text)

-- 0 where it ended well, else the status of its end
abbrev pub status_at : Result (Unit {0}) Stop → ℕ
status_at (Ok done) = 0
status_at (Err stop) = status_of stop

-- the number of the line at which it ended; they are counted from 1
abbrev pub line_number_of : Result (Unit {0}) Stop → ℕ
line_number_of (Err (Line fault)) = fault.line
line_number_of ended = 0

-- the status where the room is too small
abbrev pub no_room : ℕ
no_room = 6

-- what the caller gets of an end and its text: in a room that is long enough the text, and what was behind it
pub record Given (ended : Result (Unit {0}) Stop) (text : List ℕ) (status line written : ℕ) (before after : List ℕ) : Type 0 where
  pub place : line ≡ line_number_of ended
  pub size : written ≡ length text
  pub fits : length text ≤ length before → (status ≡ status_at ended) × (after ≡ text ++ drop (length text) before)
  pub lacks : length before < length text → (status ≡ no_room) × (after ≡ before)

-- the script was run so, and the caller gets its end and its text
abbrev pub GivesRun : RunOptions → List ℕ → ℕ → ℕ → ℕ → List ℕ → List ℕ → Type 0
GivesRun options bytes status line written before after = (ended : Result (Unit {0}) Stop) × (text : List ℕ) × Ran options bytes ended text × Given ended text status line written before after

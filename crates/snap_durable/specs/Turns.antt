-- What a server does over a log that is made short on the way; cited by the public clauses of `serve_and_shorten`.
use Rattle.std.specs.Prelude.{◌≡◌, ◌⊎◌, ℕ, ◌≤◌, true, false, List, [], ◌∷◌, ◌++◌, length, Option, None}
use Rattle.std.specs.Io.KnownBytes.{Appends}
use Rattle.snap_log.specs.Batches.{Batched, batched}
use Rattle.snap_lines.specs.Lines.{lines_of}
use Rattle.snap_lines.specs.Transcripts.{Stops}
use Rattle.snap_lines.specs.declared.stop.Stop.{Stop}
use Rattle.snap_marks.specs.Sums.{marks_agree}
use Rattle.snap_session.specs.Kept.{KeptValue, has_store, idle_kept, kept_part, kept_so, mark_of, served_kept, would_change}
use Rattle.snap_session.specs.Opened.{OpenedValue, only_store}
use Rattle.snap_session.specs.Resumed.{resumed_kept}
use Rattle.snap_durable.specs.Checkpoints.{rolled}
use Rattle.snap_durable.specs.Parts.{IsTimely, Part}
use Rattle.snap_durable.specs.Served.{IsReplayed, text_limit}
use Rattle.snap_durable.specs.Serves.{Serves}

-- lines that came together, or a step of the server's own
pub data Turn : Type 0 where
  came : Part → Turn
  steps : Turn

-- the lines of all turns
abbrev pub whole_in_turns : List Turn → List ℕ
whole_in_turns [] = []
whole_in_turns (came p ∷ turns) = p.whole ++ whole_in_turns turns
whole_in_turns (steps ∷ turns) = whole_in_turns turns

-- the next round of the store has begun, as by a roll to as many entries; all else that a client can see stays
pub record IsRolled (v w : KeptValue) : Type 0 where
  pub store : OpenedValue
  pub stands : v.server.stepped.script ≡ only_store store
  pub is : w.server ≡ record { stepped = record v.server.stepped { script = only_store (rolled store) }; lines = v.server.lines }

-- what a step does: nothing that a client can see, or a roll
abbrev pub IsStepped : KeptValue → KeptValue → Type 0
IsStepped v w = (w.server ≡ v.server) ⊎ IsRolled v w

-- the turns are answered with this text, one after another, and lead from one server to the other
abbrev pub AreTurned : KeptValue → List Turn → List ℕ → KeptValue → Type 0
AreTurned v [] text w = (text ≡ []) × (v ≡ w)
AreTurned v (came p ∷ turns) text w = (first rest : List ℕ) × (u : KeptValue) × Serves served_kept (kept_so p.is_kept v) (lines_of p.whole) first u × AreTurned u turns rest w × (text ≡ first ++ rest) × IsTimely served_kept would_change mark_of kept_so has_store v p
AreTurned v (steps ∷ turns) text w = (u : KeptValue) × IsStepped v u × AreTurned u turns text w

-- a log's text, carried out, makes the same of what a log keeps, and its marks agree
pub record GivesBack (text : List ℕ) (v : KeptValue) : Type 0 where
  pub same : length text ≤ text_limit → (again : KeptValue) → IsReplayed resumed_kept idle_kept text again → kept_part v ≡ kept_part again
  pub agrees : length text ≤ text_limit → (again : KeptValue) → IsReplayed resumed_kept idle_kept text again → marks_agree again.sums ≡ true

-- the same of a server before a part, where this isn't kept, or behind it
abbrev pub GivesLast : List ℕ → KeptValue → Part → Type 0
GivesLast text v p = ((p.is_kept ≡ false) × GivesBack text v) ⊎ ((p.is_kept ≡ true) × (said : List ℕ) × (w : KeptValue) × Serves served_kept (kept_so true v) (lines_of p.whole) said w × GivesBack text w)

-- What a crash leaves of the lines in some bytes that come after those of a state: all lines of some turns were answered, and the log gives back what they have made. Of the part behind them, if one had begun, all lines that change something are there or none, and some may have been answered.
pub record LeavesTurns (v : KeptValue) (s : Batched) (bytes text : List ℕ) (before after : Option (List ℕ)) : Type 0 where
  pub turns : List Turn
  pub said : List ℕ
  pub value : KeptValue
  pub turned : AreTurned v turns said value
  pub last : Part
  pub timely : IsTimely served_kept would_change mark_of kept_so has_store value last
  pub more : List ℕ
  pub lines : (batched s bytes).whole ≡ whole_in_turns turns ++ (last.whole ++ more)
  pub gives : GivesLast text value last
  pub between : Option (List ℕ)
  pub written : Appends before between said
  pub answered : (after ≡ between) ⊎ ((left : Option (List ℕ)) × (stop : Stop) × Stops None served_kept (kept_so last.is_kept value) last.whole left stop between after)

-- Which lines take the place of a log's: those of its saved store, and a mark.
use Rattle.std.specs.Prelude.{◌≡◌, ℕ, ◌≤◌, Bool, true, false, ◌||◌, nat_lt, List, [], ◌∷◌, ◌++◌, length, None, Some, Result, Ok, Err, IsTrue, ⊤}
use Rattle.serde_json.specs.Written.{compact_text}
use Rattle.sqlite_disk.specs.declared.Disk.{Ghosts}
use Rattle.snap_marks.specs.Sums.{mark_behind, marks_agree, no_sums}
use Rattle.snap_pair.specs.Pair.{first_after, first_of, second_after, second_of}
use Rattle.snap_pair.specs.declared.error.Failed.TheVariants.{NotKept, Unknown}
use Rattle.snap_pair.specs.declared.pair.Pair.{Pair}
use Rattle.snap_pieces.specs.declared.line.Line.{Line}
use Rattle.snap_pieces.specs.Written.{line_data}
use Rattle.snap_script.specs.declared.command.Command.TheVariants.{Restore}
use Rattle.snap_script.specs.declared.line.Line.TheVariants.{Command}
use Rattle.snap_session.specs.Kept.{KeptValue, idle_kept, kept_line}
use Rattle.snap_session.specs.Resumed.{resumed_kept}
use Rattle.snap_session.specs.Commands.{roll}
use Rattle.snap_session.specs.Opened.{OpenedValue, ScriptValue, only_store}
use Rattle.snap_session.specs.Saving.{saving_of}
use Rattle.snap_session.specs.declared.saving.Saving.TheVariants as savings
use Rattle.snap_durable.specs.Served.{IsReplayed, text_limit}
use Rattle.snap_durable.specs.declared.shorten.NoCheckpoint.{NoCheckpoint}
use Rattle.snap_durable.specs.declared.shorten.NoCheckpoint.TheVariants as whys
use Rattle.snap_durable.specs.declared.shorten.Uncheckpointed.{Uncheckpointed}
use Rattle.snap_durable.specs.declared.shorten.Uncheckpointed.TheVariants.{Unmade, Failed}

-- the JSON of a saved line, with its line feed
abbrev pub saved_line : Line → List ℕ
saved_line line = compact_text (line_data line) ++ 10 ∷ []

-- what a start reads of it, while no store stands, is the command that restores the line; it has at most 16 MiB
pub record IsTold (line : Line) : Type 0 where
  pub read : (s : ScriptValue) → s.store ≡ None → kept_line s (compact_text (line_data line)) ≡ Ok (Command 0 (Restore (Ok line)))
  pub fits : length (compact_text (line_data line)) ≤ 16777216

-- it has more bytes than a line of a script may have
abbrev pub is_long : Line → Bool
is_long line = nat_lt 16777216 (length (compact_text (line_data line)))

-- one of the lines has
abbrev pub has_long : List Line → Bool
has_long [] = false
has_long (line ∷ lines) = is_long line || has_long lines

-- those of all lines
abbrev pub saved_text : List Line → List ℕ
saved_text [] = []
saved_text (line ∷ lines) = saved_line line ++ saved_text lines

-- the mark of lines of which none has an answer, with its line feed
abbrev pub mark_text : List ℕ → List ℕ
mark_text lines = mark_behind no_sums lines ++ 10 ∷ []

-- the lines between two marks: the first is of no line, by which the text is known as a checkpoint's, and the last one is of them
abbrev pub checkpoint_text : List Line → List ℕ
checkpoint_text lines = mark_text [] ++ (saved_text lines ++ mark_text (saved_text lines))

-- a store after a roll to as many entries
abbrev pub rolled : OpenedValue → OpenedValue
rolled s = record { world = (roll s.world s.world.limit).0 }

-- the lines of the store that a text makes, whose marks agree; carried out, they give back the very store that a roll leaves, and their marks agree
pub record IsCheckpoint (text text_new : List ℕ) : Type 0 where
  pub begun : KeptValue
  pub replayed : IsReplayed resumed_kept idle_kept text begun
  pub agrees : marks_agree begun.sums ≡ true
  pub lines : List Line
  pub saved : saving_of begun.server.stepped.script.store ≡ savings.Lines lines
  pub is : text_new ≡ checkpoint_text lines
  pub gives_back : (s : OpenedValue) → begun.server.stepped.script.store ≡ Some s → length text_new ≤ text_limit → (again : KeptValue) → IsReplayed resumed_kept idle_kept text_new again → again.server.stepped.script ≡ only_store (rolled s)
  pub agrees_again : (s : OpenedValue) → begun.server.stepped.script.store ≡ Some s → length text_new ≤ text_limit → (again : KeptValue) → IsReplayed resumed_kept idle_kept text_new again → marks_agree again.sums ≡ true

-- of what lines have made no checkpoint is made: marks don't agree, or no store can be saved
abbrev pub IsUnsaved : KeptValue → NoCheckpoint → Type 0
IsUnsaved v (whys.Replay error) = ⊥
IsUnsaved v (whys.Differs sums) = (sums ≡ v.sums) × (marks_agree v.sums ≡ false)
IsUnsaved v whys.NoStore = (marks_agree v.sums ≡ true) × (saving_of v.server.stepped.script.store ≡ savings.NoStore)
IsUnsaved v (whys.Refused why) = (marks_agree v.sums ≡ true) × (saving_of v.server.stepped.script.store ≡ savings.Refused why)
IsUnsaved v whys.TooLong = (lines : List Line) × (saving_of v.server.stepped.script.store ≡ savings.Lines lines) × (has_long lines ≡ true)
IsUnsaved v (whys.OutOfMemory want) = ⊤

-- the lines weren't written
abbrev pub IsUnwritten : List Line → NoCheckpoint → Type 0
IsUnwritten lines whys.TooLong = has_long lines ≡ true
IsUnwritten lines (whys.OutOfMemory want) = ⊤
IsUnwritten lines (whys.Replay error) = ⊥
IsUnwritten lines (whys.Differs sums) = ⊥
IsUnwritten lines whys.NoStore = ⊥
IsUnwritten lines (whys.Refused why) = ⊥

-- a text has made that, where it was carried out
abbrev pub HasUnsaved : List ℕ → NoCheckpoint → Type 0
HasUnsaved text why = (v : KeptValue) × IsReplayed resumed_kept idle_kept text v × IsUnsaved v why

-- no checkpoint is made of a text: it wasn't carried out, it has made what can't be saved, or memory was refused
abbrev pub IsUnmade : List ℕ → NoCheckpoint → Type 0
IsUnmade text (whys.Replay error) = ⊤
IsUnmade text (whys.Differs sums) = HasUnsaved text (whys.Differs sums)
IsUnmade text whys.NoStore = HasUnsaved text whys.NoStore
IsUnmade text (whys.Refused why) = HasUnsaved text (whys.Refused why)
IsUnmade text whys.TooLong = HasUnsaved text whys.TooLong
IsUnmade text (whys.OutOfMemory want) = ⊤

module _ {D : Type 0} {g : Ghosts D} where
  -- where none was made, this holds of the log and of why
  abbrev pub IfUnmade : Result (Pair D g) (Uncheckpointed D g) → (Pair D g → NoCheckpoint → Type 0) → Type 0
  IfUnmade (Ok pair) P = ⊤
  IfUnmade (Err (Unmade pair why)) P = P pair why
  IfUnmade (Err (Failed failed)) P = ⊤

  -- where the lines stand as they were, this holds of the log
  abbrev pub IfStands : Result (Pair D g) (Uncheckpointed D g) → (Pair D g → Type 0) → Type 0
  IfStands (Ok pair) P = ⊤
  IfStands (Err (Unmade pair why)) P = P pair
  IfStands (Err (Failed (NotKept pair error))) P = P pair
  IfStands (Err (Failed (Unknown first second error))) P = ⊤

  -- the first file where no checkpoint was made
  abbrev pub first_unmade : Uncheckpointed D g → D
  first_unmade (Unmade pair why) = first_of pair
  first_unmade (Failed failed) = first_after first_of (Err failed)

  -- the second one
  abbrev pub second_unmade : Uncheckpointed D g → D
  second_unmade (Unmade pair why) = second_of pair
  second_unmade (Failed failed) = second_after second_of (Err failed)

  -- the first file, however it ended
  abbrev pub first_left : Result (Pair D g) (Uncheckpointed D g) → D
  first_left (Ok pair) = first_of pair
  first_left (Err why) = first_unmade why

  -- the second one
  abbrev pub second_left : Result (Pair D g) (Uncheckpointed D g) → D
  second_left (Ok pair) = second_of pair
  second_left (Err why) = second_unmade why

  -- no answer of them was a lie
  abbrev pub AreHonestLeft : Result (Pair D g) (Uncheckpointed D g) → Type 0
  AreHonestLeft result = IsTrue (g.is_clean (first_left result)) × IsTrue (g.is_clean (second_left result))

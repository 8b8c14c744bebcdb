-- What is found in a log and in the lines of a saved store; cited by the public clauses of `check_log`, `check_saved` and `begins_saved`.
use Rattle.std.specs.Prelude.{◌≡◌, ℕ, Bool, true, false, not, ◌&&◌, List, [], ◌∷◌, Option, None, Some, Result, Ok, Err, option_map, ⊤}
use Rattle.snap_marks.specs.Marks.{is_mark_line}
use Rattle.snap_marks.specs.Sums.{marks_agree}
use Rattle.snap_script.specs.Lines.{line_of}
use Rattle.snap_script.specs.declared.command.Command.{Command as AnyCommand}
use Rattle.snap_script.specs.declared.command.Command.TheVariants.{Restore}
use Rattle.snap_script.specs.declared.fault.Fault.{Fault}
use Rattle.snap_script.specs.declared.line.Line.{Line as AnyLine}
use Rattle.snap_script.specs.declared.line.Line.TheVariants.{Command, Empty}
use Rattle.snap_script.specs.declared.unknown.FieldRule.TheVariants.{Any}
use Rattle.snap_lines.specs.Lines.{lines_of}
use Rattle.snap_lines.specs.Transcripts.{Transcript, transcript}
use Rattle.snap_lines.specs.declared.stop.Stop.{Stop}
use Rattle.snap_lines.specs.declared.stop.Stop.TheVariants.{Line, InputFailed, OutputFailed, OutOfMemory}
use Rattle.snap_session.specs.Kept.{KeptValue, idle_kept}
use Rattle.snap_session.specs.Resumed.{resumed_kept}
use Rattle.snap_session.specs.Opened.{ScriptValue}
use Rattle.snap_session.specs.Script.{RunnerValue, effect_of, unbegun}
use Rattle.snap_session.specs.declared.run.RunOptions.{RunOptions}
use Rattle.snap_durable.specs.Holdings.{OfNamespace, contents_of}
use Rattle.snap_durable.specs.Parts.{line_read}
use Rattle.snap_durable.specs.Served.{IsReplayed}
use Rattle.snap_durable.specs.declared.check.Checked.{Checked}
use Rattle.snap_durable.specs.declared.holding.Contents.{Contents}

-- what a script's store has, where it has opened one
abbrev pub contents_in : {H : Type 0} → OfNamespace H → ScriptValue → Option (Contents H)
contents_in of s = option_map (contents_of of) (option_map (λ opened. opened.world) s.store)

-- what is told of a server: it is whole exactly where its marks agree
abbrev pub checked_of : {H : Type 0} → OfNamespace H → KeptValue → Checked H
checked_of of v = record { is_whole = marks_agree v.sums; sums = v.sums; contents = contents_in of v.server.stepped.script }

-- a log of this text was carried out from no store on, and this is told of what it makes
pub record IsLogChecked {H : Type 0} (of : OfNamespace H) (text : List ℕ) (checked : Checked H) : Type 0 where
  pub value : KeptValue
  pub replayed : IsReplayed resumed_kept idle_kept text value
  pub told : checked ≡ checked_of of value

-- the lines of a saved store are carried out up to the first that is refused
abbrev pub saved_options : RunOptions
saved_options = record { fields = Any; stops_at_refusal = true }

-- what these lines make, and their first fault
abbrev pub saved_run : List ℕ → Transcript RunnerValue
saved_run bytes = transcript None effect_of (unbegun saved_options) bytes

-- no line has a fault or is refused, and the store has this
abbrev pub IsSavedChecked : {H : Type 0} → OfNamespace H → List ℕ → Option (Contents H) → Type 0
IsSavedChecked of bytes contents = ((saved_run bytes).fault ≡ None) × (contents ≡ contents_in of (saved_run bytes).value.stepped.script)

-- where they end at a line, this is the first that has a fault or is refused
abbrev pub IsFirstFault : List ℕ → Stop → Type 0
IsFirstFault bytes (Line fault) = (saved_run bytes).fault ≡ Some fault
IsFirstFault bytes InputFailed = ⊤
IsFirstFault bytes OutputFailed = ⊤
IsFirstFault bytes (OutOfMemory want) = ⊤

-- the command of a line of a saved store
abbrev pub is_saved_command : AnyCommand → Bool
is_saved_command (Restore line) = true
is_saved_command command = false

-- what was read of a line is a line of a saved store
abbrev pub is_saved_line : Result AnyLine Fault → Bool
is_saved_line (Ok (Command session command)) = is_saved_command command
is_saved_line (Ok Empty) = false
is_saved_line (Err fault) = false

-- a line, without its line feed, is one of a saved store
abbrev pub restores : List ℕ → Bool
restores line = is_saved_line (line_of Any false line)

-- the first of these lines is a mark
abbrev pub begins_marked : List (List ℕ) → Bool
begins_marked [] = false
begins_marked (line ∷ lines) = is_mark_line (line_read line)

-- the first of these lines is one of a saved store, and no mark is behind it
abbrev pub begins_with_saved : List (List ℕ) → Bool
begins_with_saved [] = false
begins_with_saved (line ∷ lines) = restores (line_read line) && not (begins_marked lines)

-- the same of a text
abbrev pub begins_saved : List ℕ → Bool
begins_saved text = begins_with_saved (lines_of text)

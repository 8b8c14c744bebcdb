-- What a server answers, line for line; cited by the public clauses of `serve`.
use Rattle.std.specs.Prelude.{ℕ, List, Option, None, is_some, Result, Ok, Err}
use Rattle.std.specs.Option.{option_map_or}
use Rattle.snap_script.specs.declared.fault.Fault.{Fault}
use Rattle.snap_script.specs.declared.line.Line.{Line}
use Rattle.snap_script.specs.declared.request.Id.{Id}
use Rattle.snap_script.specs.declared.response.Response.{Response}
use Rattle.snap_script.specs.declared.response.Response.TheVariants as responses
use Rattle.snap_script.specs.declared.unknown.FieldRule.TheVariants.{KnownAndId}
use Rattle.snap_script.specs.Lines.{line_of}
use Rattle.snap_script.specs.Requests.{id_of}
use Rattle.snap_script.specs.Responses.{response_line}
use Rattle.snap_lines.specs.Effects.{Effect, Effects}
use Rattle.snap_lines.specs.Transcripts.{Stops, Transcript, next_line, transcript}
use Rattle.snap_lines.specs.declared.stop.Stop.{Stop}
use Rattle.snap_lines.specs.declared.stop.Stop.TheVariants as stops
use Rattle.snap_session.specs.Script.{SteppedValue, line_step, unstepped}

-- a script, and how many lines were answered
pub record ServerValue : Type 0 where
  pub stepped : SteppedValue
  pub lines : ℕ

-- before the first line
abbrev pub idle : ServerValue
idle = record { stepped = unstepped; lines = 0 }

-- what was read of the line of this number, and what it makes of the script: one that is no command does nothing, and one that is empty has no answer
abbrev pub responded : SteppedValue → ℕ → Result Line Fault → SteppedValue × Response
responded s number (Ok line) = ((line_step s line).0, option_map_or responses.Answer (line_step s line).1 responses.Empty)
responded s number (Err fault) = (s, responses.Fault fault number)

-- the effect of a line that has this id, or none
abbrev pub effect_responded : ℕ → Option Id → SteppedValue × Response → Effect ServerValue
effect_responded number id after = record { value = record { stepped = after.0; lines = number }; text = response_line id after.1 }

-- what the bytes of a line do, which has no fault
unfoldable pub served : Effects ServerValue
served s bytes = Ok (effect_responded (next_line s.lines) (id_of bytes) (responded s.stepped (next_line s.lines) (line_of KnownAndId (is_some s.stepped.script.store) bytes)))

-- the transcript of a server, which begins without a store; its lines have no limit
abbrev pub service : List ℕ → Transcript ServerValue
service = transcript None served idle

-- what was written where a server over these bytes stops, with what the input has left: never at a line
abbrev pub HasStoppedServing : List ℕ → Option (List ℕ) → Stop → Option (List ℕ) → Option (List ℕ) → Type 0
HasStoppedServing bytes left (stops.Line fault) before after = ⊥
HasStoppedServing bytes left stop before after = Stops None served idle bytes left stop before after

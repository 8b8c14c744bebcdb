-- What a server answers, line for line, where lines that change its store are kept first; cited by the public clauses of `KeptServer`.
use Rattle.std.specs.Prelude.{◌≡◌, List, ℕ, Bool, true, false, not, ◌&&◌, ◌||◌, if◌then◌else◌, is_some, Result, Ok, Err}
use Rattle.snap_script.specs.Changes.{changes_store}
use Rattle.snap_script.specs.Lines.{line_of}
use Rattle.snap_script.specs.Requests.{id_of}
use Rattle.snap_script.specs.declared.command.Command.TheVariants.{Roll}
use Rattle.snap_script.specs.declared.fault.Fault.{Fault}
use Rattle.snap_script.specs.declared.line.Line.{Line}
use Rattle.snap_script.specs.declared.line.Line.TheVariants.{Empty, Command}
use Rattle.snap_script.specs.declared.response.Response.{Response}
use Rattle.snap_script.specs.declared.response.Response.TheVariants.{NotKept}
use Rattle.snap_script.specs.declared.unknown.FieldRule.TheVariants.{KnownAndId}
use Rattle.snap_lines.specs.Effects.{Effect, Effects}
use Rattle.snap_marks.specs.declared.sums.Sums.{Sums}
use Rattle.snap_marks.specs.Marks.{is_mark_line}
use Rattle.snap_marks.specs.Sums.{going_on, mark_behind, mark_compared, no_sums, passed, summed}
use Rattle.snap_lines.specs.Transcripts.{next_line}
use Rattle.snap_session.specs.Opened.{OpenedValue, ScriptValue, only_store}
use Rattle.snap_session.specs.Script.{SteppedValue}
use Rattle.snap_session.specs.Service.{ServerValue, effect_responded, idle, responded}

-- a server, whether lines that change its store are carried out: where they can't be kept, they aren't; and the sums of those that were, and of their answers
pub record KeptValue : Type 0 where
  pub server : ServerValue
  pub keeps : Bool
  pub sums : Sums

-- before the first line
abbrev pub idle_kept : KeptValue
idle_kept = record { server = idle; keeps = true; sums = no_sums }

-- the same, and from now on such lines are carried out, or they aren't
abbrev pub kept_so : Bool → KeptValue → KeptValue
kept_so keeps v = record { server = v.server; keeps = keeps; sums = v.sums }

-- the same, after so many lines
abbrev pub counted_from : ℕ → KeptValue → KeptValue
counted_from lines v = record { server = record { stepped = v.server.stepped; lines = lines }; keeps = v.keeps; sums = v.sums }

-- and the next line is the first
abbrev pub counted_anew : KeptValue → KeptValue
counted_anew v = counted_from 0 v

-- a store stands, and stands for good
abbrev pub has_store : KeptValue → Bool
has_store v = is_some v.server.stepped.script.store

-- what was read of a line is a command that may change a store, or opens one
abbrev pub is_changing : Result Line Fault → Bool
is_changing (Ok (Command session command)) = changes_store command
is_changing (Ok Empty) = false
is_changing (Err fault) = false

-- what is read of a line: a mark is passed over, as an empty line
abbrev pub kept_line : ScriptValue → List ℕ → Result Line Fault
kept_line s bytes = if is_mark_line bytes then Ok Empty else line_of KnownAndId (is_some s.store) bytes

-- the line would change a store, or open one
abbrev pub would_change : KeptValue → List ℕ → Bool
would_change v bytes = is_changing (kept_line v.server.stepped.script bytes)

-- what was read of the next line, and what it makes of the script: as of any server, or nothing, where it changes one and such lines aren't carried out
abbrev pub responded_kept : KeptValue → Result Line Fault → SteppedValue × Response
responded_kept v line = if v.keeps || not (is_changing line) then responded v.server.stepped (next_line v.server.lines) line else (v.server.stepped, NotKept)

-- the sums behind a line that has this text: a mark is compared with them, and a line that was kept and carried out is added
abbrev pub sums_after : KeptValue → List ℕ → List ℕ → Sums
sums_after v bytes text =
    if is_mark_line bytes then mark_compared v.sums bytes
    else if v.keeps && would_change v bytes then summed v.sums bytes text
    else passed v.sums

-- the effect on the server, and on the sums
abbrev pub effect_summed : KeptValue → List ℕ → Effect ServerValue → Effect KeptValue
effect_summed v bytes e = record { value = record { server = e.value; keeps = v.keeps; sums = sums_after v bytes e.text }; text = e.text }

-- what the bytes of a line do, which has no fault
unfoldable pub served_kept : Effects KeptValue
served_kept v bytes = Ok (effect_summed v bytes (effect_responded (next_line v.server.lines) (id_of bytes) (responded_kept v (kept_line v.server.stepped.script bytes))))

-- the mark that is kept behind further lines
abbrev pub mark_of : KeptValue → List ℕ → List ℕ
mark_of v lines = mark_behind v.sums lines

-- sums go on from a mark
abbrev pub gone_on : List ℕ → KeptValue → KeptValue
gone_on mark v = record { server = v.server; keeps = v.keeps; sums = going_on v.sums mark }

-- a store stands, and nothing else is kept of stores; and what is read of the line is a roll of it to as many entries as its round may have
pub record IsWholeRoll (v : KeptValue) (line : List ℕ) : Type 0 where
  pub store : OpenedValue
  pub stands : v.server.stepped.script ≡ only_store store
  pub reads : kept_line v.server.stepped.script line ≡ Ok (Command 0 (Roll store.world.limit))

-- what a log is kept of: the script, and the sums of the lines that changed it and of their answers
pub record KeptPart : Type 0 where
  pub script : ScriptValue
  pub lines : List ℕ
  pub answers : List ℕ

-- this part of a server
abbrev pub kept_part : KeptValue → KeptPart
kept_part v = record { script = v.server.stepped.script; lines = v.sums.lines; answers = v.sums.answers }

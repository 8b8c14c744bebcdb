-- What a line of a script is; cited by the public clause of `read_line`.
use Rattle.std.specs.Prelude.{ℕ, Bool, true, false, ◌||◌, ◌==◌, nat_lt, if◌then◌else◌, List, length, Option, Some, None, Result, Ok, Err}
use Rattle.std.specs.List.{list_all}
use Rattle.std.specs.Option.{ok_or, is_some}
use Rattle.std.specs.Str.{is_utf8}
use Rattle.serde_json.specs.Data.{Data}
use Rattle.serde_json.specs.Read.{read}
use Rattle.serde_json.specs.Find.{as_object}
use Rattle.snap_call.specs.declared.config.Config.{Config}
use Rattle.snap_call.specs.Results.{◌>>=◌}
use Rattle.snap_script.specs.declared.fault.Field.TheVariants as fields
use Rattle.snap_script.specs.declared.fault.Fault.{Fault}
use Rattle.snap_script.specs.declared.fault.Fault.TheVariants.{TooLong, NotJson, NotAnObject, FirstLineMustBeOpen, OpenTwice, NoSuchCommand}
use Rattle.snap_script.specs.declared.line.Line.{Line}
use Rattle.snap_script.specs.declared.line.Line.TheVariants as lines
use Rattle.snap_script.specs.declared.unknown.FieldRule.{FieldRule}
use Rattle.snap_script.specs.declared.unknown.FieldRule.TheVariants as rules
use Rattle.snap_script.specs.declared.verb.Verb.{Verb}
use Rattle.snap_script.specs.declared.verb.Verb.TheVariants.{Open, Restore}
use Rattle.snap_script.specs.Faults.{fault_told}
use Rattle.snap_script.specs.Fields.{text, optional, as_natural}
use Rattle.snap_script.specs.Words.{near_command, verb_of}
use Rattle.snap_script.specs.Commands.{config_of, command_of}
use Rattle.snap_script.specs.Known.{known_fields}

-- nothing but spaces, tabs and carriage returns
abbrev pub is_empty : List ℕ → Bool
is_empty = list_all (λ byte. byte == 32 || byte == 9 || byte == 13)

-- the value of a line: none where its bytes are no UTF-8 or no JSON
unfoldable pub json_of : List ℕ → Result Data Fault
json_of bytes = if is_utf8 bytes then ok_or (read bytes) NotJson else Err NotJson

-- the value, where it is an object
abbrev pub object_of : Data → Result Data Fault
object_of line = if is_some (as_object line) then Ok line else Err NotAnObject

-- the object that the bytes of a line are
unfoldable pub object_in : List ℕ → Result Data Fault
object_in bytes = do object_of (← json_of bytes)

-- the first command is open or a line of a saved store, and none is one of them once a store stands
abbrev pub allowed_by : Bool → Option Verb → List ℕ → Result Verb Fault
allowed_by false (Some Open) word = Ok Open
allowed_by false (Some Restore) word = Ok Restore
allowed_by false verb word = Err FirstLineMustBeOpen
allowed_by true (Some Open) word = Err OpenTwice
allowed_by true (Some Restore) word = Err OpenTwice
allowed_by true (Some verb) word = Ok verb
allowed_by true None word = Err (NoSuchCommand (near_command word))

-- the same by the command's word
unfoldable pub allowed : Bool → List ℕ → Result Verb Fault
allowed opened word = allowed_by opened (verb_of word) word

-- the command of an object, with its session, 0 where none is named
unfoldable pub command_in : FieldRule → Bool → Data → Result Line Fault
command_in rule opened line = do
  verb ← allowed opened (← text fields.Do line)
  known ← known_fields rule verb line
  session ← optional as_natural fields.Session (Ok 0) line
  Ok (lines.Command session (← command_of rule verb line))

-- what was read, with a fault as the rule tells it
abbrev pub told_by_rule : {A : Type 0} → FieldRule → Result A Fault → Result A Fault
told_by_rule rule (Ok a) = Ok a
told_by_rule rule (Err fault) = Err (fault_told rule fault)

-- the command of a line that isn't empty
unfoldable pub command_line : FieldRule → Bool → List ℕ → Result Line Fault
command_line rule opened bytes = do told_by_rule rule (command_in rule opened (← object_in bytes))

-- the session of a line that opens a store where none is named is a number, except where any field may stand
unfoldable pub session_known : FieldRule → Data → Result Unit Fault
session_known rules.Any line = Ok tt
session_known rules.Known line = do session ← optional as_natural fields.Session (Ok 0) line; Ok tt
session_known rules.KnownAndId line = do session ← optional as_natural fields.Session (Ok 0) line; Ok tt

-- the word is that of open
abbrev pub opens : Option Verb → Result Unit Fault
opens (Some Open) = Ok tt
opens verb = Err FirstLineMustBeOpen

-- the store that a first line opens, where no session is named
unfoldable pub opening_of : FieldRule → Data → Result Config Fault
opening_of rule line = do
  first ← opens (verb_of (← text fields.Do line))
  known ← known_fields rule Open line
  session ← session_known rule line
  config_of line

-- a line has at most 16 MiB, without its line feed
abbrev pub max_line : ℕ
max_line = 16777216

-- a line, without its line feed, by the fields that it may have
unfoldable pub line_of : FieldRule → Bool → List ℕ → Result Line Fault
line_of rule opened bytes = if nat_lt max_line (length bytes) then Err TooLong else (if is_empty bytes then Ok lines.Empty else command_line rule opened bytes)

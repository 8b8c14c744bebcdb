-- File operations, as lines and jobs have them; cited by the public clauses of `read_line`, through Commands.antt, and of
-- `operations`. The fields are tested in the order in which they stand.
use Rattle.std.specs.Prelude.{ℕ, ◌+◌, if◌then◌else◌, List, [], ◌∷◌, Option, Some, None, Result, Ok, Err}
use Rattle.std.specs.Option.{is_some, ok_or}
use Rattle.serde_json.specs.Data.{Data, Items, no_items, item}
use Rattle.serde_json.specs.Find.{as_array, as_object, as_str}
use Rattle.snap_path.specs.Text.{Names, is_path, path_names}
use Rattle.snap_upper.specs.declared.op.Op.{Op}
use Rattle.snap_upper.specs.declared.op.Op.TheVariants as ops
use Rattle.snap_call.specs.Results.{◌>>=◌}
use Rattle.snap_script.specs.declared.fault.Field.{Field}
use Rattle.snap_script.specs.declared.fault.Field.TheVariants as fields
use Rattle.snap_script.specs.declared.fault.Found.TheVariants.{Text}
use Rattle.snap_script.specs.declared.fault.Fault.{Fault}
use Rattle.snap_script.specs.declared.fault.Fault.TheVariants.{BadField, NoSuchCommand, NotAnObject}
use Rattle.snap_script.specs.declared.unknown.FieldRule.{FieldRule}
use Rattle.snap_script.specs.declared.verb.Verb.{Verb}
use Rattle.snap_script.specs.declared.verb.Verb.TheVariants as verbs
use Rattle.snap_script.specs.declared.verb.FileVerb.{FileVerb}
use Rattle.snap_script.specs.declared.verb.FileVerb.TheVariants as file_verbs
use Rattle.snap_script.specs.declared.verb.PathVerb.{PathVerb}
use Rattle.snap_script.specs.declared.verb.PathVerb.TheVariants as path_verbs
use Rattle.snap_script.specs.Faults.{of_operation}
use Rattle.snap_script.specs.Fields.{text, required, optional, given, as_natural, as_mode, content_bytes_of}
use Rattle.snap_script.specs.Known.{known_operation}
use Rattle.snap_script.specs.Words.{near_file_command, verb_of}

-- the path that a text is
abbrev pub path_of : List ℕ → Option Names
path_of t = if is_path t then Some (path_names t) else None

-- the path of a field's text, which must be there, and none where the text is no path
unfoldable pub path_in : Field → Data → Result (Option Names) Fault
path_in field line = do Ok (path_of (← text field line))

-- a path that must be there
unfoldable pub path : Field → Data → Result Names Fault
path field line = do ok_or (← path_in field line) (BadField field (Some Text))

-- the operation of the verb at a path, with the line's other fields; the mode of a new directory is octal 755 and that of a new file octal 644 where it is absent
unfoldable pub operation_at : PathVerb → Names → Data → Result Op Fault
operation_at path_verbs.Mkdir path line = do Ok (ops.Mkdir path (← optional as_mode fields.Mode (Ok 493) line))
operation_at path_verbs.Create path line = do Ok (ops.Create path (← optional as_mode fields.Mode (Ok 420) line))
operation_at path_verbs.Put path line = do Ok (ops.Put path (← optional as_mode fields.Mode (Ok 420) line) (← required as_natural fields.Size line) (← given as_str fields.Digest line))
operation_at path_verbs.Write path line = do Ok (ops.Write path (← optional as_natural fields.Offset (Ok 0) line) (← content_bytes_of line))
operation_at path_verbs.Truncate path line = do Ok (ops.Truncate path (← required as_natural fields.Size line))
operation_at path_verbs.SetMode path line = do Ok (ops.SetMode path (← required as_mode fields.Mode line))
operation_at path_verbs.Symlink path line = do Ok (ops.Symlink path (← text fields.Target line))
operation_at path_verbs.Unlink path line = Ok (ops.Unlink path)
operation_at path_verbs.Rmdir path line = Ok (ops.Rmdir path)
operation_at path_verbs.Opaque path line = Ok (ops.Opaque path)
operation_at path_verbs.Whiteout path line = Ok (ops.Whiteout path)

-- ---- file commands

-- the operation at a path; where there is none, the other fields are tested as at the root
abbrev pub operation_if : PathVerb → Option Names → Data → Result (Result Op Field) Fault
operation_if verb (Some path) line = do Ok (Ok (← operation_at verb path line))
operation_if verb None line = do op ← operation_at verb [] line; Ok (Err fields.Path)

-- an operation from a path to another, where both are paths
abbrev pub both : (Names → Names → Op) → Option Names → Option Names → Result Op Field
both op (Some from) (Some to) = Ok (op from to)
both op None to = Err fields.From
both op (Some from) None = Err fields.To

-- the operation of a file command, or the first field of a path whose text is no path
unfoldable pub file_operation : FileVerb → Data → Result (Result Op Field) Fault
file_operation (file_verbs.At verb) line = do operation_if verb (← path_in fields.Path line) line
file_operation file_verbs.Link line = do Ok (both ops.Link (← path_in fields.From line) (← path_in fields.To line))
file_operation file_verbs.Rename line = do Ok (both ops.Rename (← path_in fields.From line) (← path_in fields.To line))

-- ---- the operations of a job

-- the file command that has the verb; no other verb is one of an operation
abbrev pub file_verb_by : Option Verb → List ℕ → Result FileVerb Fault
file_verb_by (Some (verbs.File verb)) word = Ok verb
file_verb_by verb word = Err (NoSuchCommand (near_file_command word))

-- the same by the operation's word
unfoldable pub file_verb : List ℕ → Result FileVerb Fault
file_verb word = file_verb_by (verb_of word) word

-- the operation of a job by its file command, with paths that are paths
unfoldable pub operation_by : FileVerb → Data → Result Op Fault
operation_by (file_verbs.At verb) line = do operation_at verb (← path fields.Path line) line
operation_by file_verbs.Link line = do Ok (ops.Link (← path fields.From line) (← path fields.To line))
operation_by file_verbs.Rename line = do Ok (ops.Rename (← path fields.From line) (← path fields.To line))

-- the operation that an object is, by the fields that it may have
abbrev pub operation_in : FieldRule → Data → Result Op Fault
operation_in rule line = do
  verb ← file_verb (← text fields.Do line)
  known ← known_operation rule verb line
  operation_by verb line

-- an operation: an object
unfoldable pub operation : FieldRule → Data → Result Op Fault
operation rule line = if is_some (as_object line) then operation_in rule line else Err NotAnObject

-- what was read of the operation of this number, which a fault tells
abbrev pub numbered : {A : Type 0} → ℕ → Result A Fault → Result A Fault
numbered number (Ok a) = Ok a
numbered number (Err fault) = Err (of_operation number fault)

-- each item an operation, of which the first has this number
abbrev pub operations_in : FieldRule → ℕ → Items → Result (List Op) Fault
operations_in rule number no_items = Ok []
operations_in rule number (item d ds) = do op ← numbered number (operation rule d); ops ← operations_in rule (number + 1) ds; Ok (op ∷ ops)

-- the operations of a job: an array of them, which are counted from 1
unfoldable pub operations : FieldRule → Data → Result (List Op) Fault
operations rule line = do operations_in rule 1 (← required as_array fields.Ops line)

-- What a line's faults are called; cited by the public clauses of `Field` and `Fault`.
use Rattle.std.specs.Prelude.{ℕ, List, ◌++◌, Option, Some, None, codes, decimal}
use Rattle.snap_script.specs.declared.fault.Field.{Field}
use Rattle.snap_script.specs.declared.fault.Field.TheVariants as fields
use Rattle.snap_script.specs.declared.fault.Found.{Found}
use Rattle.snap_script.specs.declared.fault.Found.TheVariants.{Nothing, Null, Truth, Number, Text, Array, Object}
use Rattle.snap_script.specs.declared.fault.Fault.{Fault}
use Rattle.snap_script.specs.declared.fault.Fault.TheVariants as faults
use Rattle.snap_script.specs.declared.fault.OperationFault.{OperationFault}
use Rattle.snap_script.specs.declared.fault.OperationFault.TheVariants as operation_faults
use Rattle.snap_script.specs.declared.fault.ReadError.{ReadError}
use Rattle.snap_script.specs.declared.fault.ReadError.TheVariants as errors
use Rattle.snap_script.specs.declared.unknown.FieldRule.{FieldRule}
use Rattle.snap_script.specs.declared.unknown.FieldRule.TheVariants as rules
use Rattle.snap_script.specs.declared.refused.Refused.TheVariants as refused
use Rattle.snap_script.specs.Refusals.{config_field_name, refused_name}
use Rattle.snap_script.specs.Restoring.{restore_words}

-- a field's name, as it stands in a line
abbrev pub field_name : Field → List ℕ
field_name fields.Do = codes "do"
field_name fields.Session = codes "s"
field_name fields.Id = codes "id"
field_name fields.Root = codes "root"
field_name fields.Namespaces = codes "namespaces"
field_name fields.Journal = codes "journal"
field_name fields.Slots = codes "slots"
field_name fields.LayerInodes = codes "layer_inodes"
field_name fields.Ancestors = codes "ancestors"
field_name fields.Namespace = codes "ns"
field_name fields.Key = codes "key"
field_name fields.Parent = codes "parent"
field_name fields.Labels = codes "labels"
field_name fields.Paths = codes "paths"
field_name fields.After = codes "after"
field_name fields.Most = codes "max"
field_name fields.Kind = codes "kind"
field_name fields.Need = codes "need"
field_name fields.Want = codes "want"
field_name fields.Name = codes "name"
field_name fields.Lease = codes "lease"
field_name fields.Until = codes "until"
field_name fields.Moment = codes "now"
field_name fields.Try = codes "try"
field_name fields.Chain = codes "chain"
field_name fields.Quiet = codes "quiet"
field_name fields.Full = codes "full"
field_name fields.Peek = codes "peek"
field_name fields.Whole = codes "whole"
field_name fields.Blocks = codes "blocks"
field_name fields.Inodes = codes "inodes"
field_name fields.Path = codes "path"
field_name fields.Mode = codes "mode"
field_name fields.Offset = codes "offset"
field_name fields.Size = codes "size"
field_name fields.Digest = codes "digest"
field_name fields.Target = codes "target"
field_name fields.From = codes "from"
field_name fields.To = codes "to"
field_name fields.Text = codes "text"
field_name fields.Fill = codes "fill"
field_name fields.Extra = codes "extra"
field_name fields.Ops = codes "ops"
field_name fields.End = codes "end"

-- what a field has to be: the kind of its value, and the words for it
abbrev pub wanted : Field → Found × List ℕ
wanted fields.Session = (Number, codes "a number")
wanted fields.Journal = (Number, codes "a number")
wanted fields.Slots = (Number, codes "a number")
wanted fields.LayerInodes = (Number, codes "a number")
wanted fields.Ancestors = (Number, codes "a number")
wanted fields.Most = (Number, codes "a number")
wanted fields.Until = (Number, codes "a number")
wanted fields.Moment = (Number, codes "a number")
wanted fields.Blocks = (Number, codes "a number")
wanted fields.Inodes = (Number, codes "a number")
wanted fields.Mode = (Number, codes "a number")
wanted fields.Offset = (Number, codes "a number")
wanted fields.Size = (Number, codes "a number")
wanted fields.Try = (Truth, codes "true or false")
wanted fields.Chain = (Truth, codes "true or false")
wanted fields.Quiet = (Truth, codes "true or false")
wanted fields.Full = (Truth, codes "true or false")
wanted fields.Peek = (Truth, codes "true or false")
wanted fields.Whole = (Truth, codes "true or false")
wanted fields.Do = (Text, codes "the word of a command, in a job that of a file command,")
wanted fields.After = (Text, codes "a text in a walk, a tree or a diff, a number of digits alone below 2^64 in a journal or a save")
wanted fields.Kind = (Text, codes "View, Active or Committed")
wanted fields.Path = (Text, codes "a path")
wanted fields.From = (Text, codes "a path")
wanted fields.To = (Text, codes "a path")
wanted fields.End = (Text, codes "commit or discard")
wanted fields.Namespaces = (Array, codes "an array of [name, blocks, inodes]")
wanted fields.Paths = (Array, codes "an array of texts")
wanted fields.Need = (Array, codes "[blocks, inodes]")
wanted fields.Want = (Array, codes "[blocks, inodes]")
wanted fields.Extra = (Array, codes "[blocks, inodes]")
wanted fields.Fill = (Array, codes "[byte, number up to 1048576]")
wanted fields.Ops = (Array, codes "an array of objects")
wanted fields.Labels = (Object, codes "an object of texts, in a walk also of nulls,")
wanted field = (Text, codes "a text")

-- the words for what is there, where a value of a kind is wanted
abbrev pub found_words : Found → Found → List ℕ
found_words Nothing kind = codes "nothing"
found_words Null kind = codes "null"
found_words Truth kind = codes "a truth value"
found_words Number Number = codes "one that is not of digits alone below 2^64"
found_words Number kind = codes "a number"
found_words Text Text = codes "another text"
found_words Text kind = codes "a text"
found_words Array Array = codes "another array"
found_words Array kind = codes "an array"
found_words Object Object = codes "another object"
found_words Object kind = codes "an object"

-- the words for a field that isn't known, and for the one that is near
abbrev pub unknown_field_words : List ℕ → Option Field → List ℕ
unknown_field_words name None = codes "unknown field " ++ name
unknown_field_words name (Some near) = codes "unknown field " ++ (name ++ (codes ": " ++ (field_name near ++ codes "?")))

-- the words for a bad field, and for what is wanted and what is there
abbrev pub bad_field_words : Field → Option Found → List ℕ
bad_field_words field None = codes "bad field " ++ field_name field
bad_field_words field (Some found) = codes "bad field " ++ (field_name field ++ (codes ": " ++ ((wanted field).1 ++ (codes " is wanted, " ++ (found_words found (wanted field).0 ++ codes " is there")))))

-- the words for the fault of an operation, without its place
abbrev pub operation_words : OperationFault → List ℕ
operation_words operation_faults.NotAnObject = codes "not an object"
operation_words (operation_faults.NoSuchCommand None) = codes "bad field do: the word of a file command is wanted, another text is there"
operation_words (operation_faults.NoSuchCommand (Some near)) = codes "bad field do: " ++ (near ++ codes "?")
operation_words (operation_faults.UnknownField name near) = unknown_field_words name near
operation_words (operation_faults.BadField field found) = bad_field_words field found

-- the words for a fault
abbrev pub fault_words : Fault → List ℕ
fault_words faults.TooLong = codes "too long"
fault_words faults.NotJson = codes "not JSON"
fault_words faults.NotAnObject = codes "not an object"
fault_words faults.FirstLineMustBeOpen = codes "first line must be open"
fault_words faults.OpenTwice = codes "open twice"
fault_words (faults.NoSuchCommand None) = codes "no such command"
fault_words (faults.NoSuchCommand (Some near)) = codes "no such command: " ++ (near ++ codes "?")
fault_words (faults.UnknownField name near) = unknown_field_words name near
fault_words (faults.BadField field found) = bad_field_words field found
fault_words (faults.Operation number fault) = codes "operation " ++ (decimal number ++ (codes ": " ++ operation_words fault))
fault_words (faults.BadOpen None) = codes "bad field open"
fault_words (faults.BadOpen (Some field)) = codes "bad field open: malformed " ++ config_field_name field
fault_words (faults.Refused (refused.BadRestore why)) = codes "BadRestore: " ++ restore_words why
fault_words (faults.Refused why) = refused_name why

-- the fault of the operation of this number, of what a value is no operation for
abbrev pub of_operation : ℕ → Fault → Fault
of_operation number faults.NotAnObject = faults.Operation number operation_faults.NotAnObject
of_operation number (faults.NoSuchCommand near) = faults.Operation number (operation_faults.NoSuchCommand near)
of_operation number (faults.UnknownField name near) = faults.Operation number (operation_faults.UnknownField name near)
of_operation number (faults.BadField field found) = faults.Operation number (operation_faults.BadField field found)
of_operation number faults.TooLong = faults.TooLong
of_operation number faults.NotJson = faults.NotJson
of_operation number faults.FirstLineMustBeOpen = faults.FirstLineMustBeOpen
of_operation number faults.OpenTwice = faults.OpenTwice
of_operation number (faults.Operation place fault) = faults.Operation place fault
of_operation number (faults.BadOpen field) = faults.BadOpen field
of_operation number (faults.Refused why) = faults.Refused why

-- the fault of the job's line, without the operation's place and what is wanted, there or near: a value that is no object is a bad field `ops`, and a word of no file command a bad field `do`
abbrev pub operation_brief : OperationFault → Fault
operation_brief operation_faults.NotAnObject = faults.BadField fields.Ops None
operation_brief (operation_faults.NoSuchCommand near) = faults.BadField fields.Do None
operation_brief (operation_faults.UnknownField name near) = faults.UnknownField name None
operation_brief (operation_faults.BadField field found) = faults.BadField field None

-- the fault without what is wanted and what is there, and without what is near; that of an operation without its place
abbrev pub brief : Fault → Fault
brief (faults.NoSuchCommand near) = faults.NoSuchCommand None
brief (faults.UnknownField name near) = faults.UnknownField name None
brief (faults.BadField field found) = faults.BadField field None
brief (faults.Operation number fault) = operation_brief fault
brief (faults.BadOpen field) = faults.BadOpen None
brief faults.TooLong = faults.TooLong
brief faults.NotJson = faults.NotJson
brief faults.NotAnObject = faults.NotAnObject
brief faults.FirstLineMustBeOpen = faults.FirstLineMustBeOpen
brief faults.OpenTwice = faults.OpenTwice
brief (faults.Refused why) = faults.Refused why

-- the fault as the rule tells it: where any field may stand in a line, it is brief
abbrev pub fault_told : FieldRule → Fault → Fault
fault_told rules.Any fault = brief fault
fault_told rules.Known fault = fault
fault_told rules.KnownAndId fault = fault

-- the same of what a read ends with
abbrev pub error_told : FieldRule → ReadError → ReadError
error_told rule (errors.Fault fault) = errors.Fault (fault_told rule fault)
error_told rule (errors.OutOfMemory want) = errors.OutOfMemory want

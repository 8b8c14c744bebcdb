-- A line that a client may give an id; cited by the public clause of `read_request`.
use Rattle.std.specs.Prelude.{ℕ, nat_lt, if◌then◌else◌, List, length, Option, None, codes}
use Rattle.std.specs.Result.{result_ok}
use Rattle.std.specs.Option.{option_and_then, option_map, option_or}
use Rattle.serde_json.specs.Data.{Data}
use Rattle.serde_json.specs.Find.{get, as_str}
use Rattle.snap_script.specs.declared.request.Id.{Id}
use Rattle.snap_script.specs.declared.request.Id.TheVariants.{Text, Number}
use Rattle.snap_script.specs.Fields.{as_natural}
use Rattle.snap_script.specs.Lines.{is_empty, max_line, object_in}

-- a text or a number
abbrev pub as_id : Data → Option Id
as_id value = option_or (option_map Text (as_str value)) (option_map Number (as_natural value))

-- the id of an object, where it has one
abbrev pub id_in_request : Data → Option Id
id_in_request line = option_and_then as_id (get (codes "id") line)

-- the id of a line, without its line feed: one above 16 MiB and an empty one have none
unfoldable pub id_of : List ℕ → Option Id
id_of bytes = if nat_lt max_line (length bytes) then None else (if is_empty bytes then None else option_and_then id_in_request (result_ok (object_in bytes)))

-- What is told of a log or of a saved store; cited by the public clauses of `Told`.
use Rattle.std.specs.Prelude.{ℕ, List, [], ◌∷◌, ◌++◌, Option, Some, None, codes, is_none, option_map}
use Rattle.serde_json.specs.Data.{Data, boolean, member, no_members, object, string}
use Rattle.serde_json.specs.Written.{compact_text}
use Rattle.snap_record.specs.Labels.{Bytes}
use Rattle.snap_values.specs.Values.{maybe, members_with_entries, number_data}
use Rattle.snap_durable.specs.Holdings.{holding_data}
use Rattle.snap_durable.specs.declared.holding.Contents.{Contents}
use Rattle.snap_durable.specs.declared.holding.Holding.{Holding}
use Rattle.snap_durable.specs.declared.told.FileKind.{FileKind}
use Rattle.snap_durable.specs.declared.told.FileKind.TheVariants.{Log, Saved}
use Rattle.snap_durable.specs.declared.told.Told.{Told}

-- the word for what a file was taken for
abbrev pub file_kind_word : FileKind → List ℕ
file_kind_word Log = codes "log"
file_kind_word Saved = codes "saved"

-- of a file whose lines have made a store
abbrev pub found_data : FileKind → Option Bytes → Contents Holding → Data
found_data kind why c = object
    (member (codes "entries") (number_data c.entries)
    (member (codes "kind") (string (file_kind_word kind))
    (member (codes "namespaces") (object (members_with_entries holding_data c.namespaces no_members))
    (member (codes "whole") (boolean (is_none why))
    (maybe (codes "why") (option_map string why) no_members)))))

-- of a file whose lines have made none
abbrev pub unfound_data : FileKind → Option Bytes → Data
unfound_data kind why = object
    (member (codes "kind") (string (file_kind_word kind))
    (member (codes "whole") (boolean (is_none why))
    (maybe (codes "why") (option_map string why) no_members)))

-- of either
abbrev pub told_of : FileKind → Option Bytes → Option (Contents Holding) → Data
told_of kind why (Some contents) = found_data kind why contents
told_of kind why None = unfound_data kind why

-- what is told of a file
abbrev pub told_data : Told → Data
told_data t = told_of t.kind t.why t.contents

-- its line
unfoldable pub told_line : Told → List ℕ
told_line t = compact_text (told_data t) ++ 10 ∷ []

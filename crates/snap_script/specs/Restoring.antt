-- The words for why a line of a saved store isn't taken; cited by the public clause of `RestoreRefusal`.
use Rattle.std.specs.Prelude.{ℕ, List, ◌++◌, codes, decimal}
use Rattle.snap_saved.specs.declared.error.Fault.{Fault}
use Rattle.snap_saved.specs.declared.error.Fault.TheVariants as faults
use Rattle.snap_saved.specs.declared.error.Part.{Part}
use Rattle.snap_saved.specs.declared.error.Part.TheVariants as layer_parts
use Rattle.snap_pieces.specs.Fields.{line_field_name}
use Rattle.snap_values.specs.Values.{refusal_name}
use Rattle.snap_script.specs.Refusals.{config_field_name}
use Rattle.snap_script.specs.declared.restore.RestoreRefusal.{RestoreRefusal}
use Rattle.snap_script.specs.declared.restore.RestoreRefusal.TheVariants as refusals

-- a part of a layer: its list, and its place there
abbrev pub part_words : Part → List ℕ
part_words layer_parts.Root = codes "root"
part_words (layer_parts.Dir place) = codes "dir " ++ decimal place
part_words (layer_parts.Whiteout place) = codes "whiteout " ++ decimal place
part_words (layer_parts.File place) = codes "file " ++ decimal place
part_words (layer_parts.Name file name) = codes "file " ++ (decimal file ++ (codes ", name " ++ decimal name))
part_words layer_parts.Next = codes "next"
part_words layer_parts.Most = codes "most"

-- what is wrong with it
abbrev pub layer_words : Fault → List ℕ
layer_words faults.BadMode = codes "BadMode"
layer_words faults.BadMost = codes "BadMost"
layer_words faults.NotInOrder = codes "NotInOrder"
layer_words faults.NoParent = codes "NoParent"
layer_words faults.Occupied = codes "Occupied"
layer_words faults.NoNames = codes "NoNames"
layer_words faults.BadNumber = codes "BadNumber"
layer_words faults.BadBody = codes "BadBody"
layer_words faults.Full = codes "Full"

-- why a line isn't taken
abbrev pub restore_words : RestoreRefusal → List ℕ
restore_words (refusals.BadField field) = codes "bad field " ++ line_field_name field
restore_words refusals.Misplaced = codes "not in its place"
restore_words refusals.Incomplete = codes "a line is missing"
restore_words refusals.TooBig = codes "more than 1048576 bytes"
restore_words refusals.LabelTwice = codes "the label is there already"
restore_words refusals.TooManyLabels = codes "more than 64 labels"
restore_words (refusals.Layer place part fault) = codes "snapshot " ++ (decimal place ++ (codes ", " ++ (part_words part ++ (codes ": " ++ layer_words fault))))
restore_words (refusals.Config field) = codes "malformed " ++ config_field_name field
restore_words refusals.Entries = codes "entries above 2^62"
restore_words (refusals.Snapshot place why) = codes "snapshot " ++ (decimal place ++ (codes ": " ++ refusal_name why))
restore_words (refusals.Lease place why) = codes "lease " ++ (decimal place ++ (codes ": " ++ refusal_name why))
restore_words refusals.NextId = codes "next_id was given"
restore_words (refusals.Journal why) = codes "journal: " ++ refusal_name why

-- What a field of a line has to be; cited by the public clause of `read_line` through Lines.antt. The line's value is
-- the one that serde_json reads.
use Rattle.std.specs.Prelude.{ℕ, min, ◌&&◌, ◌||◌, nat_le, if◌then◌else◌, List, [], ◌∷◌, length, Option, Some, None, option_map, option_and_then, Result, Ok, Err, replicate, find}
use Rattle.std.specs.Option.{ok_or, option_map_or, option_zip}
use Rattle.std.specs.Str.{bytes_eq}
use Rattle.serde_json.specs.Data.{Data, null, boolean, number, string, array, object, Items, no_items, item, Members, no_members, member}
use Rattle.serde_json.specs.Find.{get, get_member, as_number, as_u64, as_str, as_array, as_object}
use Rattle.snap_path.specs.Limits.{most_file_bytes, most_number}
use Rattle.snap_usage.specs.declared.usage.Usage.{Usage}
use Rattle.snap_record.specs.Labels.{Bytes, Label, is_label, with_label}
use Rattle.snap_record.specs.Updates.{named_key, replaces_all}
use Rattle.snap_record.specs.declared.filter.LabelFilter.{LabelFilter}
use Rattle.snap_record.specs.declared.kind.Kind.{Kind}
use Rattle.snap_record.specs.declared.kind.Kind.TheVariants as kinds
use Rattle.snap_record.specs.Kinds.{kind_word}
use Rattle.snap_call.specs.declared.config.Namespace.{Namespace}
use Rattle.snap_script.specs.declared.fault.Field.{Field}
use Rattle.snap_script.specs.declared.fault.Field.TheVariants as fields
use Rattle.snap_script.specs.declared.fault.Found.{Found}
use Rattle.snap_script.specs.declared.fault.Found.TheVariants as founds
use Rattle.snap_script.specs.declared.fault.Fault.{Fault}
use Rattle.snap_script.specs.declared.fault.Fault.TheVariants.{BadField}
use Rattle.snap_script.specs.Faults.{field_name}

-- what a value is
abbrev pub found_in : Data → Found
found_in null = founds.Null
found_in (boolean truth) = founds.Truth
found_in (number n) = founds.Number
found_in (string text) = founds.Text
found_in (array ds) = founds.Array
found_in (object ms) = founds.Object

-- the fault of a field that the value doesn't fit
abbrev pub misfit : Field → Data → Fault
misfit field d = BadField field (Some (found_in d))

-- the fault of a field that must be there
abbrev pub missing : Field → Fault
missing field = BadField field (Some founds.Nothing)

-- a field of a kind, or what it is where it is absent; one that is null is there
abbrev pub optional : {A : Type 0} → (Data → Option A) → Field → Result A Fault → Data → Result A Fault
optional kind field absent line = option_map_or (λ d. ok_or (kind d) (misfit field d)) (get (field_name field) line) absent

-- a field of a kind that must be there
abbrev pub required : {A : Type 0} → (Data → Option A) → Field → Data → Result A Fault
required kind field line = optional kind field (Err (missing field)) line

-- a field of a kind, or nothing where it is absent
abbrev pub given : {A : Type 0} → (Data → Option A) → Field → Data → Result (Option A) Fault
given kind field line = optional (λ d. option_map Some (kind d)) field (Ok None) line

-- a text that must be there
abbrev pub text : Field → Data → Result Bytes Fault
text field line = required as_str field line

-- a number: digits alone, below 2^64
abbrev pub as_natural : Data → Option ℕ
as_natural d = option_and_then as_u64 (as_number d)

-- a mode: a number, and a greater one than 32 bits hold counts as the greatest of these
abbrev pub as_mode : Data → Option ℕ
as_mode d = option_map (λ n. min n most_number) (as_natural d)

-- two numbers
abbrev pub pair_in : Items → Option (ℕ × ℕ)
pair_in (item a (item b no_items)) = option_zip (as_natural a) (as_natural b)
pair_in ds = None

-- a pair of numbers: [number, number]
abbrev pub as_pair : Data → Option (ℕ × ℕ)
as_pair d = option_and_then pair_in (as_array d)

-- blocks, then inodes
abbrev pub usage_with : ℕ × ℕ → Usage
usage_with pair = record { blocks = pair.0; inodes = pair.1 }

-- a usage: [blocks, inodes]
abbrev pub as_usage : Data → Option Usage
as_usage d = option_map usage_with (as_pair d)

-- a byte repeated: [byte, number], at most 255 and at most 1,048,576
abbrev pub as_fill : Data → Option Bytes
as_fill d = option_and_then (λ pair. if nat_le pair.0 255 && nat_le pair.1 most_file_bytes then Some (replicate pair.1 pair.0) else None) (as_pair d)

-- the items of an array, where each is of a kind
abbrev pub each_item : {A : Type 0} → (Data → Option A) → Items → Option (List A)
each_item kind no_items = Some []
each_item kind (item d ds) = option_and_then (λ a. option_map (λ more. a ∷ more) (each_item kind ds)) (kind d)

-- texts: an array of them
abbrev pub as_texts : Data → Option (List Bytes)
as_texts d = option_and_then (each_item as_str) (as_array d)

-- the kind of a snapshot that has the word
abbrev pub kind_named : Bytes → Option Kind
kind_named word = find (λ kind. bytes_eq word (kind_word kind)) (kinds.View ∷ kinds.Active ∷ kinds.Committed ∷ [])

-- a kind of snapshot: its word
abbrev pub as_kind : Data → Option Kind
as_kind d = option_and_then kind_named (as_str d)

-- the labels with this one, where there are at most as many as a snapshot may have: one more is kept, since it is refused
abbrev pub with_label_within : List Label → Bytes → Bytes → List Label
with_label_within found key value = if nat_le (length found) 64 then with_label found key value else found

-- the labels with those of the members, each a text
abbrev pub labels_with : List Label → Members → Option (List Label)
labels_with found no_members = Some found
labels_with found (member key d ms) = option_and_then (λ value. labels_with (with_label_within found key value) ms) (as_str d)

-- labels: an object of texts, in the order of its members, of which the first 65 are kept
abbrev pub as_labels : Data → Option (List Label)
as_labels d = option_and_then (labels_with []) (as_object d)

-- the first member that is no well-formed label, if there is one
abbrev pub malformed_in : Members → Option Label
malformed_in no_members = None
malformed_in (member key d ms) = option_map_or (λ value. if is_label (key, value) then malformed_in ms else Some (key, value)) (as_str d) (malformed_in ms)

-- the labels with the member of this key, if there is one
abbrev pub with_member : Members → List Label → Bytes → List Label
with_member ms found key = option_map_or (with_label_within found key) (option_and_then as_str (get_member key ms)) found

-- the labels with those members that the paths name
abbrev pub with_named_in : Members → List Label → List Bytes → List Label
with_named_in ms found [] = found
with_named_in ms found (path ∷ paths) = with_named_in ms (option_map_or (with_member ms found) (named_key path) found) paths

-- what decides an update by paths that gives more than 64 labels: one that is malformed, or those that the paths name, of which the first 65 are kept
abbrev pub deciding_in : Members → List Bytes → List Label
deciding_in ms paths = option_map_or (λ label. label ∷ []) (malformed_in ms) (with_named_in ms [] paths)

-- the labels of an update, of which the first 65 were found: all, where there are at most 64
abbrev pub labels_of_update : Data → List Bytes → List Label → List Label
labels_of_update line paths found = if nat_le (length found) 64 || replaces_all paths then found else option_map_or (λ ms. deciding_in ms paths) (option_and_then as_object (get (field_name fields.Labels) line)) found

-- a label that is asked for: with the text as its value, or with any value where null stands for it
abbrev pub label_filter : Bytes → Data → Option LabelFilter
label_filter key null = Some (record { key = key; value = None })
label_filter key d = option_map (λ text. record { key = key; value = Some text }) (as_str d)

-- each member a label that is asked for
abbrev pub label_filters_in : Members → Option (List LabelFilter)
label_filters_in no_members = Some []
label_filters_in (member key d ms) = option_and_then (λ f. option_map (λ fs. f ∷ fs) (label_filters_in ms)) (label_filter key d)

-- labels that are asked for: an object of texts and nulls, in the order of its members
abbrev pub as_label_filters : Data → Option (List LabelFilter)
as_label_filters d = option_and_then label_filters_in (as_object d)

-- a name, blocks and inodes
abbrev pub namespace_in_items : Items → Option Namespace
namespace_in_items (item name ds) = option_map (λ parts. record { name = parts.0; limit = usage_with parts.1 }) (option_zip (as_str name) (pair_in ds))
namespace_in_items no_items = None

-- a namespace: [name, blocks, inodes]
abbrev pub as_namespace : Data → Option Namespace
as_namespace d = option_and_then namespace_in_items (as_array d)

-- namespaces: an array of them
abbrev pub as_namespaces : Data → Option (List Namespace)
as_namespaces d = option_and_then (each_item as_namespace) (as_array d)

-- the bytes that are written: those of the text, or where there is none the fill
abbrev pub content_bytes_of : Data → Result Bytes Fault
content_bytes_of line = optional as_str fields.Text (required as_fill fields.Fill line) line

-- What an update makes of labels.
use Rattle.std.specs.Prelude.{Bool, true, false, ◌&&◌, ◌||◌, nat_eq, nat_le, nat_lt, List, [], ◌∷◌, ◌++◌, length, drop, Option, Some, None, is_some, option_map, filter_map, codes, bytes_eq, if◌then◌else◌}
use Rattle.std.specs.List.{list_all, list_any, starts_with}
use Rattle.std.specs.Option.{option_map_or}
use Rattle.std.specs.Map.{keys_of}
use Rattle.snap_record.specs.Labels.{Bytes, Label, value_of, is_key_among, is_label}

-- the path of all labels
abbrev pub is_whole : Bytes → Bool
is_whole path = bytes_eq path (codes "labels")

-- the key x that a path `labels.x` names, which has at least one byte
abbrev pub named_key : Bytes → Option Bytes
named_key path = if starts_with nat_eq path (codes "labels.") && nat_lt 7 (length path) then Some (drop 7 path) else None

-- one of the two forms of a path
abbrev pub is_update_path : Bytes → Bool
is_update_path path = is_whole path || is_some (named_key path)

-- with no path, or with the path of all labels among them, the given labels replace all
abbrev pub replaces_all : List Bytes → Bool
replaces_all [] = true
replaces_all (path ∷ paths) = list_any is_whole (path ∷ paths)

-- whether the path names the key
abbrev pub names_key : Bytes → Bytes → Bool
names_key key path = option_map_or (bytes_eq key) (named_key path) false

-- the keys that the paths name, in their order
abbrev pub named_keys : List Bytes → List Bytes
named_keys paths = filter_map named_key paths

-- the given label of a key
abbrev pub given_label : List Label → Bytes → Option Label
given_label given key = option_map (λ value. (key, value)) (value_of given key)

-- a label that isn't named stays; a named one has the given value in its place, or goes where none is given
abbrev pub label_after : List Label → List Bytes → Label → Option Label
label_after given named label = if is_key_among label.0 named then given_label given label.0 else Some label

-- the keys that aren't there yet, each once
abbrev pub new_keys : List Bytes → List Bytes → List Bytes
new_keys there [] = []
new_keys there (key ∷ keys) = if is_key_among key there then new_keys there keys else key ∷ new_keys (key ∷ there) keys

-- the old labels in their places as the update leaves them, then the new ones that are given
abbrev pub with_named : List Label → List Label → List Bytes → List Label
with_named old given named = filter_map (label_after given named) old ++ filter_map (given_label given) (new_keys (keys_of old) named)

-- the labels after an update
abbrev pub updated : List Label → List Label → List Bytes → List Label
updated old given paths = if replaces_all paths then given else with_named old given (named_keys paths)

-- each given label and each path has its form, whether a path takes the label or not
abbrev pub have_forms : List Label → List Bytes → Bool
have_forms given paths = list_all is_label given && list_all is_update_path paths

-- an update is refused for its forms, or for a result of more than 64 labels
abbrev pub is_granted : List Label → List Label → List Bytes → Bool
is_granted old given paths = have_forms given paths && nat_le (length (updated old given paths)) 64

-- what can be told of an update without the labels that it changes: its forms, and the count where the given labels replace all
abbrev pub is_well_formed : List Label → List Bytes → Bool
is_well_formed given paths = have_forms given paths && (if replaces_all paths then nat_le (length given) 64 else true)

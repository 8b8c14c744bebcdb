-- Labels as a list of pairs with distinct keys.
use Rattle.std.specs.Prelude.{ℕ, ◌+◌, Bool, ◌&&◌, nat_le, nat_lt, if◌then◌else◌, List, [], ◌∷◌, length, Option, bytes_eq}
use Rattle.std.specs.List.{list_all, list_any, IsDistinct}
use Rattle.std.specs.Map.{lookup, keys_of, remove_entry}

-- a key or a value, as its bytes
abbrev pub Bytes : Type 0
Bytes = List ℕ

-- a key and its value
abbrev pub Label : Type 0
Label = Bytes × Bytes

-- whether the key is one of these
abbrev pub is_key_among : Bytes → List Bytes → Bool
is_key_among key keys = list_any (bytes_eq key) keys

-- the value of a key
abbrev pub value_of : List Label → Bytes → Option Bytes
value_of labels key = lookup (bytes_eq key) labels

-- the labels with this one: a key that is there keeps its place, a new one goes last
abbrev pub with_label : List Label → Bytes → Bytes → List Label
with_label [] key value = (key, value) ∷ []
with_label (label ∷ labels) key value = if bytes_eq key label.0 then (label.0, value) ∷ labels else label ∷ with_label labels key value

-- the labels without that of the key
abbrev pub without_label : List Label → Bytes → List Label
without_label labels key = remove_entry (bytes_eq key) labels

-- no key stands twice
abbrev pub HasDistinctKeys : List Label → Type 0
HasDistinctKeys labels = IsDistinct bytes_eq (keys_of labels)

-- a key of at least 1 byte, and at most 4096 bytes together
abbrev pub is_label : Label → Bool
is_label label = nat_lt 0 (length label.0) && nat_le (length label.0 + length label.1) 4096

-- at most 64 labels, each of the form
abbrev pub are_labels : List Label → Bool
are_labels labels = list_all is_label labels && nat_le (length labels) 64

-- What is kept of texts and labels that are beyond their limits: enough that they are beyond them still.
use Rattle.std.specs.Prelude.{ℕ, zero, suc, Bool, not, ◌&&◌, nat_le, nat_lt, if◌then◌else◌, [], ◌∷◌, List, find}
use Rattle.std.specs.List.{list_all}
use Rattle.std.specs.Option.{option_map_or}
use Rattle.snap_record.specs.Labels.{Bytes, Label, is_label}
use Rattle.snap_record.specs.Updates.{is_update_path, is_whole, replaces_all}

-- a byte of a character in UTF-8 that isn't its first
abbrev pub is_inner : ℕ → Bool
is_inner b = nat_le 128 b && nat_lt b 192

-- the rest of the character whose first bytes stand before these
abbrev pub rest_of_character : Bytes → Bytes
rest_of_character [] = []
rest_of_character (b ∷ bs) = if is_inner b then b ∷ rest_of_character bs else []

-- a text of at most this number of bytes as it is; of a longer one this number, one more, and the rest of that one's character
unfoldable pub cut : ℕ → Bytes → Bytes
cut most [] = []
cut zero (b ∷ bs) = b ∷ rest_of_character bs
cut (suc most) (b ∷ bs) = b ∷ cut most bs

-- a label alone, with a key and a value that are cut
abbrev pub cut_label : Label → List Label
cut_label label = (cut 4096 label.0, cut 4096 label.1) ∷ []

-- labels that have their form as they are; else the first that hasn't, alone and cut
abbrev pub kept_labels : List Label → List Label
kept_labels labels = option_map_or cut_label (find (λ l. not (is_label l)) labels) labels

-- a path alone, cut above the 4103 bytes of `labels.` and of a label's longest key
abbrev pub cut_path : Bytes → List Bytes
cut_path path = cut 4103 path ∷ []

-- the labels and the paths of an update whose labels have their forms: a malformed path alone; or the labels, and the path of all labels alone where it is among the paths
abbrev pub kept_by_paths : List Label → List Bytes → List Label × List Bytes
kept_by_paths labels paths =
    option_map_or (λ path. ([], cut_path path)) (find (λ path. not (is_update_path path)) paths)
    (if replaces_all paths then (labels, option_map_or cut_path (find is_whole paths) []) else (labels, paths))

-- the labels and the paths of an update: a malformed label alone, without a path, or what stays of paths
abbrev pub kept_update : List Label → List Bytes → List Label × List Bytes
kept_update labels paths = if list_all is_label labels then kept_by_paths labels paths else (kept_labels labels, [])

-- The forms that texts, limits and configurations must have.
use Rattle.std.specs.Prelude.{ℕ, ◌==◌, Bool, true, not, ◌&&◌, ◌||◌, nat_le, List, [], ◌∷◌, length, bytes_eq, Option, find}
use Rattle.std.specs.List.{list_any, list_all}
use Rattle.snap_layer.specs.Counts.{most_inodes}
use Rattle.snap_usage.specs.declared.usage.Usage.{Usage}
use Rattle.snap_record.specs.Labels.{Bytes}
use Rattle.snap_mount.specs.Mounts.{is_root_text}
use Rattle.snap_call.specs.declared.config.Config.{Config}
use Rattle.snap_call.specs.declared.config.ConfigField.{ConfigField}
use Rattle.snap_call.specs.declared.config.ConfigField.TheVariants as fields
use Rattle.snap_call.specs.declared.config.Namespace.{Namespace}
use Rattle.snap_call.specs.Namespaces.{has_name, is_taken, most_namespaces}
use Rattle.snap_call.specs.Records.{max_slots, max_journal, most_ancestors}

-- 1 to `most` bytes, none of them NUL
abbrev pub is_text : ℕ → Bytes → Bool
is_text most bs = nat_le 1 (length bs) && nat_le (length bs) most && not (list_any (λ b. b == 0) bs)

-- a key of a snapshot, or the name of a committed one, of a parent or of a lease
abbrev pub is_key : Bytes → Bool
is_key bs = is_text 1024 bs

-- a parent: the empty text, which stands for none, or a key
abbrev pub is_parent : Bytes → Bool
is_parent bs = bytes_eq bs [] || is_key bs

-- the size of a page: 1 to 64 infos
abbrev pub is_page : ℕ → Bool
is_page most = nat_le 1 most && nat_le most 64

-- what a walk begins after: a text of at most 1024 bytes
abbrev pub is_start : Bytes → Bool
is_start bs = nat_le (length bs) 1024

-- a limit of a namespace: at most 2^40 blocks and 2^40 inodes
abbrev pub is_limit : Usage → Bool
is_limit u = nat_le u.blocks 1099511627776 && nat_le u.inodes 1099511627776

-- a namespace: its name has at most 255 bytes, and its limit is one
abbrev pub is_namespace : Namespace → Bool
is_namespace n = is_text 255 n.name && is_limit n.limit

-- no two namespaces have the same name
abbrev pub have_distinct_names : List Namespace → Bool
have_distinct_names [] = true
have_distinct_names (n ∷ ns) = not (list_any (has_name n.name) ns) && have_distinct_names ns

-- how many slots a store can have
abbrev pub is_slots : ℕ → Bool
is_slots n = nat_le 1 n && nat_le n max_slots

-- the most inodes of a layer: 1 to 2^24
abbrev pub is_layer_limit : ℕ → Bool
is_layer_limit inodes = nat_le 1 inodes && nat_le inodes most_inodes

-- the most committed ancestors of a snapshot: 1 to 500
abbrev pub is_ancestor_limit : ℕ → Bool
is_ancestor_limit most = nat_le 1 most && nat_le most most_ancestors

-- what may stand at a place of a saved store: a namespace, or nothing, which has no name and no limit
abbrev pub is_space : Namespace → Bool
is_space n = is_namespace n || (not (is_taken n) && (n.limit.blocks == 0) && (n.limit.inodes == 0))

-- there are at most 4096 namespaces, with distinct names, where each of them may stand in a store
abbrev pub are_spaces_where : Bool → List Namespace → Bool
are_spaces_where each ns = each && nat_le (length ns) most_namespaces && have_distinct_names ns

-- each namespace passes the test, there are at most 4096, and their names are distinct
abbrev pub are_spaces_by : (Namespace → Bool) → List Namespace → Bool
are_spaces_by is ns = are_spaces_where (list_all is ns) ns

-- the part of a configuration is well-formed; of its namespaces `spaces` says so
abbrev pub has_form : Bool → Config → ConfigField → Bool
has_form spaces c fields.Root = is_root_text c.root
has_form spaces c fields.Namespaces = spaces
has_form spaces c fields.Slots = is_slots c.slots
has_form spaces c fields.Journal = nat_le c.journal max_journal
has_form spaces c fields.FirstId = nat_le 1 c.first_id
has_form spaces c fields.LayerInodes = is_layer_limit c.layer_inodes
has_form spaces c fields.Ancestors = is_ancestor_limit c.ancestors

-- the parts of a configuration, in their order
abbrev pub config_fields : List ConfigField
config_fields = fields.Root ∷ fields.Namespaces ∷ fields.Slots ∷ fields.Journal ∷ fields.FirstId ∷ fields.LayerInodes ∷ fields.Ancestors ∷ []

-- each part is well-formed
abbrev pub is_config_with : Bool → Config → Bool
is_config_with spaces c = list_all (has_form spaces c) config_fields

-- the first part that is malformed
abbrev pub bad_field_with : Bool → Config → Option ConfigField
bad_field_with spaces c = find (λ field. not (has_form spaces c field)) config_fields

-- what a store can be opened with: each part is well-formed
abbrev pub is_config : Config → Bool
is_config c = is_config_with (are_spaces_by is_namespace c.namespaces) c

-- the first part that is malformed
abbrev pub bad_field : Config → Option ConfigField
bad_field c = bad_field_with (are_spaces_by is_namespace c.namespaces) c

-- what a saved store can be opened with: the same, but some of its places may be free
abbrev pub is_saved_config : Config → Bool
is_saved_config c = is_config_with (are_spaces_by is_space c.namespaces) c

-- the first part that is malformed
abbrev pub bad_saved_field : Config → Option ConfigField
bad_saved_field c = bad_field_with (are_spaces_by is_space c.namespaces) c

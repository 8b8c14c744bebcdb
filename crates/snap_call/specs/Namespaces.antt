-- The namespaces of a store, each at its place.
use Rattle.std.specs.Prelude.{ℕ, zero, suc, Bool, false, ◌&&◌, nat_le, if◌then◌else◌, List, [], ◌∷◌, length, Option, position, slice_get, slice_set, bytes_eq}
use Rattle.std.specs.BTreeMap.{BTreeMap, get_by_text}
use Rattle.std.specs.Option.{option_map_or}
use Rattle.std.specs.Prelude.{◌≡◌, String}
use Rattle.snap_usage.specs.declared.usage.Usage.{Usage}
use Rattle.snap_usage.specs.Counted.{no_usage}
use Rattle.snap_record.specs.Labels.{Bytes}
use Rattle.snap_call.specs.declared.config.Namespace.{Namespace}

-- what stands at a place that is free for a namespace: no name, and no limit
abbrev pub vacant : Namespace
vacant = record { name = []; limit = no_usage }

-- a namespace stands there: it has a name
abbrev pub is_taken : Namespace → Bool
is_taken n = nat_le 1 (length n.name)

-- a namespace of this name
abbrev pub has_name : Bytes → Namespace → Bool
has_name name n = is_taken n && bytes_eq n.name name

-- the place of a namespace, if the store has it
abbrev pub place_of : Bytes → List Namespace → Option ℕ
place_of name ns = position (has_name name) ns

-- a namespace stands at the place
abbrev pub is_taken_at : ℕ → List Namespace → Bool
is_taken_at place ns = option_map_or is_taken (slice_get ns place) false

-- the namespaces with one more, at the first free place
abbrev pub with_namespace : Namespace → List Namespace → List Namespace
with_namespace added [] = added ∷ []
with_namespace added (n ∷ ns) = if is_taken n then n ∷ with_namespace added ns else added ∷ ns

-- the namespaces without the one at the place, which is free then
abbrev pub without_namespace : ℕ → List Namespace → List Namespace
without_namespace place ns = slice_set ns place vacant

-- the most namespaces of a store: a limit of this project
abbrev pub most_namespaces : ℕ
most_namespaces = 4096

-- the limit of the namespace at a place
abbrev pub limit_at : ℕ → List Namespace → Usage
limit_at place ns = option_map_or (λ n. n.limit) (slice_get ns place) no_usage

-- the name of the namespace at a place
abbrev pub name_at : ℕ → List Namespace → Bytes
name_at place ns = option_map_or (λ n. n.name) (slice_get ns place) []

-- the namespaces once the one at a place has this limit
abbrev pub with_limit : ℕ → Usage → List Namespace → List Namespace
with_limit place limit [] = []
with_limit zero limit (n ∷ ns) = record n { limit = limit } ∷ ns
with_limit (suc place) limit (n ∷ ns) = n ∷ with_limit place limit ns

-- the map has the place of each namespace by its name, and no other
abbrev pub ArePlaces : {Z : Type 0} → BTreeMap (String Z) ℕ → List Namespace → Type 0
ArePlaces places ns = (name : Bytes) → get_by_text places name ≡ place_of name ns

-- What a lease is, and what is asked of one lease. Texts are their bytes.
use Rattle.std.specs.Prelude.{ℕ, Bool, true, not, List, [], ◌∷◌, ◌++◌, filter, Option, nat_le, ◌&&◌, if◌then◌else◌}
use Rattle.std.specs.List.{list_any, IsDistinct}
use Rattle.std.specs.Option.{option_map_or}
use Rattle.std.specs.Str.{bytes_eq}

-- a lease of a namespace: its last moment, if it has one, and the snapshots that it names, in order
pub record Lease : Type 0 where
  pub namespace : List ℕ
  pub name : List ℕ
  pub until : Option ℕ
  pub names : List (List ℕ)

-- whether the lease is of the namespace
abbrev pub is_of : List ℕ → Lease → Bool
is_of namespace l = bytes_eq namespace l.namespace

-- the lease names each snapshot once
abbrev pub NamesOnce : Lease → Type 0
NamesOnce l = IsDistinct bytes_eq l.names

-- whether it is the namespace's lease of this name
abbrev pub is_lease : List ℕ → List ℕ → Lease → Bool
is_lease namespace lease l = is_of namespace l && bytes_eq lease l.name

-- whether the lease names the snapshot
abbrev pub does_name : List ℕ → Lease → Bool
does_name name l = list_any (bytes_eq name) l.names

-- whether the lease is live at the moment: it has no last moment, or the moment is not after it
abbrev pub is_live : ℕ → Lease → Bool
is_live now l = option_map_or (nat_le now) l.until true

-- a lease that names nothing yet
abbrev pub empty_lease : List ℕ → List ℕ → Option ℕ → Lease
empty_lease namespace lease until = record { namespace = namespace; name = lease; until = until; names = [] }

-- the lease with the name as its last, and as it is where it has that name
abbrev pub with_lease_name : List ℕ → Lease → Lease
with_lease_name name l = if does_name name l then l else record l { names = l.names ++ name ∷ [] }

-- the lease without the name; its other names stay in order
abbrev pub without_lease_name : List ℕ → Lease → Lease
without_lease_name name l = record l { names = filter (λ n. not (bytes_eq name n)) l.names }

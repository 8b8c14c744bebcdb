-- An object with the whole values of some names alone: of another array or object only that it is one.
use Rattle.std.specs.Prelude.{ℕ, List, Bool, Option, if◌then◌else◌}
use Rattle.std.specs.Borrow.{Bor}
use Rattle.std.specs.List.{list_any}
use Rattle.std.specs.Option.{option_map}
use Rattle.std.specs.Str.{bytes_eq}
use Rattle.json.specs.Token.{Token}
use Rattle.serde_json.specs.Data.{Data, null, boolean, number, string, array, object, Items, no_items, Members, no_members, member}

-- one of the names is this one
abbrev pub is_one_of : List (Bor (List ℕ)) → List ℕ → Bool
is_one_of names name = list_any (λ other. bytes_eq name other.now) names

-- the items of an array that is whole
abbrev pub items_if : Bool → Items → Items
items_if whole ds = if whole then ds else no_items

-- the members of an object that is whole
abbrev pub members_if : Bool → Members → Members
members_if whole ms = if whole then ms else no_members

-- a value, whole or without what is in it
abbrev pub value_if : Bool → Data → Data
value_if whole null = null
value_if whole (boolean b) = boolean b
value_if whole (number n) = number n
value_if whole (string s) = string s
value_if whole (array ds) = array (items_if whole ds)
value_if whole (object ms) = object (members_if whole ms)

-- the members, each whole by its name
abbrev pub shallow_members : (List ℕ → Bool) → Members → Members
shallow_members whole no_members = no_members
shallow_members whole (member name d ms) = member name (value_if (whole name) d) (shallow_members whole ms)

-- an object with its members so
abbrev pub shallow : (List ℕ → Bool) → Data → Data
shallow whole null = null
shallow whole (boolean b) = boolean b
shallow whole (number n) = number n
shallow whole (string s) = string s
shallow whole (array ds) = array ds
shallow whole (object ms) = object (shallow_members whole ms)

-- what was read, with the value so where it is an object
abbrev pub shallow_read : (List ℕ → Bool) → Option (Option Data × List Token) → Option (Option Data × List Token)
shallow_read whole read = option_map {U = Option Data × List Token} (λ p. (option_map (shallow whole) p.0, p.1)) read

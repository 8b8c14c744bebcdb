-- The value of `serde_json` that a `Value` stands for.
use Rattle.std.specs.Prelude.{ℕ, List, [], ◌∷◌, map}
use Rattle.std.specs.Borrow.{Bor}
use Rattle.serde_json.specs.Data.{Data, null, boolean, number, string, array, object, Items, no_items, item, Members, no_members, member, put}
use Rattle.serde_json.specs.View.{number_view}
use Rattle.snap_json.specs.declared.value.Value.{Value, fold-Value}
use Rattle.snap_json.specs.declared.value.Value.TheOpen.{Value-F}

-- the items, in their order
abbrev pub array_items_of : List Data → Items
array_items_of [] = no_items
array_items_of (d ∷ ds) = item d (array_items_of ds)

-- the members with these put in, one after another: the last value of a name stays
abbrev pub members_with : Members → List (Bor (List ℕ) × Data) → Members
members_with found [] = found
members_with found (m ∷ ms) = members_with (put m.0.now m.1 found) ms

-- one level, with each value inside already seen as its data
abbrev pub view_step : Value-F Data → Data
view_step Value-F.Null = null
view_step (Value-F.Bool b) = boolean b
view_step (Value-F.Number x) = number (number_view x)
view_step (Value-F.String s) = string s.now
view_step (Value-F.Array v) = array (array_items_of v.items)
view_step (Value-F.Object v) = object (members_with no_members v.items)

-- the data of a value
abbrev pub view : Value → Data
view = fold-Value Data view_step

-- those of an array's items
abbrev pub items_view : List Value → Items
items_view vs = array_items_of (map view vs)

-- those of an object's members, as they came
abbrev pub members_view : List (Bor (List ℕ) × Value) → Members
members_view ms = members_with no_members (map (λ m. (m.0, view m.1)) ms)

-- a member for each entry of a map, in their order
abbrev pub members_of : List (Bor (List ℕ) × Bor Value) → Members
members_of [] = no_members
members_of (entry ∷ rest) = member entry.0.now (view entry.1.now) (members_of rest)

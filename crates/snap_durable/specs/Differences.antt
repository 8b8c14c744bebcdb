-- In what two lists of named values differ; cited by the public clause of `differences`.
use Rattle.std.specs.Prelude.{List, ◌++◌, Option, Some, None, bytes_eq, filter_map, option_map, reverse}
use Rattle.std.specs.Map.{lookup}
use Rattle.snap_record.specs.Labels.{Bytes}
use Rattle.snap_durable.specs.declared.differ.Difference.{Difference}
use Rattle.snap_durable.specs.declared.differ.Found.TheVariants.{OnlyA, OnlyB, Both}

-- the value of this name, of equal names the last
abbrev pub value_named : {A : Type 0} → Bytes → List (Bytes × A) → Option A
value_named name entries = lookup (bytes_eq name) (reverse entries)

-- of an entry of the first list, by the second's value of its name
abbrev pub first_difference : {A D : Type 0} → (A → A → Option D) → Bytes × A → Option A → Option (Difference D)
first_difference difference entry None = Some (record { name = entry.0; found = OnlyA })
first_difference difference entry (Some other) = option_map (λ d. record { name = entry.0; found = Both d }) (difference entry.1 other)

-- of an entry of the second list, by the first's value of its name
abbrev pub second_difference : {A D : Type 0} → Bytes × A → Option A → Option (Difference D)
second_difference entry None = Some (record { name = entry.0; found = OnlyB })
second_difference entry (Some other) = None

-- at the names of the first list, and then at those that the second alone has
abbrev pub differences : {A D : Type 0} → (A → A → Option D) → List (Bytes × A) → List (Bytes × A) → List (Difference D)
differences difference a b = filter_map (λ e. first_difference difference e (value_named e.0 b)) a ++ filter_map (λ e. second_difference e (value_named e.0 a)) b

-- What is told of the differences of two stores; cited by the public clauses of `Differences`.
use Rattle.std.specs.Prelude.{ℕ, List, [], ◌∷◌, ◌++◌, codes, map}
use Rattle.serde_json.specs.Data.{Data, array, member, object, string}
use Rattle.serde_json.specs.View.{items_of}
use Rattle.serde_json.specs.Written.{compact_text}
use Rattle.snap_record.specs.Labels.{Bytes}
use Rattle.snap_values.specs.Values.{only}
use Rattle.snap_durable.specs.Fields.{field_word}
use Rattle.snap_durable.specs.declared.compare.Differences.{Differences}
use Rattle.snap_durable.specs.declared.compare.Field.{Field}
use Rattle.snap_durable.specs.declared.compare.SpaceDifference.{SpaceDifference}
use Rattle.snap_durable.specs.declared.differ.Difference.{Difference}
use Rattle.snap_durable.specs.declared.differ.Found.{Found}
use Rattle.snap_durable.specs.declared.differ.Found.TheVariants.{OnlyA, OnlyB, Both}

-- a name with which of both has it, or in what they differ
abbrev pub at_name_data : {D : Type 0} → (D → Data) → Bytes → Found D → Data
at_name_data value name OnlyA = object (member (codes "name") (string name) (only (codes "only") (string (codes "A"))))
at_name_data value name OnlyB = object (member (codes "name") (string name) (only (codes "only") (string (codes "B"))))
at_name_data value name (Both d) = object (member (codes "differs") (value d) (only (codes "name") (string name)))

-- the same of a difference
abbrev pub difference_data : {D : Type 0} → (D → Data) → Difference D → Data
difference_data value d = at_name_data value d.name d.found

-- the words of the fields
abbrev pub fields_data : List Field → Data
fields_data fields = array (items_of (map (λ field. string (field_word field)) fields))

-- in what a namespace differs
abbrev pub space_data : SpaceDifference → Data
space_data d = object
    (member (codes "fields") (fields_data d.fields)
    (member (codes "leases") (array (items_of (map (difference_data fields_data) d.leases)))
    (only (codes "snapshots") (array (items_of (map (difference_data fields_data) d.snapshots))))))

-- in what two stores differ
abbrev pub differences_data : Differences → Data
differences_data d = object (only (codes "namespaces") (array (items_of (map (difference_data space_data) d.namespaces))))

-- their line
unfoldable pub differences_line : Differences → List ℕ
differences_line d = compact_text (differences_data d) ++ 10 ∷ []

-- Updates of labels, computed.
use Rattle.std.proofs.Common.{◌≡◌, false, [], ◌∷◌, codes, refl}
use Rattle.snap_record.specs.Labels.{Label}
use Rattle.snap_record.specs.Updates.{updated, is_well_formed}

abbrev x_is_1 : Label
x_is_1 = (codes "x", codes "1")

abbrev x_is_9 : Label
x_is_9 = (codes "x", codes "9")

abbrev y_is_2 : Label
y_is_2 = (codes "y", codes "2")

-- no path: the given labels replace all
replaced : updated (x_is_1 ∷ []) (y_is_2 ∷ []) [] ≡ y_is_2 ∷ []
replaced = refl

-- the path of a new label: it comes last
added : updated (y_is_2 ∷ []) (x_is_9 ∷ []) (codes "labels.x" ∷ []) ≡ y_is_2 ∷ x_is_9 ∷ []
added = refl

-- the path of a label that is not given: it goes, and the others close up
removed : updated (y_is_2 ∷ x_is_9 ∷ []) [] (codes "labels.y" ∷ []) ≡ x_is_9 ∷ []
removed = refl

-- a path of another form, and one of an empty key
bad_path : is_well_formed [] (codes "name" ∷ []) ≡ false
bad_path = refl

no_key : is_well_formed [] (codes "labels." ∷ []) ≡ false
no_key = refl

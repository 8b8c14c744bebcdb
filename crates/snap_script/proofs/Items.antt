-- What the items of an array are, by their number.
use Rattle.std.proofs.Common.{◌≡◌, ◌≢◌, List, [], ◌∷◌, length, None, refl}
use Rattle.snap_json.specs.View.{items_view}
use Rattle.snap_json.specs.declared.value.Value.{Value}
use Rattle.snap_script.specs.Fields.{pair_in}

-- items that aren't two are no pair
pub no_pair : (values : List Value) → length values ≢ 2 → pair_in (items_view values) ≡ None
no_pair [] h = refl
no_pair (a ∷ []) h = refl
no_pair (a ∷ b ∷ []) h = absurd (h refl)
no_pair (a ∷ b ∷ c ∷ rest) h = refl

-- The tokens of a value, as a writer has them: the last one first.
use Rattle.std.specs.Prelude.{List, ◌∷◌}
use Rattle.json.specs.Token as token
use Rattle.json.specs.Token.{Token}
use Rattle.serde_json.specs.Data.{Data, null, boolean, number, string, array, object, Items, no_items, item, Members, no_members, member}
use Rattle.serde_json.specs.Written.{number_text}

-- the tokens of the value, after those that stand
abbrev mutual
  pub with_value : Data → List Token → List Token
  with_value null before = token.null ∷ before
  with_value (boolean b) before = token.boolean b ∷ before
  with_value (number n) before = token.number (number_text n) ∷ before
  with_value (string s) before = token.string s ∷ before
  with_value (array items) before = with_items items (token.begin_array ∷ before)
  with_value (object members) before = with_members members (token.begin_object ∷ before)

  -- with the closing bracket
  pub with_items : Items → List Token → List Token
  with_items no_items before = token.end_array ∷ before
  with_items (item value rest) before = with_items rest (with_value value before)

  pub with_members : Members → List Token → List Token
  with_members no_members before = token.end_object ∷ before
  with_members (member key value rest) before = with_members rest (with_value value (token.key key ∷ before))

-- The text of a value's tokens.
use Rattle.std.proofs.Common.{◌≡◌, List, [], ◌∷◌, ◌++◌, reverse, ap, sym, ◌∙◌, append_assoc}
use Rattle.std.proofs.lemmas.List.{reverse-reverse}
use mathlib.Core.List.{reverse-cons}
use Rattle.json.specs.Token as token
use Rattle.json.specs.Token.{Token}
use Rattle.json.specs.Print.{print}
use Rattle.json.specs.Tree.{json_tokens, items_tokens, members_tokens}
use Rattle.serde_json.specs.Data.{Data, null, boolean, number, string, array, object, Items, no_items, item, Members, no_members, member}
use Rattle.serde_json.specs.Written.{number_text, outline, items_outline, members_outline, compact_text}
use Rattle.serde_json.proofs.Texts.{print-outline}
use Rattle.snap_json.specs.Tokens.{with_value, with_items, with_members}

one_more : (t : Token) (before ts : List Token) → reverse (t ∷ before) ++ ts ≡ reverse before ++ t ∷ ts
one_more t before ts = ap (λ all. all ++ ts) (reverse-cons t before) ∙ append_assoc (reverse before) (t ∷ []) ts

-- what a writer has is `json`'s tokens of the value, turned
mutual
  value_turned : (d : Data) (before : List Token) → reverse (with_value d before) ≡ reverse before ++ json_tokens (outline d)
  value_turned null before = reverse-cons token.null before
  value_turned (boolean b) before = reverse-cons (token.boolean b) before
  value_turned (number n) before = reverse-cons (token.number (number_text n)) before
  value_turned (string s) before = reverse-cons (token.string s) before
  value_turned (array items) before = items_turned items (token.begin_array ∷ before) ∙ one_more token.begin_array before (items_tokens (items_outline items))
  value_turned (object members) before = members_turned members (token.begin_object ∷ before) ∙ one_more token.begin_object before (members_tokens (members_outline members))

  items_turned : (items : Items) (before : List Token) → reverse (with_items items before) ≡ reverse before ++ items_tokens (items_outline items)
  items_turned no_items before = reverse-cons token.end_array before
  items_turned (item d rest) before =
      let later = items_tokens (items_outline rest) in
      items_turned rest (with_value d before) ∙ ap (λ all. all ++ later) (value_turned d before) ∙ append_assoc (reverse before) (json_tokens (outline d)) later

  members_turned : (members : Members) (before : List Token) → reverse (with_members members before) ≡ reverse before ++ members_tokens (members_outline members)
  members_turned no_members before = reverse-cons token.end_object before
  members_turned (member k d rest) before =
      let named = token.key k ∷ before in
      let later = members_tokens (members_outline rest) in
      members_turned rest (with_value d named) ∙ ap (λ all. all ++ later) (value_turned d named) ∙ append_assoc (reverse named) (json_tokens (outline d)) later
      ∙ one_more (token.key k) before (json_tokens (outline d) ++ later)

pub print-with_value : (ts : List Token) (d : Data) → reverse ts ≡ with_value d [] → print ts ≡ compact_text d
print-with_value ts d written =
    let same : ts ≡ json_tokens (outline d) = sym (reverse-reverse ts) ∙ ap reverse written ∙ value_turned d [] in
    ap print same ∙ print-outline d

-- The object of a line, by whether its bytes are UTF-8 and JSON, and its value an object.
use Rattle.std.proofs.Common.{◌≡◌, ℕ, List, Option, Some, None, Result, Ok, Err, Bool, true, false, option_map, refl, ◌∙◌, ap}
use Rattle.std.specs.Prelude.{cond, is_some, if◌then◌else◌}
use Rattle.std.specs.Str.{IsUtf8, is_utf8}
use Rattle.std.proofs.lemmas.Str.{IsUtf8-from_is_utf8, is_utf8-from_IsUtf8}
use Rattle.std.specs.Option.{ok_or}
use Rattle.serde_json.specs.Data.{Data, Members}
use Rattle.serde_json.specs.Find.{as_object}
use Rattle.serde_json.specs.Read.{read}
use Rattle.snap_call.specs.Results.{◌>>=◌}
use Rattle.snap_json.specs.Objects.{object_alone}
use Rattle.snap_script.specs.declared.fault.Fault.{Fault}
use Rattle.snap_script.specs.declared.fault.Fault.TheVariants.{NotJson, NotAnObject}
use Rattle.snap_script.specs.Lines.{json_of, object_of, object_in}

utf8_value : (line : List ℕ) (b : Bool) → is_utf8 line ≡ b → json_of line ≡ cond b (ok_or (read line) NotJson) (Err NotJson)
unfolding json_of
utf8_value line b e = ap (λ t. cond t (ok_or (read line) NotJson) (Err NotJson)) e

not_utf8_value : (line : List ℕ) → ¬ (IsUtf8 line) → json_of line ≡ Err NotJson
not_utf8_value line h = (elim (is_utf8 line) as (λ b. is_utf8 line ≡ b → json_of line ≡ Err NotJson) [
  | true ↦ λ e. absurd (h (IsUtf8-from_is_utf8 line e))
  | false ↦ λ e. utf8_value line false e
]) refl

json_value : (line : List ℕ) (o : Option Data) → IsUtf8 line → read line ≡ o → json_of line ≡ ok_or o NotJson
json_value line o u e = utf8_value line true (is_utf8-from_IsUtf8 line u) ∙ ap (λ r. ok_or r NotJson) e

-- the object, or why there is none, of the value of a line
abbrev object_from : Result Data Fault → Result Data Fault
object_from json = do object_of (← json)

object_is : (line : List ℕ) (json : Result Data Fault) → json_of line ≡ json → object_in line ≡ object_from json
unfolding object_in
object_is line json e = ap object_from e

pub not_utf8 : (line : List ℕ) → ¬ (IsUtf8 line) → object_in line ≡ Err NotJson
not_utf8 line h = object_is line (Err NotJson) (not_utf8_value line h)

pub not_json : (line : List ℕ) → IsUtf8 line → read line ≡ None → object_in line ≡ Err NotJson
not_json line u e = object_is line (Err NotJson) (json_value line None u e)

-- a value where it is an object
kept : (d : Data) (members : Option Members) (o : Option Data) → option_map (λ ms. d) members ≡ o → (if is_some members then Ok d else Err NotAnObject) ≡ ok_or o NotAnObject
kept d None o e = ap (λ r. ok_or r NotAnObject) e
kept d (Some ms) o e = ap (λ r. ok_or r NotAnObject) e

alone : (line : List ℕ) (r o : Option Data) → IsUtf8 line → read line ≡ r → option_map object_alone r ≡ Some o → object_in line ≡ ok_or o NotAnObject
alone line None o u is e = absurd (cc)
alone line (Some d) o u is e = object_is line (Ok d) (json_value line (Some d) u is) ∙ kept d (as_object d) o (some_injective e)
  where
    some_injective : {A : Type 0} {a b : A} → Some a ≡ Some b → a ≡ b
    some_injective e = cc

pub is_object : (line : List ℕ) (d : Data) → IsUtf8 line → option_map object_alone (read line) ≡ Some (Some d) → object_in line ≡ Ok d
is_object line d u e = alone line (read line) (Some d) u refl e

pub no_object : (line : List ℕ) → IsUtf8 line → option_map object_alone (read line) ≡ Some None → object_in line ≡ Err NotAnObject
no_object line u e = alone line (read line) None u refl e

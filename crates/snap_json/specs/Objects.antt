-- What is left of a text once a value of it is read, and a value that is kept where it is an object.
use Rattle.std.specs.Prelude.{List, Option}
use Rattle.std.specs.Option.{option_map}
use Rattle.json.specs.Token.{Token}
use Rattle.serde_json.specs.Data.{Data}
use Rattle.serde_json.specs.Find.{as_object}

-- the tokens after what was read
abbrev pub rest_of : {A : Type 0} → Option (A × List Token) → Option (List Token)
rest_of read = option_map (λ p. p.1) read

-- the value, where it is an object
abbrev pub object_alone : Data → Option Data
object_alone d = option_map (λ members. d) (as_object d)

-- what was read, with the value where it is an object
abbrev pub object_read : Option (Data × List Token) → Option (Option Data × List Token)
object_read read = option_map {U = Option Data × List Token} (λ p. (object_alone p.0, p.1)) read

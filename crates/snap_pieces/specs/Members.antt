-- How a member that may be absent is written.
use Rattle.std.specs.Prelude.{ℕ, List, ◌∷◌, Option, None, Some}
use Rattle.json.specs.Token.{Token, key}
use Rattle.serde_json.specs.Data.{Data}
use Rattle.snap_json.specs.Tokens.{with_value}

-- its tokens, after those that stand
abbrev pub maybe_tokens : List ℕ → Option Data → List Token → List Token
maybe_tokens name None before = before
maybe_tokens name (Some value) before = with_value value (key name ∷ before)

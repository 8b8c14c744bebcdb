-- How what an answer has is written: the tokens of a member, and the members of a map.
use Rattle.std.specs.Prelude.{ℕ, List, [], ◌∷◌, Option, Some, None}
use denote.Ref.{Bor}
use Rattle.json.specs.Token.{Token, key}
use Rattle.serde_json.specs.Data.{Data, Members, no_members, member}
use Rattle.snap_json.specs.Tokens.{with_value}

-- the tokens of a member, after those that stand
abbrev pub member_tokens : List ℕ → Data → List Token → List Token
member_tokens name value before = with_value value (key name ∷ before)

-- those of a member that may be absent
abbrev pub with_maybe : List ℕ → Option Data → List Token → List Token
with_maybe name None before = before
with_maybe name (Some value) before = member_tokens name value before

-- a member for each entry, in their order
abbrev pub written_members_of : {A : Type 0} → (A → Data) → List (Bor (List ℕ) × A) → Members
written_members_of value [] = no_members
written_members_of value (entry ∷ rest) = member entry.0.now (value entry.1) (written_members_of value rest)

-- Members that may be absent.
use Rattle.std.proofs.Common.{◌≡◌, ℕ, List, Option, Some, None, refl}
use Rattle.json.specs.Token.{Token}
use Rattle.serde_json.specs.Data.{Data, Members}
use Rattle.snap_json.specs.Tokens.{with_members}
use Rattle.snap_pieces.specs.Members.{maybe_tokens}
use Rattle.snap_pieces.specs.Written.{maybe_member}

pub with_members_maybe : (key : List ℕ) (value : Option Data) (rest : Members) (before : List Token) → with_members (maybe_member key value rest) before ≡ with_members rest (maybe_tokens key value before)
with_members_maybe key None rest before = refl
with_members_maybe key (Some value) rest before = refl

-- The fields of a `Writer`.
use Rattle.std.specs.Prelude.{◌≡◌, List, [], reverse}
use Rattle.json.specs.Token.{Token}
use Rattle.snap_json.specs.declared.writer.Writer.TheInside.{Inside}

-- the tokens that were written, the last one first
abbrev pub writer_view : Inside → List Token
writer_view w = reverse w.out.tokens

-- nothing stands before them
abbrev pub IsAlone : Inside → Type 0
IsAlone w = w.out.before ≡ []

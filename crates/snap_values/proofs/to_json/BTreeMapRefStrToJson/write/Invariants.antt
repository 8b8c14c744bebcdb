use Rattle.std.proofs.Common.{◌≡◌, ◌∷◌}
use Rattle.json.specs.Token.{begin_object}
use Rattle.snap_json.specs.Tokens.{with_members}
use Rattle.snap_values.specs.Written.{written_members_of}
use Rattle.snap_values.proofs.to_json.BTreeMapRefStrToJson.write.Given as goal

abbrev pub invariant-loop-key : goal.invariant-loop-key
invariant-loop-key g l =
    with_members (written_members_of g.V.ToJson.value l.self.entries) (begin_object ∷ l.fn.out)
    ≡ with_members (written_members_of g.V.ToJson.value l.key-iterator) l.out

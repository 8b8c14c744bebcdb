use Rattle.std.proofs.Common.{◌≡◌, ◌∷◌, drop}
use Rattle.json.specs.Token.{begin_object}
use Rattle.snap_json.specs.Tokens.{with_members}
use Rattle.snap_values.specs.Calls.{wanted_members}
use Rattle.snap_values.proofs.calls.wanted_labels.Given as goal

abbrev pub invariant-loop-label : goal.invariant-loop-label
invariant-loop-label l =
    with_members (wanted_members l.labels) (begin_object ∷ l.fn.out)
    ≡ with_members (wanted_members (drop l.label-index l.labels)) l.out

use Rattle.std.proofs.Common.{◌≡◌, ◌+◌, ◌++◌, drop, Ok}
use Rattle.snap_call.specs.Results.{◌>>=◌}
use Rattle.snap_json.specs.View.{items_view}
use Rattle.snap_script.specs.Operations.{operations_in}
use Rattle.snap_script.proofs.operation.operations_in.Given as goal

abbrev pub invariant-loop-place : goal.invariant-loop-place
invariant-loop-place l =
    operations_in l.rule 1 (items_view l.values) ≡ (operations_in l.rule (l.place + 1) (items_view (drop l.place l.values)) >>= (λ rest. Ok (l.ops ++ rest)))

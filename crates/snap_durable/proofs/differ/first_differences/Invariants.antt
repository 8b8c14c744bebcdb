use Rattle.std.proofs.Common.{◌≡◌, take, filter_map}
use Rattle.snap_durable.specs.Differences.{first_difference, value_named}
use Rattle.snap_durable.proofs.differ.first_differences.Given as goal

abbrev pub invariant-loop-name : goal.invariant-loop-name
invariant-loop-name g l = l.found ≡ filter_map (λ e. first_difference g.T.Compare.difference e (value_named e.0 l.b)) (take l.name-index l.a)

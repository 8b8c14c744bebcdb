use Rattle.std.proofs.Common.{◌≡◌, length}
use Rattle.snap_json.specs.Shallow.{is_one_of}
use Rattle.snap_json.proofs.shallow.is_one_of.Given as goal

abbrev pub invariant-loop-names : goal.invariant-loop-names
invariant-loop-names l = is_one_of l.names l.name ≡ is_one_of l.fn.names l.name

abbrev pub decreases-loop-names : goal.decreases-loop-names
decreases-loop-names l = length l.names

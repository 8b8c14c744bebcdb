use Rattle.std.proofs.Common.{◌≡◌, length}
use Rattle.snap_script.specs.Known.{near_field}
use Rattle.snap_script.proofs.unknown.near_field.Given as goal

abbrev pub invariant-loop-fields : goal.invariant-loop-fields
invariant-loop-fields l = near_field l.fields l.name ≡ near_field l.fn.fields l.name

abbrev pub decreases-loop-fields : goal.decreases-loop-fields
decreases-loop-fields l = length l.fields

use Rattle.std.proofs.Common.{◌≡◌, length}
use Rattle.snap_script.specs.Known.{is_field_among}
use Rattle.snap_script.proofs.unknown.is_among.Given as goal

abbrev pub invariant-loop-fields : goal.invariant-loop-fields
invariant-loop-fields l = is_field_among l.fields l.name ≡ is_field_among l.fn.fields l.name

abbrev pub decreases-loop-fields : goal.decreases-loop-fields
decreases-loop-fields l = length l.fields

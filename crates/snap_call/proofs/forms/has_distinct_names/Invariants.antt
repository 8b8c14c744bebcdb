use Rattle.std.proofs.Common.{◌≡◌, drop}
use Rattle.snap_call.specs.Forms.{have_distinct_names}
use Rattle.snap_call.proofs.forms.has_distinct_names.Given as goal

abbrev pub invariant-loop-place : goal.invariant-loop-place
invariant-loop-place l = have_distinct_names (drop l.place l.namespaces) ≡ have_distinct_names l.namespaces

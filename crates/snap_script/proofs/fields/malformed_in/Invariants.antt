use Rattle.std.proofs.Common.{◌≡◌}
use Rattle.snap_json.specs.View.{members_of}
use Rattle.snap_script.specs.Fields.{malformed_in}
use Rattle.snap_script.proofs.fields.malformed_in.Given as goal

abbrev pub invariant-loop-key : goal.invariant-loop-key
invariant-loop-key l = record {
  can_next : (goal.iterator-loop-key).can_next l.key-iterator;
  is_finite : (goal.iterator-loop-key).is_finite l.key-iterator;
  same : malformed_in (members_of l.members.entries) ≡ malformed_in (members_of l.key-iterator);
}

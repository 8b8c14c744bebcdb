use Rattle.std.proofs.Common.{◌≡◌, []}
use Rattle.snap_json.specs.View.{members_of}
use Rattle.snap_script.specs.Fields.{labels_with}
use Rattle.snap_script.proofs.fields.labels_in.Given as goal

abbrev pub invariant-loop-key : goal.invariant-loop-key
invariant-loop-key l = record {
  can_next : (goal.iterator-loop-key).can_next l.key-iterator;
  is_finite : (goal.iterator-loop-key).is_finite l.key-iterator;
  same : labels_with [] (members_of l.members.entries) ≡ labels_with l.labels (members_of l.key-iterator);
}

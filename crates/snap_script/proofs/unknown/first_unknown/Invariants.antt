use Rattle.std.proofs.Common.{◌≡◌}
use Rattle.snap_json.specs.View.{members_of}
use Rattle.snap_script.specs.Known.{unknown_among}
use Rattle.snap_script.proofs.unknown.first_unknown.Given as goal

abbrev pub invariant-loop-name : goal.invariant-loop-name
invariant-loop-name l = record {
  can_next : (goal.iterator-loop-name).can_next l.name-iterator;
  is_finite : (goal.iterator-loop-name).is_finite l.name-iterator;
  same : unknown_among l.common l.own (members_of l.members.entries) ≡ unknown_among l.common l.own (members_of l.name-iterator);
}

use Rattle.std.proofs.Common.{◌≡◌, ◌++◌}
use Rattle.std.specs.Prelude.{option_map}
use Rattle.snap_json.specs.View.{members_of}
use Rattle.snap_script.specs.Fields.{label_filters_in}
use Rattle.snap_script.proofs.fields.label_filters_in.Given as goal

abbrev pub invariant-loop-key : goal.invariant-loop-key
invariant-loop-key l = record {
  can_next : (goal.iterator-loop-key).can_next l.key-iterator;
  is_finite : (goal.iterator-loop-key).is_finite l.key-iterator;
  same : label_filters_in (members_of l.members.entries) ≡ option_map (λ rest. l.filters ++ rest) (label_filters_in (members_of l.key-iterator));
}

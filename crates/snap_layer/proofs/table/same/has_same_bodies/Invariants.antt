use Rattle.std.proofs.Common.{◌≡◌}
use Rattle.std.specs.Prelude.{◌↔◌}
use Rattle.snap_layer.specs.Walk.{body_at}
use Rattle.snap_layer.specs.Holds.{bodies_of}
use Rattle.snap_layer.specs.Rows.{AreHoused}
use Rattle.snap_layer.proofs.table.same.has_same_bodies.Given as goal

-- what both had so far was the same, and what is left has its bodies
abbrev pub invariant-loop-number : goal.invariant-loop-number
invariant-loop-number l = record {
  ready : (goal.iterator-loop-number).can_next l.number-iterator;
  finite : (goal.iterator-loop-number).is_finite l.number-iterator;
  left : (bodies_of (body_at l.slots) l.number-iterator ≡ bodies_of (body_at l.other_slots) l.others) ↔ (bodies_of (body_at l.slots) l.places.entries ≡ bodies_of (body_at l.other_slots) l.other_places.entries);
  bodies : AreHoused l.slots l.number-iterator;
  others : AreHoused l.other_slots l.others;
}

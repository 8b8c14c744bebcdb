use Rattle.std.proofs.Common.{◌≡◌, ◌+◌, ◌≤◌, length, take}
use Rattle.snap_layer.specs.Counts.{name_count}
use Rattle.snap_layer.proofs.table.reads.names_of_rows.Given as goal

-- the names that were counted, and those among what is to come
abbrev pub invariant-loop-row : goal.invariant-loop-row
invariant-loop-row g l = record {
  few : l.names + l.left ≤ l.many;
  count : l.names + name_count l.number (take l.left l.rows.rest) ≡ name_count l.number (take l.many l.initial.rows.rest);
}

abbrev pub decreases-loop-row : goal.decreases-loop-row
decreases-loop-row g l = length l.rows.rest

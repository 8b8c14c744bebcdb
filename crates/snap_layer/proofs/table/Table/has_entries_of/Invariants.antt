use Rattle.std.proofs.Common.{◌≡◌, length}
use Rattle.std.specs.Prelude.{◌↔◌}
use Rattle.snap_layer.proofs.table.Table.has_entries_of.Given as goal

-- both walks are at one path, and what they had so far was the same
abbrev pub invariant-loop-row : goal.invariant-loop-row
invariant-loop-row l = record {
  path : l.rows.path ≡ l.others.path;
  left : (l.rows.rest ≡ l.others.rest) ↔ (l.self.entries ≡ l.other.entries);
}

abbrev pub decreases-loop-row : goal.decreases-loop-row
decreases-loop-row l = length l.rows.rest

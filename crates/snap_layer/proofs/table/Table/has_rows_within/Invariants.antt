use Rattle.std.proofs.Common.{◌≡◌, length}
use Rattle.std.specs.List.{list_all}
use Rattle.snap_layer.specs.Edits.{inside}
use Rattle.snap_layer.specs.Rows.{is_text_within}
use Rattle.snap_layer.proofs.table.Table.has_rows_within.Given as goal

-- the paths that came are short enough
abbrev pub invariant-loop-row : goal.invariant-loop-row
invariant-loop-row g l = record {
  front : l.rows.front ≡ l.front;
  left : list_all (is_text_within l.most) l.rows.rest ≡ list_all (is_text_within l.most) (inside l.front l.self.entries);
}

abbrev pub decreases-loop-row : goal.decreases-loop-row
decreases-loop-row g l = length l.rows.rest

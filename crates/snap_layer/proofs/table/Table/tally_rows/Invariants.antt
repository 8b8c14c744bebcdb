use Rattle.std.proofs.Common.{◌≡◌, ◌+◌, length}
use Rattle.std.specs.Prelude.{count_by}
use Rattle.std.specs.Map.{values_of}
use Rattle.snap_layer.specs.Tree.{is_dir, is_whiteout}
use Rattle.snap_layer.specs.Edits.{inside}
use Rattle.snap_layer.proofs.table.Table.tally_rows.Given as goal

-- those that were counted, and those among what is to come
abbrev pub invariant-loop-row : goal.invariant-loop-row
invariant-loop-row g l = record {
  dirs : l.dirs + count_by is_dir (values_of l.rows.rest) ≡ count_by is_dir (values_of (inside l.front l.self.entries));
  whiteouts : l.whiteouts + count_by is_whiteout (values_of l.rows.rest) ≡ count_by is_whiteout (values_of (inside l.front l.self.entries));
}

abbrev pub decreases-loop-row : goal.decreases-loop-row
decreases-loop-row g l = length l.rows.rest

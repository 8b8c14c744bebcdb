use Rattle.std.proofs.Common.{◌≡◌, ◌++◌, length}
use Rattle.std.specs.List.{sum_by}
use Rattle.std.specs.Map.{values_of}
use Rattle.snap_layer.specs.Tree.{Entries, at}
use Rattle.snap_layer.specs.Counts.{body_blocks}
use Rattle.snap_layer.specs.Edits.{inside}
use Rattle.snap_layer.specs.Ended.{ended_in}
use Rattle.snap_layer.specs.Rows.{own}
use Rattle.snap_layer.proofs.table.Table.ended_all.Given as goal

-- what ends with the entries that came
abbrev pub invariant-loop-row : goal.invariant-loop-row
invariant-loop-row l = (pre : Entries) × (inside l.front l.self.entries ≡ own l.front (at l.self l.front) ++ (pre ++ l.rows.rest)) × (l.many ≡ length pre) × (l.inodes ≡ length (ended_in l.self pre)) × (l.blocks ≡ sum_by body_blocks (values_of (ended_in l.self pre)))

abbrev pub decreases-loop-row : goal.decreases-loop-row
decreases-loop-row l = length l.rows.rest

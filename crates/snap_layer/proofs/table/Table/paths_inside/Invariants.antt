use Rattle.std.proofs.Common.{◌≡◌, length}
use Rattle.snap_layer.proofs.Below.{AreListed}
use Rattle.snap_layer.proofs.table.Table.paths_inside.Given as goal

-- the paths that were listed, the last one, and those to come
abbrev pub invariant-loop-rows : goal.invariant-loop-rows
invariant-loop-rows l = record {
  last : l.last ≡ l.rows.path;
  listed : AreListed l.self l.front l.paths.items l.last l.rows.rest;
}

abbrev pub decreases-loop-rows : goal.decreases-loop-rows
decreases-loop-rows l = length l.rows.rest

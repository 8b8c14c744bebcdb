use Rattle.std.proofs.Common.{◌≡◌, ◌<◌, []}
use Rattle.std.specs.Arc.{arc_value}
use Rattle.snap_ledger.specs.Halves.{maker}
use Rattle.snap_ledger.specs.States.{free_row}
use Rattle.snap_ledger.proofs.halves.Charge.row.Given as goal

abbrev pub invariant-loop-slot : goal.invariant-loop-slot
invariant-loop-slot g l = record {
  table : (arc_value l.table).shared.table_id ≡ g.N.StoreName.table;
  seat : l.first.table_id ≡ g.N.StoreName.table;
  words : 0 < g.N.StoreName.table.words;
  view : l.first.me ≡ (maker l.slot, []);
  row : l.row.items ≡ free_row l.slot;
}

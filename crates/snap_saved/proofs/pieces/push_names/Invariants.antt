use Rattle.std.proofs.Common.{◌≡◌, ◌++◌, length, map}
use Rattle.std.specs.Vec.Iter.{into_iter_items, into_iter_len}
use Rattle.snap_saved.specs.declared.piece.Piece.TheVariants.{Name}
use Rattle.snap_saved.proofs.pieces.push_names.Given as goal

-- the first are there, and with the others all are
abbrev pub invariant-loop-name : goal.invariant-loop-name
invariant-loop-name l = record {
  left : l.pieces.items ++ map Name (into_iter_items l.name-iterator) ≡ l.fn.pieces.items ++ map Name l.fn.names.items;
  count : into_iter_len l.name-iterator ≡ length (into_iter_items l.name-iterator);
}

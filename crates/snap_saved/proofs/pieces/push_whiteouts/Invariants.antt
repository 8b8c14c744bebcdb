use Rattle.std.proofs.Common.{◌≡◌, ◌++◌, length, map}
use Rattle.std.specs.Vec.Iter.{into_iter_items, into_iter_len}
use Rattle.snap_saved.specs.declared.piece.Piece.TheVariants.{Whiteout}
use Rattle.snap_saved.proofs.pieces.push_whiteouts.Given as goal

-- the first are there, and with the others all are
abbrev pub invariant-loop-path : goal.invariant-loop-path
invariant-loop-path l = record {
  left : l.pieces.items ++ map Whiteout (into_iter_items l.path-iterator) ≡ l.fn.pieces.items ++ map Whiteout l.fn.whiteouts.items;
  count : into_iter_len l.path-iterator ≡ length (into_iter_items l.path-iterator);
}

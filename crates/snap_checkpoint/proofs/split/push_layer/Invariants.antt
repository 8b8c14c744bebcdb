use Rattle.std.proofs.Common.{◌≡◌, ◌++◌, length, map}
use Rattle.std.specs.Vec.Iter.{into_iter_items, into_iter_len}
use Rattle.snap_pieces.specs.declared.piece.StorePiece.TheVariants.{Layer}
use Rattle.snap_checkpoint.proofs.split.push_layer.Given as goal

-- the first are there, and with the others all are
abbrev pub invariant-loop-piece : goal.invariant-loop-piece
invariant-loop-piece l = record {
  left : l.pieces.items ++ map Layer (into_iter_items l.piece-iterator) ≡ l.fn.pieces.items ++ map Layer l.fn.layer.items;
  count : into_iter_len l.piece-iterator ≡ length (into_iter_items l.piece-iterator);
}

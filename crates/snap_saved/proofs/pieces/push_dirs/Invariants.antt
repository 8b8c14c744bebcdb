use Rattle.std.proofs.Common.{◌≡◌, ◌++◌, length, map}
use Rattle.std.specs.Vec.Iter.{into_iter_items, into_iter_len}
use Rattle.snap_saved.specs.declared.piece.Piece.TheVariants.{Dir}
use Rattle.snap_saved.proofs.pieces.push_dirs.Given as goal

-- the first are there, and with the others all are
abbrev pub invariant-loop-dir : goal.invariant-loop-dir
invariant-loop-dir l = record {
  left : l.pieces.items ++ map Dir (into_iter_items l.dir-iterator) ≡ l.fn.pieces.items ++ map Dir l.fn.dirs.items;
  count : into_iter_len l.dir-iterator ≡ length (into_iter_items l.dir-iterator);
}

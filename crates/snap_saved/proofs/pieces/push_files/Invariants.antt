use Rattle.std.proofs.Common.{◌≡◌, ◌++◌, length}
use Rattle.std.specs.List.{flat_map}
use Rattle.std.specs.Vec.Iter.{into_iter_items, into_iter_len}
use Rattle.snap_saved.specs.Pieces.{file_pieces}
use Rattle.snap_saved.proofs.pieces.push_files.Given as goal

-- the pieces of the first are there, and with those of the others all are
abbrev pub invariant-loop-file : goal.invariant-loop-file
invariant-loop-file l = record {
  left : l.pieces.items ++ flat_map file_pieces (into_iter_items l.file-iterator) ≡ l.fn.pieces.items ++ flat_map file_pieces l.fn.files.items;
  count : into_iter_len l.file-iterator ≡ length (into_iter_items l.file-iterator);
}

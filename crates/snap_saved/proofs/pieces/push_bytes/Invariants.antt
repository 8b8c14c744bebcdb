use Rattle.std.proofs.Common.{◌≡◌, ◌++◌, length, map}
use Rattle.snap_saved.specs.Pieces.{bytes_in_pieces}
use Rattle.snap_saved.specs.declared.piece.Piece.TheVariants.{Bytes}
use Rattle.snap_saved.proofs.pieces.push_bytes.Given as goal

-- the first pieces are there, and with those of the other bytes all are
abbrev pub invariant-loop-rest : goal.invariant-loop-rest
invariant-loop-rest l = l.pieces.items ++ map Bytes (bytes_in_pieces l.rest) ≡ l.fn.pieces.items ++ map Bytes (bytes_in_pieces l.bytes)

abbrev pub decreases-loop-rest : goal.decreases-loop-rest
decreases-loop-rest l = length l.rest

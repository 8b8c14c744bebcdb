use Rattle.std.proofs.Common.{◌≡◌, ◌++◌, drop, map}
use Rattle.snap_pieces.specs.declared.piece.StorePiece.TheVariants.{Leased}
use Rattle.snap_checkpoint.proofs.split.push_names.Given as goal

-- the first are there, and with the others all are
abbrev pub invariant-loop-name : goal.invariant-loop-name
invariant-loop-name l = l.pieces.items ++ map Leased (drop l.name-index l.names) ≡ l.fn.pieces.items ++ map Leased l.names

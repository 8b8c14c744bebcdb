use Rattle.std.proofs.Common.{◌≡◌, ◌++◌, drop, map}
use Rattle.snap_checkpoint.specs.Pieces.{label_piece}
use Rattle.snap_checkpoint.proofs.split.push_labels.Given as goal

-- the first are there, and with the others all are
abbrev pub invariant-loop-key : goal.invariant-loop-key
invariant-loop-key l = l.pieces.items ++ map label_piece (drop l.key-index l.key-items) ≡ l.fn.pieces.items ++ map label_piece l.key-items

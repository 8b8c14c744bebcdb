use Rattle.std.proofs.Common.{◌≡◌, map, take}
use Rattle.snap_pieces.specs.declared.piece.StorePiece.TheVariants.{Namespace}
use Rattle.snap_checkpoint.proofs.split.split_namespaces.Given as goal

-- those of the first places
abbrev pub invariant-loop-namespace : goal.invariant-loop-namespace
invariant-loop-namespace l = l.pieces.items ≡ map Namespace (take l.namespace-index l.namespaces)

use Rattle.std.proofs.Common.{◌≡◌, length, Some}
use Rattle.std.specs.Prelude.{Ok, option_and_then}
use Rattle.std.specs.Result.{result_ok}
use Rattle.std.specs.List.{fold}
use Rattle.std.specs.Vec.Iter.{into_iter_items, into_iter_len}
use Rattle.snap_saved.specs.Pieces.{gathered_layer, with_next_piece}
use Rattle.test_parts.proofs.saved.again.Given as goal

abbrev pub invariant-loop-piece : goal.invariant-loop-piece
invariant-loop-piece l = record {
  left : option_and_then (λ g. result_ok (gathered_layer g)) (result_ok (fold with_next_piece (Ok l.gathering) (into_iter_items l.piece-iterator))) ≡ Some l.layer;
  count : into_iter_len l.piece-iterator ≡ length (into_iter_items l.piece-iterator);
}

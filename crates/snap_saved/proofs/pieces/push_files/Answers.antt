use Rattle.std.proofs.Common.{◌≡◌, ◌∷◌, [], arith, ap, length, rules}
use Rattle.std.proofs.lemmas.List.{nil_from_length}
use Rattle.std.specs.Vec.Iter.{into_iter_items}
use Rattle.snap_saved.specs.Pieces.{file_pieces}
use Rattle.snap_saved.proofs.ByPiece.{more_pieces, no_more_pieces}
use Rattle.snap_saved.proofs.pieces.push_files.Goals as goal

pub loop-file-preserved : goal.loop-file-preserved
loop-file-preserved c =
    let was = c.loop-file.invariant in
    let left : into_iter_items c.loop-file.file-iterator ≡ c.in-Some.file ∷ into_iter_items c.next.new.self = search rules in
    record {
      left = more_pieces file_pieces c.loop-file.pieces.items c.push_file.new.pieces.items _ _ _ c.in-Some.file left c.in_ok-push_file.ensures was.left;
      count = omega (arith, was.count, c.in-Some.ensures.steps.1, ap length left);
    }

pub returns : goal.returns
returns c =
    let none : into_iter_items c.loop-file.file-iterator ≡ [] = nil_from_length (into_iter_items c.loop-file.file-iterator) (omega (arith, c.loop-file.invariant.count, c.in-None.ensures.steps.0)) in
    no_more_pieces file_pieces c.loop-file.pieces.items _ _ none c.loop-file.invariant.left

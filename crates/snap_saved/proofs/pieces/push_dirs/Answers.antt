use Rattle.std.proofs.Common.{◌≡◌, ◌∷◌, [], arith, ap, length, rules}
use Rattle.std.proofs.lemmas.List.{nil_from_length}
use Rattle.std.specs.Vec.Iter.{into_iter_items}
use Rattle.snap_saved.specs.declared.piece.Piece.TheVariants.{Dir}
use Rattle.snap_saved.proofs.ByPiece.{no_more, one_more_piece}
use Rattle.snap_saved.proofs.pieces.push_dirs.Goals as goal

pub loop-dir-preserved : goal.loop-dir-preserved
loop-dir-preserved c =
    let was = c.loop-dir.invariant in
    let left : into_iter_items c.loop-dir.dir-iterator ≡ c.in-Some.dir ∷ into_iter_items c.next.new.self = search rules in
    record {
      left = one_more_piece Dir c.loop-dir.pieces.items c.push.new.self.items _ _ _ c.in-Some.dir left c.in_ok-push.ensures.items was.left;
      count = omega (arith, was.count, c.in-Some.ensures.steps.1, ap length left);
    }

pub returns : goal.returns
returns c =
    let none : into_iter_items c.loop-dir.dir-iterator ≡ [] = nil_from_length (into_iter_items c.loop-dir.dir-iterator) (omega (arith, c.loop-dir.invariant.count, c.in-None.ensures.steps.0)) in
    no_more Dir c.loop-dir.pieces.items _ _ none c.loop-dir.invariant.left

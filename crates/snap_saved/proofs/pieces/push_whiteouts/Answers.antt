use Rattle.std.proofs.Common.{◌≡◌, ◌∷◌, [], arith, ap, length, rules}
use Rattle.std.proofs.lemmas.List.{nil_from_length}
use Rattle.std.specs.Vec.Iter.{into_iter_items}
use Rattle.snap_saved.specs.declared.piece.Piece.TheVariants.{Whiteout}
use Rattle.snap_saved.proofs.ByPiece.{no_more, one_more_piece}
use Rattle.snap_saved.proofs.pieces.push_whiteouts.Goals as goal

pub loop-path-preserved : goal.loop-path-preserved
loop-path-preserved c =
    let was = c.loop-path.invariant in
    let left : into_iter_items c.loop-path.path-iterator ≡ c.in-Some.path ∷ into_iter_items c.next.new.self = search rules in
    record {
      left = one_more_piece Whiteout c.loop-path.pieces.items c.push.new.self.items _ _ _ c.in-Some.path left c.in_ok-push.ensures.items was.left;
      count = omega (arith, was.count, c.in-Some.ensures.steps.1, ap length left);
    }

pub returns : goal.returns
returns c =
    let none : into_iter_items c.loop-path.path-iterator ≡ [] = nil_from_length (into_iter_items c.loop-path.path-iterator) (omega (arith, c.loop-path.invariant.count, c.in-None.ensures.steps.0)) in
    no_more Whiteout c.loop-path.pieces.items _ _ none c.loop-path.invariant.left

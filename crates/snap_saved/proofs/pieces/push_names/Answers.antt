use Rattle.std.proofs.Common.{◌≡◌, ◌∷◌, [], arith, ap, length, rules}
use Rattle.std.proofs.lemmas.List.{nil_from_length}
use Rattle.std.specs.Vec.Iter.{into_iter_items}
use Rattle.snap_saved.specs.declared.piece.Piece.TheVariants.{Name}
use Rattle.snap_saved.proofs.ByPiece.{no_more, one_more_piece}
use Rattle.snap_saved.proofs.pieces.push_names.Goals as goal

pub loop-name-preserved : goal.loop-name-preserved
loop-name-preserved c =
    let was = c.loop-name.invariant in
    let left : into_iter_items c.loop-name.name-iterator ≡ c.in-Some.name ∷ into_iter_items c.next.new.self = search rules in
    record {
      left = one_more_piece Name c.loop-name.pieces.items c.push.new.self.items _ _ _ c.in-Some.name left c.in_ok-push.ensures.items was.left;
      count = omega (arith, was.count, c.in-Some.ensures.steps.1, ap length left);
    }

pub returns : goal.returns
returns c =
    let none : into_iter_items c.loop-name.name-iterator ≡ [] = nil_from_length (into_iter_items c.loop-name.name-iterator) (omega (arith, c.loop-name.invariant.count, c.in-None.ensures.steps.0)) in
    no_more Name c.loop-name.pieces.items _ _ none c.loop-name.invariant.left

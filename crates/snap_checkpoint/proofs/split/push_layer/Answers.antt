use Rattle.std.proofs.Common.{◌≡◌, ◌∷◌, [], arith, ap, length, rules}
use Rattle.std.proofs.lemmas.List.{nil_from_length}
use Rattle.std.specs.Vec.Iter.{into_iter_items}
use Rattle.snap_pieces.specs.declared.piece.StorePiece.TheVariants.{Layer}
use Rattle.snap_checkpoint.proofs.Listing.{no_more, one_more}
use Rattle.snap_checkpoint.proofs.split.push_layer.Goals as goal

pub loop-piece-preserved : goal.loop-piece-preserved
loop-piece-preserved c =
    let was = c.loop-piece.invariant in
    let left : into_iter_items c.loop-piece.piece-iterator ≡ c.in-Some.piece ∷ into_iter_items c.next.new.self = search rules in
    record {
      left = one_more Layer c.loop-piece.pieces.items c.push.new.self.items _ _ _ c.in-Some.piece left c.in_ok-push.ensures.items was.left;
      count = omega (arith, was.count, c.in-Some.ensures.steps.1, ap length left);
    }

pub returns : goal.returns
returns c =
    let none : into_iter_items c.loop-piece.piece-iterator ≡ [] = nil_from_length (into_iter_items c.loop-piece.piece-iterator) (omega (arith, c.loop-piece.invariant.count, c.in-None.ensures.steps.0)) in
    no_more Layer c.loop-piece.pieces.items _ _ none c.loop-piece.invariant.left

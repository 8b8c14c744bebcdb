use Rattle.std.proofs.Common.{◌≡◌, Some, sym, ap, ◌∙◌}
use Rattle.snap_world.specs.World.{hand_at}
use Rattle.snap_world.specs.Move.{is_under, meets}
use Rattle.snap_world.proofs.Places.{back_again}
use Rattle.snap_world.proofs.hands.Hands.take_under.Goals as goal

pub returns : goal.returns
returns g c =
    let at : hand_at c.args.slot c.args.self.now ≡ Some c.in_ok-hand.hand = sym c.in_ok-hand.ensures.taken in
    (ap (meets (is_under c.args.id)) at ∙ (sym c.is_under.ensures ∙ c.if-is_under.false), back_again _ _ _ c.args.slot c.in_ok-hand.hand at c.in_ok-hand.ensures.rest c.put.ensures)

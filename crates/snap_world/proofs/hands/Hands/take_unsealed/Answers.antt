use Rattle.std.proofs.Common.{◌≡◌, true, Some, sym, ap, ◌∙◌}
use Rattle.snap_world.specs.Hand.{hand_of}
use Rattle.snap_world.specs.World.{HandValue, hand_at, with_hand}
use Rattle.snap_world.specs.Move.{is_unsealed, meets}
use Rattle.snap_world.proofs.Places.{back_again}
use Rattle.snap_world.proofs.hands.Hands.take_unsealed.Goals as goal

pub returns-in-Sealed : goal.returns-in-Sealed
returns-in-Sealed g c =
    let hand : HandValue = record { snapshot = c.in-Sealed.sealed; sealed = true } in
    let is : c.in_ok-held.field-0 ≡ hand = sym c.held.view_is ∙ ap hand_of c.in-Sealed.is in
    let at : hand_at c.args.slot c.args.self.now ≡ Some hand = sym c.in_ok-held.ensures.taken ∙ ap (λ (h : HandValue). Some h) is in
    (ap (meets is_unsealed) at, back_again _ _ _ c.args.slot hand at c.in_ok-held.ensures.rest (c.put.ensures ∙ ap (λ (h : HandValue). with_hand c.args.slot (Some h) c.take.new.self) c.of_sealed.ensures))

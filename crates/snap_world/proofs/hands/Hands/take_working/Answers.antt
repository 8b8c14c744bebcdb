use Rattle.std.proofs.Common.{◌≡◌, Bool, true, false, Some, sym, ap, ◌∙◌}
use Rattle.std.specs.Prelude.{◌&&◌}
use Rattle.snap_world.specs.Hand.{hand_of}
use Rattle.snap_world.specs.World.{HandValue, hand_at, with_hand}
use Rattle.snap_world.specs.Move.{is_under, is_working, meets}
use Rattle.snap_world.proofs.Places.{back_again}
use Rattle.snap_world.proofs.hands.Hands.take_working.Goals as goal

pub returns-in-Sealed : goal.returns-in-Sealed
returns-in-Sealed g c =
    let taken = c.in_ok-held.ensures in
    let hand : HandValue = record { snapshot = c.in-Sealed.sealed; sealed = true } in
    let is : c.in_ok-held.field-0 ≡ hand = sym c.held.view_is ∙ ap hand_of c.in-Sealed.is in
    let at : hand_at c.args.slot c.args.self.now ≡ Some hand = taken.0 ∙ ap (λ (h : HandValue). Some h) is in
    let under : is_under c.args.id hand ≡ true = ap (is_under c.args.id) (sym is) ∙ taken.1 in (
      ap (meets (is_working c.args.id)) at ∙ ap (λ (b : Bool). b && false) under,
      back_again _ _ _ c.args.slot hand at taken.3 (c.put.ensures ∙ ap (λ (h : HandValue). with_hand c.args.slot (Some h) c.take_under.new.self) c.of_sealed.ensures),
    )

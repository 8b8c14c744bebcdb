use Rattle.std.proofs.Common.{Some, ap, ◌∙◌}
use Rattle.snap_world.specs.World.{HandValue, with_hand}
use Rattle.snap_world.proofs.Does.{charge_does}
use Rattle.snap_world.proofs.hands.Hands.charge.Goals as goal

pub returns : goal.returns
returns g c =
    let found = c.in-Some.ensures in
    charge_does _ _ _ _ _ _ _ _ _ _ c.in-Some.active _ _ c.requires found.0 found.1 c.charge_active-reply.ensures.answered c.charge_active-reply.ensures.snapshot c.charge_active-reply.ensures.full found.3
    (c.put.ensures ∙ ap (λ (h : HandValue). with_hand c.args.slot (Some h) c.take_working.new.self) c.of.ensures)

use Rattle.snap_world.proofs.Does.{plain_does}
use Rattle.snap_world.proofs.hands.Hands.plain.Goals as goal

pub returns : goal.returns
returns g c = plain_does _ _ _ _ _ _ c.requires c.do_call.ensures.answered c.do_call.ensures.full

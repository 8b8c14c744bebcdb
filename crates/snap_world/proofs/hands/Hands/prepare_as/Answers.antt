use Rattle.snap_world.proofs.Does.{prepare_does_as}
use Rattle.snap_world.proofs.hands.Hands.prepare_as.Goals as goal

pub returns : goal.returns
returns g c =
    prepare_does_as _ c.prepare.new.book _ _ _ c.as_str.result.now c.as_str-2.result.now c.as_str-3.result.now _ _ _ _ _ c.as_str.ensures c.as_str-2.ensures c.as_str-3.ensures c.prepare.ensures.answered c.prepare.ensures.hands c.prepare.ensures.full

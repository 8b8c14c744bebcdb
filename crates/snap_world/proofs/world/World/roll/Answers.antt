use Rattle.snap_world.proofs.Rounds.{fits_round}
use Rattle.snap_world.proofs.world.World.roll.Goals as goal

pub invariant_of-self : goal.invariant_of-self
invariant_of-self g c = fits_round c.roll.result _ _ _ c.args.journal c.self.invariant c.roll.ensures.began c.roll.ensures.same

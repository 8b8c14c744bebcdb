use Rattle.snap_world.proofs.Applying.{fits_applied}
use Rattle.snap_world.proofs.world.World.apply.Goals as goal

pub invariant_of-self : goal.invariant_of-self
invariant_of-self g c = fits_applied _ _ _ _ _ _ _ _ c.self.invariant c.apply.ensures.steps

pub returns-clause-fits : goal.returns-clause-fits
returns-clause-fits g c = fits_applied _ _ _ _ _ _ _ _ c.self.invariant c.apply.ensures.steps

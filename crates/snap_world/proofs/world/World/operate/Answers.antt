use Rattle.snap_world.proofs.Fitting.{fits_file}
use Rattle.snap_world.proofs.world.World.operate.Goals as goal

pub invariant_of-self : goal.invariant_of-self
invariant_of-self g c = fits_file _ _ _ _ _ c.self.invariant (c.file.ensures c.self.inside.book)

pub returns-clause-fits : goal.returns-clause-fits
returns-clause-fits g c = fits_file _ _ _ _ _ c.self.invariant (c.file.ensures c.self.inside.book)

use Rattle.snap_world.proofs.Putting.{fits_put}
use Rattle.snap_world.proofs.world.World.put_layer.Goals as goal

pub invariant_of-self : goal.invariant_of-self
invariant_of-self g c = fits_put c.put_layer.result c.self.inside.book _ _ c.args.slot c.args.layer c.self.invariant c.put_layer.ensures.ok c.put_layer.ensures.may c.put_layer.ensures.same

pub returns-clause-fits : goal.returns-clause-fits
returns-clause-fits g c = fits_put c.put_layer.result c.self.inside.book _ _ c.args.slot c.args.layer c.self.invariant c.put_layer.ensures.ok c.put_layer.ensures.may c.put_layer.ensures.same

use Rattle.snap_world.proofs.Opened.{fits_opening, was_valid}
use Rattle.snap_world.proofs.world.World.open.Goals as goal

pub invariant_of-result : goal.invariant_of-result
invariant_of-result g c = fits_opening _ _ c.args.config (was_valid _ _ c.args.config c.in_ok-book.ensures.bad.1) c.in_ok-book.ensures.opened c.in_ok-hands.ensures

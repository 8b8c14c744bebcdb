use Rattle.snap_world.proofs.Rounds.{fits_round}
use Rattle.snap_world.proofs.world.World.reopen.Goals as goal

pub invariant_of-self : goal.invariant_of-self
invariant_of-self g c = fits_round c.next_round.result _ _ _ c.args.journal c.self.invariant c.next_round.ensures.began c.next_round.ensures.same

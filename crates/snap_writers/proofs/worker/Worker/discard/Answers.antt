use Rattle.snap_writers.proofs.Calling.{discard_went}
use Rattle.snap_writers.proofs.worker.Worker.discard.Goals as goal

pub returns-clause-went : goal.returns-clause-went
returns-clause-went g c = discard_went c.args.self.now.session c.discard.new.session _ _ _ _ c.discard.ensures.held c.discard.ensures.granted

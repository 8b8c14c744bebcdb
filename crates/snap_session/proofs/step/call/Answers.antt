use Rattle.snap_world.specs.declared.step.Step.TheVariants.{Locked}
use Rattle.snap_session.proofs.Moving.{moved_unless}
use Rattle.snap_session.proofs.Opening.{opening-kept}
use Rattle.snap_session.proofs.step.call.Goals as goal

pub returns-clause-done : goal.returns-clause-done
returns-clause-done g c = moved_unless c.args.world.now c.call.new.self (Locked c.args.session c.args.call) c.call.result c.unless_want.result c.call.ensures.moves c.unless_want.ensures

pub returns-clause-opening : goal.returns-clause-opening
returns-clause-opening g c = opening-kept c.args.world.now c.call.new.self (Locked c.args.session c.args.call) c.call.result c.call.ensures.moves

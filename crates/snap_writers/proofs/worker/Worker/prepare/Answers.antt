use Rattle.snap_writers.proofs.Calling.{prepare_granted, prepare_refused}
use Rattle.snap_writers.proofs.worker.Worker.prepare.Goals as goal

pub returns-clause-fresh : goal.returns-clause-fresh
returns-clause-fresh g c = prepare_granted _ c.args.self.now.session c.reserve.new.self c.prepare.new.session c.args.job.now _ _ _ _ c.prepare.result c.in_ok-reserve.ensures.same c.as_str.ensures c.as_str-2.ensures c.as_str-3.ensures c.new.ensures c.prepare.ensures.granted

pub returns-clause-refused : goal.returns-clause-refused
returns-clause-refused g c = prepare_refused c.args.self.now.session c.reserve.new.self c.prepare.new.session c.args.job.now _ _ _ _ c.prepare.result c.in_ok-reserve.ensures.same c.as_str.ensures c.as_str-2.ensures c.as_str-3.ensures c.new.ensures c.prepare.ensures.refused

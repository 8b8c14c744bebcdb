use Rattle.snap_durable.specs.Shortened.{DiffersIn}
use Rattle.snap_durable.proofs.FilesServedLaws.{no_difference}
use Rattle.snap_durable.proofs.shortened.unstarted.Goals as goal

pub returns-in-Differs-clause-differs : goal.returns-in-Differs-clause-differs
returns-in-Differs-clause-differs g c = (c.in-Differs.log, c.in-Differs.is, c.pair_of-in-Differs.ensures)

pub returns-in-Ended-clause-differs : goal.returns-in-Ended-clause-differs
returns-in-Ended-clause-differs g c = no_difference c.unserved.result (DiffersIn c.args.why c.args.other c.args.is_second) c.unserved.ensures.differs

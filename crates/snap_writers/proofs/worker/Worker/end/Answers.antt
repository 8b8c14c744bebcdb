use Rattle.snap_writers.proofs.worker.Worker.end.Goals as goal

pub returns-in-Discard-clause-ended : goal.returns-in-Discard-clause-ended
returns-in-Discard-clause-ended g c = (c.in-Discard.is, c.discard.ensures.went)

pub returns-in-Ok-clause-ended : goal.returns-in-Ok-clause-ended
returns-in-Ok-clause-ended g c = (c.in-Commit.name, c.in-Commit.lease, c.in-Commit.labels, c.in-Commit.is, c.id-id.ensures, c.in-Ok.ensures.count, c.in-Ok.ensures.granted)

pub returns-in-Err-clause-ended : goal.returns-in-Err-clause-ended
returns-in-Err-clause-ended g c = (c.in-Commit.name, c.in-Commit.lease, c.in-Commit.labels, c.in-Commit.is, c.in-Err.ensures.refused)

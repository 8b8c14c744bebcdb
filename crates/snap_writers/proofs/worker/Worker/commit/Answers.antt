use Rattle.snap_writers.proofs.Calling.{commit_none, commit_refused, commit_went}
use Rattle.snap_writers.proofs.worker.Worker.commit.Goals as goal

pub returns-in-Ok-commit-clause-granted : goal.returns-in-Ok-commit-clause-granted
returns-in-Ok-commit-clause-granted g c = commit_went c.args.self.now.session c.reserve.new.self c.commit.new.session c.args.active c.in-Ok.sealed c.args.name.now c.as_str.result.now c.args.lease.now c.args.labels.now c.in-Ok-commit.usage c.in-Ok.ensures.ok c.as_str.ensures c.reserve.ensures.same c.in-Ok-commit.ensures.granted

pub returns-in-Err-commit-clause-refused : goal.returns-in-Err-commit-clause-refused
returns-in-Err-commit-clause-refused g c = commit_refused c.args.self.now.session c.reserve.new.self c.commit.new.session c.discard-in-Err-commit.new.self.session c.args.active c.in-Ok.sealed c.in-Err-commit.sealed c.args.name.now c.as_str.result.now c.args.lease.now c.args.labels.now c.in-Err-commit.why c.in-Ok.ensures.ok c.in-Err-commit.ensures.same c.as_str.ensures c.reserve.ensures.same c.in-Err-commit.ensures.refused c.discard-in-Err-commit.ensures.went

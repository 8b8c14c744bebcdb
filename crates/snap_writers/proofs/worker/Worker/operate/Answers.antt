use Rattle.std.proofs.Common.{◌≡◌, rules}
use Rattle.snap_path.specs.Memory.{no_memory}
use Rattle.snap_call.specs.declared.refusal.Refusal.TheVariants.{OutOfMemory}
use Rattle.snap_writers.proofs.Calling.{tried_from, tried_none}
use Rattle.snap_writers.proofs.Erring.{run_tried}
use Rattle.snap_writers.proofs.worker.Worker.operate.Goals as goal

pub returns-clause-tried : goal.returns-clause-tried
returns-clause-tried g c =
    let j = c.args.job.now in
    tried_from j c.args.self.now.session c.reserve.new.self c.run.new.session c.args.active.now c.args.op.now c.run.result c.reserve.ensures.same
    (run_tried j c.reserve.new.self c.run.new.session c.args.active.now c.run.new.active c.args.op.now c.run.result c.run.ensures.run)

pub returns-in-Err-clause-tried : goal.returns-in-Err-clause-tried
returns-in-Err-clause-tried g c =
    let memory : c.into.result ≡ OutOfMemory no_memory = search rules in
    let same : c.reserve.new.self ≡ c.args.self.now.session = search rules in
    tried_none c.args.job.now c.args.self.now.session c.reserve.new.self c.args.active.now c.args.op.now c.into.result memory same

use Rattle.std.proofs.Common.{refl, subst, sym}
use Rattle.snap_writers.specs.declared.worker.Stop.TheVariants.{Gate, Failed}
use Rattle.snap_writers.specs.Jobs.{HasStoppedWorker}
use Rattle.snap_writers.specs.Going.{IsStopOf}
use Rattle.snap_writers.proofs.Ending.{dropped_run, ended_run, stop_run}
use Rattle.snap_writers.proofs.worker.Worker.work.Goals as goal

pub returns-then-passes-clause-run : goal.returns-then-passes-clause-run
returns-then-passes-clause-run g c chain =
    ended_run _ c.args.job.now c.args.active chain c.requires.base c.requires.fresh c.args.self.now.session c.operate_all.new.self.session c.passes.new.self.session c.end.new.self.session c.operate_all.new.active c.end.result
    c.in-Ok.ensures.same c.in-Ok.ensures.done c.in-Ok.ensures.all c.passes.ensures.same c.end.ensures.ended

pub returns-else-passes-clause-run : goal.returns-else-passes-clause-run
returns-else-passes-clause-run g c chain =
    let S = HasStoppedWorker (g.G.Gate.answers c.args.self.now.fixed.gate.now) c.args.self.now.fixed.number in
    let stopped : S = subst (λ f. HasStoppedWorker (g.G.Gate.answers f.gate.now) f.number) c.in-Ok.ensures.fixed (c.passes.ensures.stopped c.if-passes.false) in
    dropped_run _ c.args.job.now c.args.active chain c.requires.base c.requires.fresh S c.args.self.now.session c.operate_all.new.self.session c.passes.new.self.session c.discard.new.self.session c.operate_all.new.active
    stopped c.in-Ok.ensures.same c.in-Ok.ensures.all c.passes.ensures.same c.discard.ensures.went

pub returns-in-Gate-clause-run : goal.returns-in-Gate-clause-run
returns-in-Gate-clause-run g c chain =
    let S = HasStoppedWorker (g.G.Gate.answers c.args.self.now.fixed.gate.now) c.args.self.now.fixed.number in
    let why = c.in-Err.ensures.stopped in
    stop_run _ c.args.job.now c.args.active chain c.requires.base c.requires.fresh S c.args.self.now.session c.operate_all.new.self.session c.discard-in-Err.new.self.session c.operate_all.new.active Gate why.0
    c.in-Err.ensures.same why.1 (subst (λ stop. IsStopOf S c.args.self.now.session.number c.args.job.now c.args.active stop why.0) c.in-Gate.is why.2) c.discard-in-Err.ensures.went

pub returns-in-Failed-clause-run : goal.returns-in-Failed-clause-run
returns-in-Failed-clause-run g c chain =
    let S = HasStoppedWorker (g.G.Gate.answers c.args.self.now.fixed.gate.now) c.args.self.now.fixed.number in
    let why = c.in-Err.ensures.stopped in
    stop_run _ c.args.job.now c.args.active chain c.requires.base c.requires.fresh S c.args.self.now.session c.operate_all.new.self.session c.discard-in-Err.new.self.session c.operate_all.new.active (Failed c.in-Failed.op c.in-Failed.error) why.0
    c.in-Err.ensures.same why.1 (subst (λ stop. IsStopOf S c.args.self.now.session.number c.args.job.now c.args.active stop why.0) c.in-Failed.is why.2) c.discard-in-Err.ensures.went

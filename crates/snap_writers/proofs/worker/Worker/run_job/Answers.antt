use Rattle.std.proofs.Common.{subst, ◌∙◌}
use Rattle.snap_writers.specs.Jobs.{HasStoppedWorker, prepared_entry}
use Rattle.snap_writers.specs.Going.{HasRunJob, IsFresh}
use Rattle.std.proofs.Common.{[], ◌∷◌}
use Rattle.snap_writers.proofs.Ending.{job_run, unprepared_run, unrun}
use Rattle.snap_writers.proofs.worker.Worker.run_job.Goals as goal

pub returns-in-Ok-clause-run : goal.returns-in-Ok-clause-run
returns-in-Ok-clause-run g c =
    let old = c.args.self.now in
    let asked = c.passes.new.self.session in
    let mid = c.prepare.new.self.session in
    let new = c.work.new.self.session in
    let j = c.args.job.now in
    let a = c.in-Ok.active in
    let inodes = old.fixed.store.now.opening.layer_inodes in
    let fresh : IsFresh inodes asked mid j a = subst (λ f. IsFresh f.store.now.opening.layer_inodes asked mid j a) c.passes.ensures.fixed c.in-Ok.ensures.fresh in
    job_run (HasStoppedWorker (g.G.Gate.answers old.fixed.gate.now) old.fixed.number) inodes j old.session asked mid new a c.work.result c.passes.ensures.same fresh
    (subst (λ f. HasRunJob (HasStoppedWorker (g.G.Gate.answers f.gate.now) f.number) f.store.now.opening.layer_inodes mid new j (prepared_entry mid.number j a.share.slot a.share.id fresh.chain ∷ []) c.work.result) (c.in-Ok.ensures.fixed ∙ c.passes.ensures.fixed) (c.work.ensures.run fresh.chain))

pub returns-in-Err-clause-run : goal.returns-in-Err-clause-run
returns-in-Err-clause-run g c =
    let old = c.args.self.now in
    unprepared_run (HasStoppedWorker (g.G.Gate.answers old.fixed.gate.now) old.fixed.number) old.fixed.store.now.opening.layer_inodes c.args.job.now old.session c.passes.new.self.session c.prepare.new.self.session c.in-Err.why c.passes.ensures.same c.in-Err.ensures.refused

pub returns-then-not-passes-clause-run : goal.returns-then-not-passes-clause-run
returns-then-not-passes-clause-run g c =
    let old = c.args.self.now in
    unrun (HasStoppedWorker (g.G.Gate.answers old.fixed.gate.now) old.fixed.number) old.fixed.store.now.opening.layer_inodes c.args.job.now old.session c.passes.new.self.session (c.passes.ensures.stopped c.if-not-passes.true) c.passes.ensures.same

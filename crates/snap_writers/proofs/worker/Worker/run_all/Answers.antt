use Rattle.std.proofs.Common.{◌≡◌, [], ◌∷◌, ◌+◌, ◌-◌, List, false, true, length, arith, refl, ap, sym, subst, ◌∙◌}
use Rattle.std.specs.Prelude.{drop}
use Rattle.std.proofs.lemmas.List.{drop_all}
use Rattle.snap_writers.specs.declared.job.Job.{Job}
use Rattle.snap_writers.specs.declared.job.Ended.TheVariants.{NotRun}
use Rattle.snap_writers.specs.Jobs.{HasStoppedWorker, HasWorked, every, jobs_of}
use Rattle.snap_writers.specs.Going.{IsGoing, IsRunOf}
use Rattle.snap_writers.proofs.Every.{taken_up}
use Rattle.snap_writers.proofs.Walking.{begins, ends_all, goes, stops}
use Rattle.snap_writers.proofs.worker.Worker.run_all.Goals as goal

pub returns-in-None : goal.returns-in-None
returns-in-None g c =
    let self = c.args.self in
    let all = jobs_of c.args.jobs.now self.fixed.number c.args.workers in
    let left = every c.args.workers (c.args.workers - 1) (drop (c.loop-job.job-index + 1) c.args.jobs.now) in
    let s = c.loop-job.this.session in
    let t = c.run_job.new.self.session in
    let next : every c.args.workers c.loop-job.skip (drop c.loop-job.job-index c.args.jobs.now) ≡ c.job-item.result ∷ left =
    taken_up c.args.workers c.loop-job.skip c.loop-job.job-index c.args.jobs.now c.job-item.result c.loop-job-test.true (omega (arith, c.if-skip-gt0.false)) ∙ ap (λ (j : Job). j ∷ left) (sym c.job-item.is) in
    let was = subst (λ (l : List Job). IsGoing self.fixed.store.now.opening.layer_inodes all l s c.loop-job.ends c.loop-job.place) next c.loop-job.invariant.going in
    let run = subst (λ f. IsRunOf (HasStoppedWorker (g.G.Gate.answers f.gate.now) f.number) f.store.now.opening.layer_inodes s t c.job-item.result [] NotRun) c.loop-job.invariant.fixed c.in-None.ensures.run in
    let end = stops (true ≡ true) all left c.job-item.result s t c.loop-job.ends c.loop-job.place refl was run in
    record {
      ends = ap length c.give_back.ensures.ends ∙ end.0;
      stopped = λ told. run.own.0;
      session = rw (c.give_back.ensures.session, c.give_back.ensures.ends, c.give_back.ensures.refused) end.1;
    }

pub loop-job-init : goal.loop-job-init
loop-job-init g c = record {
  skip = omega (arith, c.requires.worker.0, c.requires.worker.1);
  fixed = refl;
  going = begins (jobs_of c.args.jobs.now c.args.self.fixed.number c.args.workers) c.args.self.session c.args.ends c.requires.ends c.requires.session;
}

pub loop-job-preserved : goal.loop-job-preserved
loop-job-preserved g c =
    let self = c.args.self in
    let all = jobs_of c.args.jobs.now self.fixed.number c.args.workers in
    let left = every c.args.workers (c.args.workers - 1) (drop (c.loop-job.job-index + 1) c.args.jobs.now) in
    let s = c.loop-job.this.session in
    let t = c.run_job.new.self.session in
    let next : every c.args.workers c.loop-job.skip (drop c.loop-job.job-index c.args.jobs.now) ≡ c.job-item.result ∷ left =
    taken_up c.args.workers c.loop-job.skip c.loop-job.job-index c.args.jobs.now c.job-item.result c.loop-job-test.true (omega (arith, c.if-skip-gt0.false)) ∙ ap (λ (j : Job). j ∷ left) (sym c.job-item.is) in
    let was = subst (λ (l : List Job). IsGoing self.fixed.store.now.opening.layer_inodes all l s c.loop-job.ends c.loop-job.place) next c.loop-job.invariant.going in
    let run = subst (λ f. IsRunOf ⊥ f.store.now.opening.layer_inodes s t c.job-item.result [] c.in-Some.end) c.loop-job.invariant.fixed c.in-Some.ensures.run in
    record {
      skip = omega (arith, c.requires.worker.0, c.requires.worker.1);
      fixed = c.in-Some.ensures.fixed ∙ c.loop-job.invariant.fixed;
      going = rw c.set.ensures (goes all left c.job-item.result s t c.loop-job.ends c.loop-job.place c.in-Some.end was run);
    }

pub returns : goal.returns
returns g c =
    let self = c.args.self in
    let all = jobs_of c.args.jobs.now self.fixed.number c.args.workers in
    let none : every c.args.workers c.loop-job.skip (drop c.loop-job.job-index c.args.jobs.now) ≡ [] = ap (every c.args.workers c.loop-job.skip) (drop_all c.loop-job.job-index c.args.jobs.now (omega (arith, c.loop-job-test.false))) in
    let end = ends_all (false ≡ true) all _ c.loop-job.this.session c.loop-job.ends c.loop-job.place none c.loop-job.invariant.going in
    record {
      ends = ap length c.give_back-2.ensures.ends ∙ end.0;
      stopped = λ told. let wrong : false ≡ true = sym c.give_back-2.ensures.refused ∙ told in absurd (cc);
      session = rw (c.give_back-2.ensures.session, c.give_back-2.ensures.ends, c.give_back-2.ensures.refused) end.1;
    }

use Rattle.std.proofs.Common.{inr, List, length, ap, ◌∙◌}
use Rattle.std.proofs.lemmas.List.{length-map}
use Rattle.snap_writers.specs.declared.job.Ended.{Ended}
use Rattle.snap_writers.specs.declared.job.Ended.TheVariants as ended
use Rattle.snap_writers.specs.Jobs.{jobs_of, unprepared}
use Rattle.snap_writers.proofs.Walking.{unprepared-none}
use Rattle.snap_writers.proofs.worker.run_worker.Goals as goal

pub returns-in-Err : goal.returns-in-Err
returns-in-Err g c =
    let jobs = jobs_of c.args.jobs.now c.args.worker c.args.workers in
    let ends = c.unstarted.ensures ∙ (ap (λ (l : List Ended). unprepared (ended.NotPrepared c.in-Err.why) l) c.requires.ends ∙ unprepared-none (ended.NotPrepared c.in-Err.why) jobs) in
    record { ends = ap length ends ∙ length-map jobs _; stopped = λ told. absurd (cc); session = inr (c.in-Err.why, c.in-Err.ensures.err, ends) }

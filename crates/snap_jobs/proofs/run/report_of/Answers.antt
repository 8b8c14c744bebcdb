use Rattle.std.proofs.Common.{◌≡◌, false, true, sym, subst}
use Rattle.snap_jobs.specs.Answer.{HasNoReport}
use Rattle.snap_jobs.specs.declared.stop.JobsStop.{JobsStop}
use Rattle.snap_jobs.proofs.Writing.{not_closed}
use Rattle.snap_jobs.proofs.run.report_of.Goals as goal

pub returns-clause-stop : goal.returns-clause-stop
returns-clause-stop g c =
    let of = c.in-Err-NotClosed in
    subst (λ (stop : JobsStop). HasNoReport c.args.workers c.args.store c.args.jobs.now stop) (sym c.stop_of.ensures)
    (not_closed _ (λ worker stopped. let wrong : false ≡ true = stopped.1 in absurd (cc)) c.args.store c.args.jobs.now c.args.workers of.field-0 _ of.back of.field-0-is of.ensures.fault)

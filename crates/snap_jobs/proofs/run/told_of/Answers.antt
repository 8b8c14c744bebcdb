use Rattle.std.proofs.Common.{ap, ◌∙◌}
use Rattle.snap_jobs.specs.Lines.{ReadValue}
use Rattle.snap_jobs.proofs.Writing.{no_report}
use Rattle.snap_jobs.proofs.run.told_of.Goals as goal

pub returns-in_err-report-clause-stop : goal.returns-in_err-report-clause-stop
returns-in_err-report-clause-stop g c =
    no_report c.from_residual.result c.in_err-report.field-0.0 c.args.options.workers c.read.inside.store c.args.read.round c.as_slice.result.now c.args.read.jobs
    c.from_residual.ensures.1 (ap (λ (r : ReadValue). r.round) c.read.view_is) (c.as_slice.ensures.value ∙ ap (λ (r : ReadValue). r.jobs) c.read.view_is) c.in_err-report.ensures.stop

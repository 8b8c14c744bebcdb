use Rattle.snap_world.specs.Applied.{last_answer}
use Rattle.std.proofs.Common.{Ok, Err}
use Rattle.snap_session.proofs.Applying.{opening_applied, tried_done, tried_refused}
use Rattle.snap_session.proofs.file_commands.tried.Goals as goal

pub returns-in-Ok-clause-done : goal.returns-in-Ok-clause-done
returns-in-Ok-clause-done g c = tried_done _ _ c.args.n c.args.slot c.args.id c.args.op.now c.args.extra c.in-Ok.field-0 c.in-Ok.ensures.applies

pub returns-in-Ok-clause-opening : goal.returns-in-Ok-clause-opening
returns-in-Ok-clause-opening g c = opening_applied _ _ c.args.n c.args.slot c.args.id c.args.op.now c.args.extra (last_answer (Ok c.in-Ok.field-0)) c.in-Ok.ensures.applies.steps

pub returns-in-Err-clause-done : goal.returns-in-Err-clause-done
returns-in-Err-clause-done g c = tried_refused _ _ c.args.n c.args.slot c.args.id c.args.op.now c.args.extra c.in-Err.why c.unapplied.result c.in-Err.ensures.applies c.unapplied.ensures

pub returns-in-Err-clause-opening : goal.returns-in-Err-clause-opening
returns-in-Err-clause-opening g c = opening_applied _ _ c.args.n c.args.slot c.args.id c.args.op.now c.args.extra (last_answer (Err c.in-Err.why)) c.in-Err.ensures.applies.steps

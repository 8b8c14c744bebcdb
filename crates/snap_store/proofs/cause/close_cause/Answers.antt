use Rattle.std.proofs.Common.{List, subst, arith}
use Rattle.snap_call.specs.declared.entry.Entry.{Entry}
use Rattle.snap_tape.specs.Sessions.{IsCheck}
use Rattle.snap_store.proofs.cause.close_cause.Goals as goal

pub returns-clause-cause : goal.returns-clause-cause
returns-clause-cause g c =
    c.cause_of.ensures c.args.book.now c.args.sessions.now (omega (arith, c.open_slots.ensures, c.if-open_slots-gt0.false))
    (subst (λ (l : List Entry). IsCheck l c.args.sessions.now c.check_sessions.result) c.journal.ensures c.check_sessions.ensures)

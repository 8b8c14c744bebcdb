use Rattle.std.proofs.Common.{List, sym, subst}
use Rattle.snap_book.specs.Book.{BookValue}
use Rattle.snap_tape.specs.Tapes.{SessionValue}
use Rattle.snap_store.specs.Closing.{AreSessions, IsSettled}
use Rattle.snap_store.proofs.Closing.{charged_counts}
use Rattle.snap_store.proofs.store.Store.close.Goals as goal

pub returns-in-Ok-None-clause-sessions : goal.returns-in-Ok-None-clause-sessions
returns-in-Ok-None-clause-sessions g c =
    let b = c.into_book-book.result.1 in
    let found = rw c.in-Ok-None.field-0-is at c.in-Ok-None.ensures.cause in
    let are : AreSessions b.journal c.as_slice.result.now = record { all = found.1.0; tapes = found.1.1 } in
    subst (λ (x : BookValue). AreSessions x.journal c.args.sessions.items) (sym c.of.ensures.closed) (subst (λ (l : List SessionValue). AreSessions b.journal l) c.as_slice.ensures.value are)

pub returns-in-Ok-None-clause-totals : goal.returns-in-Ok-None-clause-totals
returns-in-Ok-None-clause-totals g c =
    let b = c.into_book-book.result.1 in
    let found = rw c.in-Ok-None.field-0-is at c.in-Ok-None.ensures.cause in
    let settled : IsSettled b.state = record { idle = found.0; totals = charged_counts b.state (c.close_cause.ensures.kept c.into_book-book.ensures.idle).good found.0 } in
    subst (λ (x : BookValue). IsSettled x.state) (sym c.of.ensures.closed) settled

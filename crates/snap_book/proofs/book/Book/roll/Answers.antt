use Rattle.std.proofs.Common.{ap, ◌∙◌}
use Rattle.snap_call.specs.declared.state.State.{State}
use Rattle.snap_book.proofs.Keeping.{kept_slots}
use Rattle.snap_book.proofs.book.Book.roll.Goals as goal

pub begin-requires-clause-slots : goal.begin-requires-clause-slots
begin-requires-clause-slots g c =
    ap (λ (s : State). s.slots) c.state.ensures.same
    ∙ ap (λ (s : State). s.slots) c.end_sessions.ensures
    ∙ kept_slots c.self.inside.accounts c.self.inside.journal c.self.invariant

use Rattle.std.proofs.Common.{◌∷◌, [], List, take, sym, subst}
use Rattle.snap_tape.specs.Sessions.{IsFirstMismatch}
use Rattle.snap_tape.specs.Tapes.{SessionValue}
use Rattle.snap_tape.proofs.Firsts.{taken_more}
use Rattle.snap_tape.proofs.mismatch.first_mismatch.Goals as goal

pub loop-session-preserved : goal.loop-session-preserved
loop-session-preserved c =
    let journal = c.args.journal.now in
    let sessions = c.args.sessions.now in
    let s = c.session-item.result in
    let one = c.mismatch_at.ensures journal c.difference_of.ensures in
    subst (λ (l : List SessionValue). IsFirstMismatch journal l c.earlier-first.result) (sym (taken_more sessions c.loop-session.session-index s c.loop-session-test.true c.session-item.is))
    (c.earlier-first.ensures journal (take c.loop-session.session-index sessions) (s ∷ []) c.loop-session.invariant one)

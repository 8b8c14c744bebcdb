use Rattle.snap_tape.proofs.check.check_counted.Goals as goal

pub returns : goal.returns
returns c =
    c.checked.ensures c.args.journal.now c.args.sessions.now (record { once = c.are_once.ensures.0 c.if-not-are_once.false; known = c.are_known.ensures.0 c.if-not-are_known.false }) c.first_mismatch.ensures

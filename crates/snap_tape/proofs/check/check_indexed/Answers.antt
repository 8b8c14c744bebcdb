use Rattle.snap_tape.proofs.check.check_indexed.Goals as goal

pub returns : goal.returns
returns c =
    let indexes = rw c.in-Some.is at c.in_ok-indexes.ensures.indexes in
    c.checked.ensures c.args.journal.now c.args.sessions.now (record { once = indexes.1; known = c.are_known.ensures.0 c.if-not-are_known.false }) (c.in_ok-first.ensures)

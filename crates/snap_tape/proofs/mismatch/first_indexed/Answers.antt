use Rattle.std.proofs.Common.{List, sym, subst}
use Rattle.snap_tape.specs.Following.{AreFollowed}
use Rattle.snap_tape.specs.declared.mismatch.Progress.{Progress}
use Rattle.snap_tape.proofs.mismatch.first_indexed.Goals as goal

pub returns : goal.returns
returns c = c.first_followed.ensures c.args.journal.now (subst (λ (l : List Progress). AreFollowed c.args.journal.now c.args.sessions.now l) (sym c.as_slice.ensures.value) (c.in_ok-progress.ensures).followed)

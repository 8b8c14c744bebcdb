use Rattle.std.specs.Prelude.{count_by}
use Rattle.std.proofs.Common.{◌≡◌, rules}
use borrow.Author.Count.{below_more}
use Rattle.snap_tape.specs.Sessions.{has_session_number}
use Rattle.snap_tape.proofs.indexes.is_each_once.Goals as goal

pub loop-number-preserved : goal.loop-number-preserved
loop-number-preserved c =
    below_more (λ n. count_by (has_session_number n) c.args.sessions.now ≡ 1) c.loop-number.number c.loop-number.invariant (search rules)

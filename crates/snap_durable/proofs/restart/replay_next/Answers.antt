use Rattle.std.proofs.Common.{◌≡◌, ◌≤◌, ◌+◌, ◌++◌, ℕ, List, length, take, sym, subst}
use Rattle.snap_log.specs.Log.{text_in}
use Rattle.snap_durable.proofs.CameLaws.{take_on}
use Rattle.snap_durable.proofs.restart.replay_next.Goals as goal

pub returns-clause-read : goal.returns-clause-read
returns-clause-read g c = λ n is clean low.
    let text : List ℕ = text_in c.args.log.now in
    let low_old : c.args.at + length c.args.buf.now ≤ length text = subst (λ (k : ℕ). c.args.at + k ≤ length text) is low in
    let read : take (c.args.at + length c.args.buf.now) text ≡ take c.args.at text ++ c.read_at.new.buf = take_on text c.read_at.new.buf c.args.at (length c.args.buf.now) (c.in_ok-read_at.ensures.read clean low_old) in
    subst (λ (k : ℕ). take (c.args.at + k) text ≡ take c.args.at text ++ c.read_at.new.buf) (sym is) read

use Rattle.std.proofs.Common.{◌≡◌, ◌≤◌, ◌+◌, ◌∙◌, ap, List, ℕ, length, take, drop, arith, subst, sym, IsTrue}
use Rattle.std.proofs.lemmas.Result.{on_ok_weaker}
use Rattle.snap_log.specs.Texts.{log_text}
use Rattle.snap_log.proofs.GateLaws.{text_part}
use Rattle.snap_log.proofs.log.Log.read_at.Goals as goal

pub returns-clause-read : goal.returns-clause-read
returns-clause-read g c = on_ok_weaker {Q = IsTrue (g.D.Disk.is_clean c.read_at.new.self) → c.args.at + length c.args.buf.now ≤ length (log_text (g.D.Disk.seen c.args.self.now.disk)) → c.read_at.new.buf ≡ take (length c.args.buf.now) (drop c.args.at (log_text (g.D.Disk.seen c.args.self.now.disk)))} _ (λ holds clean low.
    let text : List ℕ = log_text (g.D.Disk.seen c.args.self.now.disk) in
    let same : length c.read_at.new.buf ≡ length c.args.buf.now = omega arith in
    text_part _ _ _ (holds clean c.requires.some) (subst (λ (k : ℕ). c.args.at + k ≤ length text) (sym same) low) ∙ ap (λ (k : ℕ). take k (drop c.args.at text)) same) c.read_at.ensures.read

use Rattle.std.proofs.Common.{◌≡◌, ◌∙◌, ap, subst, rules, None, List, ℕ}
use Rattle.snap_log.specs.Batches.{batched}
use Rattle.snap_durable.specs.Served.{AreAnswered}
use Rattle.snap_durable.proofs.ServeLaws.{answers}
use Rattle.snap_durable.proofs.restart.take_chunk.Goals as goal

pub returns-clause-answered : goal.returns-clause-answered
returns-clause-answered g c =
    let taken : c.take.new.self ≡ batched c.args.batch.now c.args.bytes.now = search rules in
    let lines : c.whole-lines.result.now ≡ c.take.new.self.whole = c.whole-lines.ensures in
    subst (λ (l : List ℕ). AreAnswered g.T.TakeLine.effect c.args.taker.now l c.read_lines.new.taker None None) (lines ∙ ap (λ b. b.whole) taken)
    (answers g.T.TakeLine.effect c.args.taker.now c.read_lines.new.taker c.whole-lines.result.now None None c.in_ok-read_lines.ensures.done c.in_ok-read_lines.ensures.value)

use Rattle.std.proofs.Common.{◌≡◌, rules, subst}
use Rattle.snap_durable.specs.Served.{AreAnswered}
use Rattle.snap_log.specs.Log.{text_in}
use Rattle.snap_durable.proofs.ServeLaws.{answers}
use Rattle.snap_durable.proofs.PartLaws.{leaves_kept}
use Rattle.snap_durable.proofs.batch.serve_batch.Goals as goal

pub returns-in-Ok-read_lines-clause-answered : goal.returns-in-Ok-read_lines-clause-answered
returns-in-Ok-read_lines-clause-answered g c =
    let v = c.set_keeping.new.self in
    let is : v ≡ g.T.KeepLine.keeping c.in-Ok.kept.is_kept c.args.taker.now = search rules in
    subst (λ x. AreAnswered g.T.TakeLine.effect x c.args.whole.now c.read_lines.new.taker (g.W.Write.contents c.args.output.now) (g.W.Write.contents c.read_lines.new.output)) is
    (answers g.T.TakeLine.effect v c.read_lines.new.taker c.args.whole.now (g.W.Write.contents c.args.output.now) (g.W.Write.contents c.read_lines.new.output) c.in-Ok-read_lines.ensures.done c.in-Ok-read_lines.ensures.value)

pub returns-in-Err-clause-crash : goal.returns-in-Err-clause-crash
returns-in-Err-clause-crash g c = λ clean f left.
    leaves_kept g.T.TakeLine.effect g.T.KeepLine.changes g.T.KeepLine.mark g.T.KeepLine.keeping g.T.KeepLine.settled c.args.taker.now (text_in c.args.log) c.args.whole.now f (g.W.Write.contents c.args.output.now) (c.in-Err.ensures.crash clean f left)

use Rattle.snap_durable.specs.Parts.{line_limit}
use Rattle.snap_durable.proofs.CameLaws.{Came}
use Rattle.snap_durable.proofs.serve.serve_lines.Given as goal

abbrev pub invariant-reads : goal.invariant-reads
invariant-reads g l = Came g.T.TakeLine.effect g.T.KeepLine.changes g.T.KeepLine.mark g.T.KeepLine.keeping g.T.KeepLine.settled line_limit l.fn.taker l.fn.log (g.R.Read.remaining l.fn.input) (g.W.Write.contents l.fn.output) l.taker l.batch l.log (g.R.Read.remaining l.input) (g.W.Write.contents l.output)

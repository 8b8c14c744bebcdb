use Rattle.snap_lines.specs.Runs.{within}
use Rattle.snap_lines.proofs.ReadLaws.{Reading}
use Rattle.snap_lines.proofs.read.read_all.Given as goal

abbrev pub invariant-reads : goal.invariant-reads
invariant-reads g l = Reading l.fn.most g.T.TakeLine.effect l.fn.taker (g.R.Read.remaining l.fn.input) (g.R.Read.remaining l.input) (g.W.Write.contents l.fn.output) (g.W.Write.contents l.output) (within l.reader l.taker)

use Rattle.snap_durable.proofs.ShortenedLaws.{CameOn}
use Rattle.snap_durable.proofs.shortened.serve_turns.Given as goal

abbrev pub invariant-reads : goal.invariant-reads
invariant-reads g l = CameOn l.fn.server l.fn.files (g.R.Read.remaining l.fn.input) (g.W.Write.contents l.fn.output) l.server l.batch l.files (g.R.Read.remaining l.input) (g.W.Write.contents l.output)

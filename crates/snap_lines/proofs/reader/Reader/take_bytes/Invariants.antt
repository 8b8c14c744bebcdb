use Rattle.std.proofs.Common.{take}
use Rattle.snap_lines.specs.Runs.{within, Goes}
use Rattle.snap_lines.proofs.reader.Reader.take_bytes.Given as goal

abbrev pub invariant-loop-b : goal.invariant-loop-b
invariant-loop-b g l = Goes g.T.TakeLine.effect (within l.fn.self l.fn.taker) (take l.b-index l.bytes) (within l.self l.taker) (g.W.Write.contents l.fn.output) (g.W.Write.contents l.output)

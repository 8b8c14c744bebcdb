use Rattle.std.proofs.Common.{◌≤◌, ◌-◌, length, take}
use Rattle.snap_lines.specs.Runs.{within, Goes}
use Rattle.snap_lines.proofs.reader.Reader.feed.Given as goal

abbrev pub invariant-lines : goal.invariant-lines
invariant-lines g l = (l.from ≤ length l.bytes) × Goes g.T.TakeLine.effect (within l.fn.self l.fn.taker) (take l.from l.bytes) (within l.self l.taker) (g.W.Write.contents l.fn.output) (g.W.Write.contents l.output)

abbrev pub decreases-lines : goal.decreases-lines
decreases-lines g l = length l.bytes - l.from

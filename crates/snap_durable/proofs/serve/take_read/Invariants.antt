use Rattle.std.proofs.Common.{◌-◌, ◌≤◌, length, take}
use Rattle.snap_durable.specs.Served.{IsBegun, Went}
use Rattle.snap_durable.proofs.serve.take_read.Given as goal

abbrev pub invariant-bytes : goal.invariant-bytes
invariant-bytes g l = record {
  within : l.at ≤ length l.bytes;
  begun : IsBegun l.batch;
  went : Went g.T.TakeLine.effect g.T.KeepLine.changes g.T.KeepLine.mark g.T.KeepLine.keeping g.T.KeepLine.settled l.fn.taker l.fn.batch l.fn.log (g.W.Write.contents l.fn.output) (take l.at l.bytes) l.taker l.batch l.log (g.W.Write.contents l.output);
}

abbrev pub decreases-bytes : goal.decreases-bytes
decreases-bytes g l = length l.bytes - l.at

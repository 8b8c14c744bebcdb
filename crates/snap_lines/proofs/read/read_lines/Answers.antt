use Rattle.snap_lines.proofs.ReadLaws.{stops_kept, not_flushed}
use Rattle.snap_lines.proofs.read.read_lines.Goals as goal

pub returns-in-Ok-clause-stopped : goal.returns-in-Ok-clause-stopped
returns-in-Ok-clause-stopped g c = stops_kept c.args.most g.T.TakeLine.effect c.args.taker.now _ _ _ _ _ c.read_all-result.result c.read_all-result.ensures.stopped c.in-Ok.ensures.bytes

pub returns-in-Err-clause-stopped : goal.returns-in-Err-clause-stopped
returns-in-Err-clause-stopped g c = not_flushed c.args.most g.T.TakeLine.effect c.args.taker.now _ _ _ _ _ c.read_all-result.result c.read_all-result.ensures.done c.read_all-result.ensures.stopped c.in-Err.ensures.bytes

use Rattle.snap_lines.proofs.TranscriptLaws.{goes_kept, kept_stops}
use Rattle.snap_lines.proofs.read.take_read.Goals as goal

pub returns-in-Ok-clause-ok : goal.returns-in-Ok-clause-ok
returns-in-Ok-clause-ok g c = goes_kept g.T.TakeLine.effect _ _ _ _ _ _ c.in_ok-feed.ensures.ok c.in-Ok.ensures.bytes

pub returns-in-Err-clause-err : goal.returns-in-Err-clause-err
returns-in-Err-clause-err g c = kept_stops g.T.TakeLine.effect _ _ _ _ _ _ c.in_ok-feed.ensures.ok c.in-Err.ensures.bytes

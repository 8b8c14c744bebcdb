use Rattle.snap_pair.proofs.ReplacingLaws.{leaves}
use Rattle.snap_pair.proofs.replacing.Replacing.begin.Goals as goal

pub returns-clause-crash : goal.returns-clause-crash
returns-clause-crash g c = λ honest. leaves {D = g.row.D.Denot} {g = g.D.Disk} (record { counting = c.args.counting; coming = c.begin_append.result; is_second = c.args.is_second; none = c.result-1.given.0; some = c.result-1.given.1.0 }) honest

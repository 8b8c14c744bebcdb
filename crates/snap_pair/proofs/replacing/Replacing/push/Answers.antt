use Rattle.snap_pair.proofs.ReplacingLaws.{leaves}
use Rattle.snap_pair.proofs.replacing.Replacing.push.Goals as goal

pub returns-clause-crash : goal.returns-clause-crash
returns-clause-crash g c = λ honest. leaves {D = g.row.D.Denot} {g = g.D.Disk} (record { counting = c.args.self.now.counting; coming = c.push.new.self; is_second = c.args.self.now.is_second; none = c.self-1.given.0; some = c.self-1.given.1.0 }) honest

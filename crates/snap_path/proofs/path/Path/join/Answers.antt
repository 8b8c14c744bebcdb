use Rattle.snap_path.proofs.Texts.{IsJoined-from}
use Rattle.snap_path.proofs.path.Path.join.Goals as goal

pub returns-clause-parts : goal.returns-clause-parts
returns-clause-parts c = IsJoined-from _ _ _ c.in_ok-joined.ensures

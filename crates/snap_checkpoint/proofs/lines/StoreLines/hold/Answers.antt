use Rattle.std.proofs.Common.{◌∙◌}
use Rattle.snap_checkpoint.specs.Gathered.{begun_store}
use Rattle.snap_checkpoint.proofs.LinesBack.{behind_head}
use Rattle.snap_checkpoint.proofs.lines.StoreLines.hold.Goals as goal

pub returns-clause-back : goal.returns-clause-back
returns-clause-back c = λ whole. behind_head c.in_ok-head.pieces 1 (begun_store c.in_ok-head.head) ∙ c.in_ok-head.ensures.back whole

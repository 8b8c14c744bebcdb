use Rattle.std.proofs.Common.{◌≡◌, length}
use Rattle.std.specs.Prelude.{Ok}
use Rattle.snap_checkpoint.specs.Lines.{lines_put}
use Rattle.test_stores.proofs.saved.by_lines.Given as goal

-- the lines that are left make the saved store of what is gathered
abbrev pub invariant-loop-gathering : goal.invariant-loop-gathering
invariant-loop-gathering l = lines_put l.gathering l.lines ≡ Ok l.fn.saved

abbrev pub decreases-loop-gathering : goal.decreases-loop-gathering
decreases-loop-gathering l = length l.lines

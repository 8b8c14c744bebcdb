use Rattle.std.proofs.Common.{◌≡◌, ◌++◌, length, true, false}
use Rattle.std.specs.Prelude.{IsTrue}
use Rattle.snap_lines.specs.Lines.{lines_of}
use Rattle.snap_durable.specs.Parts.{lines_to_keep, is_odd}
use Rattle.snap_durable.proofs.changes.add_changes.Given as goal

abbrev pub invariant-lines : goal.invariant-lines
invariant-lines g l = record {
  added : IsTrue l.are_there → l.fn.changes ++ lines_to_keep (g.T.KeepLine.changes l.fn.taker) (lines_of l.whole) ≡ l.changes ++ lines_to_keep (g.T.KeepLine.changes l.fn.taker) (lines_of l.rest);
  odd : l.are_there ≡ false → is_odd (g.T.KeepLine.changes l.fn.taker) (lines_of l.whole) ≡ true;
  rest : is_odd (g.T.KeepLine.changes l.fn.taker) (lines_of l.rest) ≡ true → is_odd (g.T.KeepLine.changes l.fn.taker) (lines_of l.whole) ≡ true;
  same : l.taker ≡ l.fn.taker;
}

abbrev pub decreases-lines : goal.decreases-lines
decreases-lines g l = length l.rest

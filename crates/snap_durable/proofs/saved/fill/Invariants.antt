use Rattle.std.proofs.Common.{◌≡◌, ◌⊎◌, ◌<◌, ◌++◌, length, true}
use Rattle.std.specs.List.{AllByRecursion}
use Rattle.snap_marks.specs.Marks.{chained_lines}
use Rattle.snap_durable.specs.Checkpoints.{IsTold, has_long, saved_text}
use Rattle.snap_durable.proofs.saved.fill.Given as goal

abbrev pub invariant-lines : goal.invariant-lines
invariant-lines l = record {
  text : l.text ++ saved_text l.lines ≡ l.fn.text ++ saved_text l.fn.lines;
  sum : chained_lines l.sums.lines (saved_text l.lines) ≡ chained_lines l.fn.sums.lines (saved_text l.fn.lines);
  told : AllByRecursion IsTold l.lines → AllByRecursion IsTold l.fn.lines;
  fewer : (l.lines ≡ l.fn.lines) ⊎ (length l.lines < length l.fn.lines);
  long : has_long l.lines ≡ true → has_long l.fn.lines ≡ true;
}

abbrev pub decreases-lines : goal.decreases-lines
decreases-lines l = length l.lines

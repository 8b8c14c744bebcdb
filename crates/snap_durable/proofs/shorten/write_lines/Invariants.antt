use Rattle.std.proofs.Common.{◌≡◌, ◌++◌, length, true}
use Rattle.std.specs.Prelude.{IsTrue}
use Rattle.std.specs.List.{AllByRecursion}
use Rattle.snap_marks.specs.Marks.{chained_lines}
use Rattle.snap_marks.specs.Sums.{no_sum}
use Rattle.snap_pair.specs.Replacing.{AreReplacingHonest, LeavesCounting, first_in, lines_coming, lines_counting, second_in}
use Rattle.snap_durable.specs.Checkpoints.{IsTold, has_long, saved_text}
use Rattle.snap_durable.proofs.shorten.write_lines.Given as goal

abbrev pub invariant-parts : goal.invariant-parts
invariant-parts g l = record {
  coming : AreReplacingHonest l.replacing → lines_coming l.replacing ++ saved_text l.lines ≡ lines_coming l.fn.replacing ++ saved_text l.fn.lines;
  sum : chained_lines l.sums.lines (saved_text l.lines) ≡ chained_lines no_sum (saved_text l.fn.lines);
  told : AllByRecursion IsTold l.lines → AllByRecursion IsTold l.fn.lines;
  long : has_long l.lines ≡ true → has_long l.fn.lines ≡ true;
  counting : lines_counting l.replacing ≡ lines_counting l.fn.replacing;
  crash : (AreReplacingHonest l.fn.replacing → LeavesCounting l.fn.replacing) → AreReplacingHonest l.replacing → LeavesCounting l.replacing;
  clean : AreReplacingHonest l.replacing → AreReplacingHonest l.fn.replacing;
  first : IsTrue (g.D.Disk.is_clean (first_in l.replacing)) → IsTrue (g.D.Disk.is_clean (first_in l.fn.replacing));
  second : IsTrue (g.D.Disk.is_clean (second_in l.replacing)) → IsTrue (g.D.Disk.is_clean (second_in l.fn.replacing));
}

abbrev pub decreases-parts : goal.decreases-parts
decreases-parts g l = length l.lines

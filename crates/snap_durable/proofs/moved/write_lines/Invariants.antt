use Rattle.std.proofs.Common.{◌≡◌, ◌++◌, ℕ, List, length, true}
use Rattle.std.specs.Io.KnownBytes.{Appends}
use Rattle.std.specs.List.{AllByRecursion}
use Rattle.snap_durable.specs.Checkpoints.{IsTold, has_long, saved_text}
use Rattle.snap_durable.proofs.moved.write_lines.Given as goal

abbrev pub invariant-parts : goal.invariant-parts
invariant-parts g l = record {
  written : (done : List ℕ) × Appends (g.W.Write.contents l.fn.output) (g.W.Write.contents l.output) done × (done ++ saved_text l.lines ≡ saved_text l.fn.lines);
  told : AllByRecursion IsTold l.lines → AllByRecursion IsTold l.fn.lines;
  long : has_long l.lines ≡ true → has_long l.fn.lines ≡ true;
}

abbrev pub decreases-parts : goal.decreases-parts
decreases-parts g l = length l.lines

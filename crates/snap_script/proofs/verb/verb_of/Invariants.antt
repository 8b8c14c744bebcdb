use Rattle.std.proofs.Common.{◌≡◌, map, length}
use Rattle.std.specs.Map.{lookup}
use Rattle.std.specs.Str.{bytes_eq}
use Rattle.snap_script.specs.Words.{verb_of}
use Rattle.snap_script.proofs.verb.verb_of.Given as goal

abbrev pub invariant-loop-table : goal.invariant-loop-table
invariant-loop-table l = lookup (bytes_eq l.word) (map (λ p. (p.0.now, p.1)) l.table) ≡ verb_of l.word

abbrev pub decreases-loop-table : goal.decreases-loop-table
decreases-loop-table l = length l.table

use Rattle.std.proofs.Common.{◌≡◌, length, map}
use Rattle.std.specs.Prelude.{find}
use Rattle.snap_script.specs.Near.{is_near}
use Rattle.snap_script.proofs.verb.near_entry.Given as goal

abbrev pub invariant-loop-table : goal.invariant-loop-table
invariant-loop-table l = find (λ known. is_near known l.word) (map (λ p. p.0.now) l.table) ≡ find (λ known. is_near known l.word) (map (λ p. p.0.now) l.fn.table)

abbrev pub decreases-loop-table : goal.decreases-loop-table
decreases-loop-table l = length l.table

use Rattle.std.proofs.Common.{◌≡◌, length, map}
use Rattle.snap_script.specs.Words.{near_file_word}
use Rattle.snap_script.proofs.verb.near_file_entry.Given as goal

abbrev pub invariant-loop-table : goal.invariant-loop-table
invariant-loop-table l = near_file_word (map (λ p. (p.0.now, p.1)) l.table) l.word ≡ near_file_word (map (λ p. (p.0.now, p.1)) l.fn.table) l.word

abbrev pub decreases-loop-table : goal.decreases-loop-table
decreases-loop-table l = length l.table

use Rattle.std.proofs.Common.{◌≡◌, ◌≤◌, ◌+◌}
use Rattle.std.specs.List.{sum_by}
use Rattle.snap_merge.specs.Taken.{capped}
use Rattle.snap_merge.proofs.taken.blocks_and.Given as goal

-- the blocks so far, and those of the files that are left
abbrev pub invariant-loop-file : goal.invariant-loop-file
invariant-loop-file l = record {
  can_next : (goal.iterator-loop-file).can_next l.file-iterator;
  is_finite : (goal.iterator-loop-file).is_finite l.file-iterator;
  fits : l.sum ≤ 18446744073709551615;
  same : capped (l.sum + sum_by (λ f. f.blocks) l.file-iterator) ≡ capped (l.blocks + sum_by (λ f. f.blocks) l.files.keys);
}

use Rattle.std.proofs.Common.{◌≡◌, ℕ, List, option_copied, take}
use Rattle.std.specs.BTreeMap.{get_by}
use Rattle.std.specs.Cmp.Lexicographic.{slice_cmp}
use Rattle.std.specs.Ordering.{nat_cmp}
use Rattle.snap_durable.specs.Differences.{value_named}
use Rattle.snap_durable.proofs.differ.by_name.Given as goal

abbrev pub invariant-loop-name : goal.invariant-loop-name
invariant-loop-name g l = (q : List ℕ) → option_copied (get_by (λ k. slice_cmp nat_cmp q k.now) l.map) ≡ value_named q (take l.name-index l.entries)

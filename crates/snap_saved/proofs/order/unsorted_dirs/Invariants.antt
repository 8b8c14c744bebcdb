use Rattle.std.proofs.Common.{◌≡◌, ℕ, ◌+◌, ◌-◌, ◌<◌, drop, get_or, map, []}
use Rattle.std.specs.declared.cmp.Ordering.TheVariants.{Less}
use Rattle.snap_layer.specs.Tree.{path_cmp}
use Rattle.snap_saved.specs.Saved.{dir_path}
use Rattle.snap_saved.specs.Restored.{unsorted, unsorted_from}
use Rattle.snap_saved.proofs.order.unsorted_dirs.Given as goal

abbrev pub invariant-loop-place : goal.invariant-loop-place
invariant-loop-place l = record {
  rises : (k : ℕ) → k + 1 < l.place → path_cmp (get_or (map dir_path l.dirs) k []) (get_or (map dir_path l.dirs) (k + 1) []) ≡ Less;
  left : unsorted_from l.place (get_or (map dir_path l.dirs) (l.place - 1) []) (drop l.place (map dir_path l.dirs)) ≡ unsorted (map dir_path l.dirs);
}

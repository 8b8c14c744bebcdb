use Rattle.std.proofs.Common.{◌≡◌, ◌≤◌, ◌<◌, ℕ, List, true, length, take}
use Rattle.snap_path.specs.Text.{Names}
use Rattle.snap_layer.specs.Tree.{Tree}
use Rattle.snap_merge.specs.Objects.{seen, is_shown_dir}
use Rattle.snap_merge.specs.Resolving.{Answer, way}
use Rattle.snap_merge.proofs.resolve.follow_names.Given as goal

-- the way that is left gives the answer of the whole
abbrev pub invariant-loop-at : goal.invariant-loop-at
invariant-loop-at l = (l.at ≤ length l.path) × ((s : List Tree) → ((j : ℕ) → j < l.fn.dirs → is_shown_dir (seen s (take j l.path)) ≡ true) → (follow : Names → Names → Answer) → way follow s (take l.at l.path) l.words ≡ way follow s (take l.fn.from l.path) l.fn.words)

abbrev pub decreases-loop-at : goal.decreases-loop-at
decreases-loop-at l = length l.words

use Rattle.std.proofs.Common.{◌≡◌, List, ℕ, drop}
use Rattle.snap_merge.specs.Shares.{seen_so_far}
use Rattle.snap_merge.specs.Row.{is_seen_in}
use Rattle.snap_merge.proofs.row.shown_in.Given as goal

-- the directories that are left tell what all tell
abbrev pub invariant-loop-dir : goal.invariant-loop-dir
invariant-loop-dir l = (n : List ℕ) → seen_so_far l.shown.keys l.gone.keys n (is_seen_in (drop l.dir-index l.row) n) ≡ is_seen_in l.row n

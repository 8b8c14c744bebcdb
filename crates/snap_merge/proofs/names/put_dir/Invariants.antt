use Rattle.std.proofs.Common.{◌≡◌, Bool, List, ℕ}
use Rattle.std.specs.Prelude.{if◌then◌else◌}
use Rattle.std.specs.Vec.Iter.{into_iter_items}
use Rattle.snap_merge.specs.Shares.{has, seen_so_far, is_shown}
use Rattle.snap_merge.proofs.names.put_dir.Given as goal

-- the names that are left tell what all tell
abbrev pub invariant-loop-name : goal.invariant-loop-name
invariant-loop-name l =
    (n : List ℕ) (under : Bool) → seen_so_far l.shown.keys l.gone.keys n (if has n (into_iter_items l.name-iterator) then is_shown l.dir n else under) ≡ seen_so_far l.fn.shown.keys l.fn.gone.keys n (if has n l.fn.names.items then is_shown l.dir n else under)

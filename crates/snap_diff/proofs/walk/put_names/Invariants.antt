use Rattle.std.proofs.Common.{◌≡◌}
use Rattle.std.specs.Vec.Iter.{into_iter_items}
use Rattle.snap_merge.specs.Listing.{put_names}
use Rattle.snap_diff.proofs.walk.put_names.Given as goal

-- the names that are left give what all give
abbrev pub invariant-loop-name : goal.invariant-loop-name
invariant-loop-name l = put_names (into_iter_items l.name-iterator) l.all.keys ≡ put_names l.fn.names.items l.fn.all.keys

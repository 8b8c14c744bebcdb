use Rattle.std.proofs.Common.{◌≡◌, map, take}
use Rattle.snap_history.specs.Open.{share_for}
use Rattle.snap_history.proofs.open.those_of.Given as goal

abbrev pub invariant-loop-share : goal.invariant-loop-share
invariant-loop-share l = l.list.items ≡ map (share_for l.place) (take l.share-index l.shares)

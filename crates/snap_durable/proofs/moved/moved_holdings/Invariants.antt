use Rattle.std.proofs.Common.{◌≡◌, take}
use Rattle.snap_durable.specs.Moved.{moving}
use Rattle.snap_durable.proofs.moved.moved_holdings.Given as goal

abbrev pub invariant-loop-name : goal.invariant-loop-name
invariant-loop-name l = l.kept ≡ moving l.wanted (λ h. h.0) (take l.name-index l.list)

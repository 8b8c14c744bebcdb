use Rattle.std.proofs.Common.{◌≡◌, Some, drop}
use Rattle.snap_layer.specs.Walk.{walk, follow, entry_at}
use Rattle.snap_layer.proofs.walk.walk.Given as goal

-- what the names lead to is what those that are left lead to from here
abbrev pub invariant-loop-name : goal.invariant-loop-name
invariant-loop-name l = walk (entry_at l.slots) l.root l.names ≡ follow (Some l.spot) (λ c. walk (entry_at l.slots) c (drop l.name-index l.names)) (drop l.name-index l.names)

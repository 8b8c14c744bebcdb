use Rattle.std.proofs.Common.{◌≡◌, take}
use Rattle.snap_world.proofs.save.namespaces_of.Given as goal

-- copies of the first namespaces
abbrev pub invariant-loop-namespace : goal.invariant-loop-namespace
invariant-loop-namespace l = l.copies.items ≡ take l.namespace-index l.list

use Rattle.std.proofs.Common.{◌≡◌, ◌++◌, map}
use Rattle.std.specs.Map.Iter.{deref}
use Rattle.snap_call.specs.Spaces.{joined_records}
use Rattle.snap_call.proofs.spaces.space.Space.listed.Given as goal

abbrev pub invariant-loop-group : goal.invariant-loop-group
invariant-loop-group l = map deref l.list.items ++ joined_records l.group-iterator ≡ map deref l.initial.list.items ++ l.self

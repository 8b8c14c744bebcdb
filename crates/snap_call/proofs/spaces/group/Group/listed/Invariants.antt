use Rattle.std.proofs.Common.{◌≡◌, ◌++◌, map}
use Rattle.std.specs.Map.Iter.{deref}
use Rattle.snap_call.proofs.spaces.group.Group.listed.Given as goal

abbrev pub invariant-loop-held : goal.invariant-loop-held
invariant-loop-held l = map deref l.list.items ++ l.held-iterator ≡ map deref l.fn.before.items ++ l.self

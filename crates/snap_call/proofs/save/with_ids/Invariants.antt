use Rattle.std.proofs.Common.{◌≡◌, map}
use Rattle.snap_call.proofs.save.with_ids.Given as goal

-- the records of those so far
abbrev pub invariant-loop-held : goal.invariant-loop-held
invariant-loop-held l = l.list.items ≡ map (λ r. r.now) l.yielded

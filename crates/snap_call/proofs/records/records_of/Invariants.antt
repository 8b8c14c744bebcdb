use Rattle.std.proofs.Common.{◌≡◌, map}
use Rattle.snap_call.proofs.records.records_of.Given as goal

-- the records of those so far
abbrev pub invariant-loop-it : goal.invariant-loop-it
invariant-loop-it l = map (λ r. r.now) l.list.items ≡ map (λ r. r.now) l.yielded

use Rattle.std.proofs.Common.{◌≡◌, ℕ, List, Bor, map, take}
use Rattle.snap_merge.proofs.resolve.Words.of.Given as goal

-- the words so far are the names so far
abbrev pub invariant-loop-name : goal.invariant-loop-name
invariant-loop-name l = map (λ (part : Bor (List ℕ)). part.now) l.parts.items ≡ take l.name-index l.names

use Rattle.std.proofs.Common.{◌≤◌, ◌+◌, ◌^◌, length, vec_len}
use Rattle.snap_world.proofs.hands.Hands.give_back.Given as goal

-- an entry is left for the end of each
abbrev pub invariant-loop-place : goal.invariant-loop-place
invariant-loop-place g l = l.accounts.entries + length l.list.items ≤ 2 ^ 63

abbrev pub decreases-loop-place : goal.decreases-loop-place
decreases-loop-place g l = vec_len l.list

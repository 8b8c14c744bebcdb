use Rattle.std.proofs.Common.{◌≡◌, ◌≤◌, ◌<◌, ◌+◌, ℕ, true}
use Rattle.std.specs.Option.{is_some}
use Rattle.snap_call.specs.Indexes.{name_in}
use Rattle.snap_call.proofs.open_slots.is_full.Given as goal

-- the slots before this one have names
abbrev pub invariant-loop-place : goal.invariant-loop-place
invariant-loop-place l = (k : ℕ) → l.first ≤ k → k < l.first + l.place → is_some (name_in k l.names) ≡ true

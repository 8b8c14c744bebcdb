use Rattle.std.proofs.Common.{◌≡◌, ◌||◌, List, ℕ}
use Rattle.snap_lease.specs.Live.{is_among}
use Rattle.snap_lease.specs.Leases.{is_guarded_at}
use Rattle.snap_lease.proofs.list.Leases.live_names.Given as goal

-- the names so far, and those of the leases ahead
abbrev pub invariant-loop-lease : goal.invariant-loop-lease
invariant-loop-lease l = (name : List ℕ) → (is_among name l.names || is_guarded_at l.lease-iterator l.namespace name l.now) ≡ is_guarded_at l.self l.namespace name l.now

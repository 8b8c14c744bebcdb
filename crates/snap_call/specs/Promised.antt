-- What a store promises of its snapshots whenever no call is under way. `Good` is what a step needs besides to keep it.
use Rattle.std.specs.Prelude.{◌≡◌, ℕ, ◌<◌, true, List, IsSome, IsSomeAnd, length}
use Rattle.std.specs.List.{AllByRecursion}
use Rattle.snap_usage.specs.Counted.{count_of, Covers}
use Rattle.snap_lease.specs.Lease.{Lease}
use Rattle.snap_record.specs.declared.record.Content.{Content}
use Rattle.snap_record.specs.declared.record.Content.TheVariants.{Committed}
use Rattle.snap_record.specs.declared.record.Record.{Record}
use Rattle.snap_call.specs.declared.config.Namespace.{Namespace}
use Rattle.snap_call.specs.declared.state.State.{State}
use Rattle.snap_call.specs.Records.{charge_of, committed_at}
use Rattle.snap_call.specs.State.{chain_from, is_base, limit_at, place_of}

-- each snapshot that the lease names is a committed one of the lease's namespace
abbrev pub IsGuarding : List Namespace → List Record → Lease → Type 0
IsGuarding ns rs l = IsSomeAnd (place_of l.namespace ns) (λ place. AllByRecursion (λ name. IsSome (committed_at place name rs)) l.names)

-- a committed snapshot's stored usage is the count over its layer
abbrev pub IsUsageCounted : Content → Type 0
IsUsageCounted (Committed layer usage) = usage ≡ count_of layer
IsUsageCounted content = Unit {0}

-- what a store promises of its snapshots whenever no call is under way
pub record Promised (s : State) : Type 0 where
  -- each snapshot has no parent, or one that is a committed snapshot of its namespace
  pub parents : AllByRecursion (λ r. is_base r.namespace r.parent s.records ≡ true) s.records
  -- each snapshot that a lease names is there and committed, in the lease's namespace
  pub leased : AllByRecursion (IsGuarding s.namespaces s.records) s.leases
  -- each committed snapshot's stored usage is the count over its layer
  pub counted : AllByRecursion (λ r. IsUsageCounted r.content) s.records
  -- each namespace is charged within its limit
  pub within : (place : ℕ) → place < length s.namespaces → Covers (limit_at place s.namespaces) (charge_of place s.records)
  -- each snapshot has a chain of committed ancestors, no more than the store allows
  pub chains : AllByRecursion (λ r. IsSome (chain_from s.ancestors s.records r.namespace r.parent)) s.records

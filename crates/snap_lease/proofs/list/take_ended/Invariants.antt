use Rattle.std.proofs.Common.{◌≡◌, ◌-◌, ◌&&◌, List, ℕ, None, cond, count_by}
use Rattle.std.specs.Map.{values_of}
use Rattle.std.specs.List.{AllByRecursion, list_any}
use Rattle.snap_counts.specs.Counts.{count_within}
use Rattle.snap_lease.specs.Lease.{NamesOnce, is_lease}
use Rattle.snap_lease.specs.Leases.{guards, has_ended}
use Rattle.snap_lease.specs.Numbers.{number_in}
use Rattle.snap_lease.proofs.list.take_ended.Given as goal

-- what the leases ahead take from the counts and from the numbers leaves what all of them do
abbrev pub invariant-loop-lease : goal.invariant-loop-lease
invariant-loop-lease l = AllByRecursion NamesOnce l.lease-iterator
    × ((space name : List ℕ) → count_within space name l.counts - count_by (λ k. has_ended l.namespace l.now k && guards space name k) l.lease-iterator ≡ count_within space name l.initial.counts - count_by (λ k. has_ended l.namespace l.now k && guards space name k) (values_of l.list.entries))
    × ((space name : List ℕ) → cond (list_any (λ k. has_ended l.namespace l.now k && is_lease space name k) l.lease-iterator) None (number_in space name l.numbers) ≡ cond (list_any (λ k. has_ended l.namespace l.now k && is_lease space name k) (values_of l.list.entries)) None (number_in space name l.initial.numbers))

use Rattle.std.proofs.Common.{Bor, arith, rules}
use Rattle.std.specs.Ordering.{is_lt}
use Rattle.std.proofs.lemmas.List.Sorted.{IsPartitionPoint-from_clause}
use Rattle.snap_record.specs.declared.record.Record.{Record}
use Rattle.snap_call.specs.Marked.{key_cmp}
use Rattle.snap_call.proofs.Ascending.{ascending-sorted, parted-key}
use Rattle.snap_call.proofs.Referred.{all_now, length-now, parted-now, parted-refs}
use Rattle.snap_call.proofs.sweep.place_from.Goals as goal

pub returns-clause-within : goal.returns-clause-within
returns-clause-within c = let e = length-now c.args.records.now in omega (arith, e, c.partition_point.ensures.bound)

pub returns-clause-parted : goal.returns-clause-parted
returns-clause-parted c =
    let refs = c.args.records.now in
    parted-now (λ (r : Record). is_lt (key_cmp c.args.place c.args.key.now r)) refs _ c.partition_point.ensures.bound
    (IsPartitionPoint-from_clause (λ (r : Bor Record). is_lt (key_cmp c.args.place c.args.key.now r.now)) refs _ c.partition_point.ensures.partitioned
    (parted-refs (λ (r : Record). is_lt (key_cmp c.args.place c.args.key.now r)) refs (parted-key c.args.place c.args.key.now (all_now refs) (ascending-sorted (all_now refs) c.requires)))
    (λ a r f' called. search rules))

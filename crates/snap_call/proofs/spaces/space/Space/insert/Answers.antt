use Rattle.std.proofs.Common.{◌+◌, length, bytes_eq, ap, ◌∙◌, arith}
use Rattle.std.proofs.lemmas.List.Sums.{count_by-le-length}
use Rattle.std.specs.Map.{values_of}
use Rattle.snap_counts.specs.Counts.{count_in}
use Rattle.snap_counts.proofs.Lists.{one_if}
use Rattle.snap_record.specs.declared.record.Record.{Record}
use Rattle.snap_call.specs.Spaces.{joined_records}
use Rattle.snap_call.proofs.Entries.{parents-added}
use Rattle.snap_call.proofs.spaces.space.Space.insert.Goals as goal

pub invariant_of-self-in-Ok : goal.invariant_of-self-in-Ok
invariant_of-self-in-Ok c =
    let r = c.args.added in
    let rs = joined_records (values_of c.self.inside.map.entries) in
    let counts = c.self.inside.parents in (
      c.put.ensures.groups,
      parents-added r rs _ counts c.add.new.self c.self.invariant.1 (λ q. c.in_default.ensures.ok q ∙ ap (λ t. count_in q counts + one_if (bytes_eq q t)) (c.as_str.ensures ∙ ap (λ (x : Record). x.parent) c.record.ensures)) c.in-Ok.ensures.ok,
    )

pub add-requires : goal.add-requires
add-requires c =
    let q = c.as_str.result.now in
    omega (arith, c.self.invariant.1 q, count_by-le-length (λ (r : Record). bytes_eq q r.parent) (joined_records (values_of c.self.inside.map.entries)), ap length c.self.view_is, c.requires.few)

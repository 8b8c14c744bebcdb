use Rattle.std.proofs.Common.{◌≡◌, ◌-◌, None, Some, bytes_eq, subst, sym, ap, ◌∙◌}
use Rattle.std.specs.Map.{values_of}
use Rattle.snap_counts.specs.Counts.{count_in}
use Rattle.snap_counts.proofs.Lists.{one_if}
use Rattle.snap_record.specs.declared.record.Record.{Record}
use Rattle.snap_call.specs.Records.{is_named, record_at}
use Rattle.snap_call.specs.Spaces.{AreParentCounts, first_place_of, joined_records}
use Rattle.snap_call.proofs.Entries.{parents-removed, without-none}
use Rattle.snap_call.proofs.spaces.space.Space.remove.Goals as goal

pub invariant_of-self : goal.invariant_of-self
invariant_of-self c =
    let rs = joined_records (values_of c.self.inside.map.entries) in
    let n = first_place_of rs in
    let of = c.self.invariant.0.alike in
    let none : record_at n c.args.key.now rs ≡ None = sym (c.take_out.ensures.record_taken n of) ∙ c.in_err-removed.was in
    let same = c.take_out.ensures.taken n of ∙ without-none (is_named n c.args.key.now) rs none in
    (c.take_out.ensures.groups, subst (λ ts. AreParentCounts ts c.self.inside.parents) (sym same) c.self.invariant.1)

pub invariant_of-self-2 : goal.invariant_of-self-2
invariant_of-self-2 c =
    let rs = joined_records (values_of c.self.inside.map.entries) in
    let n = first_place_of rs in
    let of = c.self.invariant.0.alike in
    let counts = c.self.inside.parents in
    let r = c.in_ok-removed.removed in
    let found : record_at n c.args.key.now rs ≡ Some r = sym (c.take_out.ensures.record_taken n of) ∙ c.in_ok-removed.was in (
      c.take_out.ensures.groups,
      parents-removed (is_named n c.args.key.now) rs _ r counts c.take.new.self found c.self.invariant.1 (λ q. c.take.ensures q ∙ ap (λ t. count_in q counts - one_if (bytes_eq q t)) (c.as_str.ensures ∙ ap (λ (x : Record). x.parent) c.record.ensures)) (c.take_out.ensures.taken n of),
    )

use Rattle.std.proofs.Common.{◌∙◌, ap, sym}
use Rattle.snap_record.specs.declared.record.Record.{Record}
use Rattle.snap_call.specs.Indexes.{slot_of}
use Rattle.snap_call.specs.Spaces.{joined_records}
use Rattle.snap_call.proofs.Indexed.{indexed-stays, indexed-taken_active, indexed-taken_idle}
use Rattle.snap_call.proofs.records.Records.take_key.Goals as goal

pub invariant_of-self : goal.invariant_of-self
invariant_of-self c =
    (c.take_out.ensures.counted, indexed-stays (joined_records c.self.inside.spaces.list.items) c.self.inside.slots c.self.invariant.1 c.args.place c.args.key.now (joined_records c.take_out.new.self.list.items) c.take_out.result c.take_out.ensures.taken c.take_out.ensures.record_taken c.in_default.is)

pub invariant_of-self-in_default-slot_of : goal.invariant_of-self-in_default-slot_of
invariant_of-self-in_default-slot_of c = (
  c.take_out.ensures.counted,
  indexed-taken_idle (joined_records c.self.inside.spaces.list.items) c.self.inside.slots c.self.invariant.1 c.args.place c.args.key.now (joined_records c.take_out.new.self.list.items) c.take_out.result c.take_out.ensures.taken c.take_out.ensures.record_taken c.in-Some.taken c.in-Some.is
      (ap (λ (x : Record). slot_of x.content) (sym c.record.ensures) ∙ sym c.slot_of.ensures ∙ c.in_default-slot_of.is),
)

pub invariant_of-self-2 : goal.invariant_of-self-2
invariant_of-self-2 c = (
  c.take_out.ensures.counted,
  indexed-taken_active (joined_records c.self.inside.spaces.list.items) c.self.inside.slots c.self.invariant.1 c.args.place c.args.key.now (joined_records c.take_out.new.self.list.items) c.take_out.result c.take_out.ensures.taken c.take_out.ensures.record_taken c.in-Some.taken c.in-Some-slot_of.slot c.take.new.self c.in-Some.is
      (ap (λ (x : Record). slot_of x.content) (sym c.record.ensures) ∙ sym c.slot_of.ensures ∙ c.in-Some-slot_of.is) c.take.ensures.rest,
)

use Rattle.std.proofs.Common.{◌≡◌, ◌∙◌, ap, sym, List}
use Rattle.snap_record.specs.declared.record.Record.{Record}
use Rattle.snap_call.specs.Indexes.{record_name_of, slot_of}
use Rattle.snap_call.specs.Records.{active_at, has_key}
use Rattle.snap_call.specs.declared.open_slots.Name.{Name}
use Rattle.snap_call.specs.Spaces.{joined_records}
use Rattle.snap_call.proofs.Indexed.{indexed-came, indexed-tried}
use Rattle.snap_call.proofs.records.Records.insert.Goals as goal

pub invariant_of-self : goal.invariant_of-self
invariant_of-self c = (
  c.put.ensures.counted,
  indexed-tried (joined_records c.self.inside.spaces.list.items) c.self.inside.slots c.self.invariant.1 c.args.added c.put.result (joined_records c.put.new.self.list.items)
      (ap (λ (l : List Record). has_key c.args.added.namespace c.args.added.key l) c.self.view_is ∙ c.requires.new) c.requires.low
      (λ slot is. ap (λ (l : List Record). active_at slot l) c.self.view_is ∙ c.requires.free slot is)
      (ap (λ (x : Record). slot_of x.content) (sym c.record.ensures) ∙ sym c.slot_of.ensures ∙ c.in_default.is) c.put.ensures.ok c.put.ensures.err,
)

pub invariant_of-self-then-is_ok : goal.invariant_of-self-then-is_ok
invariant_of-self-then-is_ok c =
    let n : Name = record { place = c.record-3.result.now.namespace; key = c.in-Ok.key } in
    let own : n ≡ record_name_of c.args.added = λ i. record { place = (c.record-3.ensures i).namespace; key = (c.in-Ok.ensures.cases ∙ ap (λ (x : Record). x.key) c.record-2.ensures) i } in (
      c.put-inserted.ensures.counted,
      indexed-came (joined_records c.self.inside.spaces.list.items) c.self.inside.slots c.self.invariant.1 c.args.added c.in-Some.slot n c.put-inserted.result (joined_records c.put-inserted.new.self.list.items) c.reserve.new.self c.set.new.self
          (ap (λ (l : List Record). has_key c.args.added.namespace c.args.added.key l) c.self.view_is ∙ c.requires.new) c.requires.low
          (λ slot is. ap (λ (l : List Record). active_at slot l) c.self.view_is ∙ c.requires.free slot is)
          (ap (λ (x : Record). slot_of x.content) (sym c.record.ensures) ∙ sym c.slot_of.ensures ∙ c.in-Some.is) own (sym c.is_ok.ensures.value ∙ c.if-is_ok.true) c.put-inserted.ensures.ok c.reserve.ensures.same c.set.ensures,
    )

use Rattle.std.proofs.Common.{◌≡◌, ◌∙◌, ap, sym, subst, List}
use Rattle.snap_record.specs.declared.record.Record.{Record}
use Rattle.snap_call.specs.Indexes.{AreIndexed}
use Rattle.snap_call.specs.Records.{record_at, relabelled}
use Rattle.snap_call.specs.Spaces.{joined_records}
use Rattle.snap_call.proofs.Entries.{amended-relabelled}
use Rattle.snap_call.proofs.Indexed.{indexed-relabelled}
use Rattle.snap_call.proofs.records.Records.relabel.Goals as goal

pub returns : goal.returns
returns c =
    c.edit_at.ensures.edited ∙ sym (amended-relabelled c.args.place c.args.key.now c.args.labels c.args.number (joined_records c.self.inside.spaces.list.items))
    ∙ ap (relabelled c.args.place c.args.key.now c.args.labels c.args.number) c.self.view_is

pub invariant_of-self : goal.invariant_of-self
invariant_of-self c =
    let is : joined_records c.edit_at.new.self.list.items ≡ relabelled c.args.place c.args.key.now c.args.labels c.args.number (joined_records c.self.inside.spaces.list.items) =
    c.edit_at.ensures.edited ∙ sym (amended-relabelled c.args.place c.args.key.now c.args.labels c.args.number (joined_records c.self.inside.spaces.list.items)) in
    (c.edit_at.ensures.counted, subst (λ (l : List Record). AreIndexed l c.self.inside.slots) (sym is) (indexed-relabelled (joined_records c.self.inside.spaces.list.items) c.self.inside.slots c.self.invariant.1 c.args.place c.args.key.now c.args.labels c.args.number))

pub edit_at-requires-clause-edit : goal.edit_at-requires-clause-edit
edit_at-requires-clause-edit c = λ r found. c.requires r (ap (record_at c.args.place c.args.key.now) (sym c.self.view_is) ∙ found)

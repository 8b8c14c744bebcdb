use Rattle.std.proofs.Common.{◌≡◌, ◌∙◌, ap, sym, subst, List, None, Some}
use Rattle.std.specs.Option.{option_copied}
use Rattle.snap_record.specs.declared.record.Record.{Record}
use Rattle.snap_record.specs.declared.record.Content.TheVariants.{Active}
use Rattle.snap_record.specs.Labels.{Bytes}
use Rattle.snap_call.specs.Indexes.{AreIndexed, name_in}
use Rattle.snap_call.specs.Records.{active_at, recharged, record_at}
use Rattle.snap_call.specs.Spaces.{edited_at, joined_records}
use Rattle.snap_call.specs.declared.record_edit.RecordEdit.TheVariants.{Content}
use Rattle.snap_call.proofs.Indexed.{active_by_name, indexed-recharged, recharged-none, recharged_at, unnamed}
use Rattle.snap_call.proofs.records.Records.recharge.Goals as goal

pub returns-in_default : goal.returns-in_default
returns-in_default c =
    let none : name_in c.args.slot c.self.inside.slots ≡ None = sym c.get.ensures ∙ ap option_copied c.in_default.is in
    let free : active_at c.args.slot c.args.self.now ≡ None = ap (λ (l : List Record). active_at c.args.slot l) (sym c.self.view_is) ∙ unnamed (joined_records c.self.inside.spaces.list.items) c.self.inside.slots c.self.invariant.1 c.args.slot none in
    sym (recharged-none c.args.slot c.args.to c.args.self.now free)

pub returns : goal.returns
returns c =
    let n = c.in-Some.name.now in
    let some : name_in c.args.slot c.self.inside.slots ≡ Some n = sym c.get.ensures ∙ ap option_copied c.in-Some.is in
    c.edit_at.ensures.edited ∙ ap (λ (k : Bytes). edited_at n.place k (Content (Active c.args.slot c.args.to)) (joined_records c.self.inside.spaces.list.items)) c.as_str.ensures
    ∙ recharged_at (joined_records c.self.inside.spaces.list.items) c.self.inside.slots c.self.invariant.1 c.args.slot n c.args.to some ∙ ap (λ (l : List Record). recharged c.args.slot c.args.to l) c.self.view_is

pub invariant_of-self : goal.invariant_of-self
invariant_of-self c =
    let n = c.in-Some.name.now in
    let some : name_in c.args.slot c.self.inside.slots ≡ Some n = sym c.get.ensures ∙ ap option_copied c.in-Some.is in
    let is : joined_records c.edit_at.new.self.list.items ≡ recharged c.args.slot c.args.to (joined_records c.self.inside.spaces.list.items) =
    c.edit_at.ensures.edited ∙ ap (λ (k : Bytes). edited_at n.place k (Content (Active c.args.slot c.args.to)) (joined_records c.self.inside.spaces.list.items)) c.as_str.ensures
    ∙ recharged_at (joined_records c.self.inside.spaces.list.items) c.self.inside.slots c.self.invariant.1 c.args.slot n c.args.to some in
    (c.edit_at.ensures.counted, subst (λ (l : List Record). AreIndexed l c.self.inside.slots) (sym is) (indexed-recharged (joined_records c.self.inside.spaces.list.items) c.self.inside.slots c.self.invariant.1 c.args.slot c.args.to n some))

pub edit_at-requires-clause-edit : goal.edit_at-requires-clause-edit
edit_at-requires-clause-edit c = λ r found.
    let n = c.in-Some.name.now in
    let rs = joined_records c.self.inside.spaces.list.items in
    let some : name_in c.args.slot c.self.inside.slots ≡ Some n = sym c.get.ensures ∙ ap option_copied c.in-Some.is in
    active_by_name rs c.self.inside.slots c.self.invariant.1 c.args.slot n some r (ap (λ (k : Bytes). record_at n.place k rs) (sym c.as_str.ensures) ∙ found)

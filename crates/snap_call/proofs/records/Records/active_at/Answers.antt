use Rattle.std.proofs.Common.{◌≡◌, ◌∙◌, ap, sym, List, None, Some}
use Rattle.std.specs.Option.{option_copied}
use Rattle.snap_record.specs.declared.record.Record.{Record}
use Rattle.snap_record.specs.Labels.{Bytes}
use Rattle.snap_call.specs.Indexes.{name_in}
use Rattle.snap_call.specs.Records.{active_at, record_at}
use Rattle.snap_call.specs.Spaces.{joined_records}
use Rattle.snap_call.proofs.Indexed.{found_at, unnamed}
use Rattle.snap_call.proofs.records.Records.active_at.Goals as goal

pub returns-in_default : goal.returns-in_default
returns-in_default c =
    let none : name_in c.args.slot c.self.inside.slots ≡ None = sym c.get.ensures ∙ ap option_copied c.in_default.is in
    sym (ap (λ (l : List Record). active_at c.args.slot l) (sym c.self.view_is) ∙ unnamed (joined_records c.self.inside.spaces.list.items) c.self.inside.slots c.self.invariant.1 c.args.slot none)

pub returns : goal.returns
returns c =
    let n = c.in-Some.name.now in
    let some : name_in c.args.slot c.self.inside.slots ≡ Some n = sym c.get.ensures ∙ ap option_copied c.in-Some.is in
    c.record_at.ensures ∙ ap (λ (k : Bytes). record_at n.place k c.args.self.now) c.as_str.ensures ∙ sym (ap (record_at n.place n.key) c.self.view_is) ∙ found_at (joined_records c.self.inside.spaces.list.items) c.self.inside.slots c.self.invariant.1 c.args.slot n some ∙ ap (λ (l : List Record). active_at c.args.slot l) c.self.view_is

use Rattle.std.proofs.Common.{◌∙◌, ap, sym, List}
use Rattle.std.specs.List.{list_any}
use Rattle.std.specs.Option.{is_some}
use Rattle.snap_record.specs.declared.record.Record.{Record}
use Rattle.snap_call.specs.Records.{is_slot}
use Rattle.snap_call.specs.Spaces.{joined_records}
use Rattle.snap_call.proofs.Indexed.{open_named, some-copied}
use Rattle.snap_call.proofs.records.Records.is_open.Goals as goal

pub returns : goal.returns
returns c =
    c.is_some.ensures ∙ sym (some-copied c.get.result) ∙ ap is_some c.get.ensures ∙ open_named (joined_records c.self.inside.spaces.list.items) c.self.inside.slots c.self.invariant.1 c.args.slot ∙ ap (λ (l : List Record). list_any (is_slot c.args.slot) l) c.self.view_is

use Rattle.std.proofs.Common.{◌+◌, ◌∙◌, List, ap, sym, subst}
use Rattle.snap_record.specs.declared.record.Record.{Record}
use Rattle.snap_call.specs.Good.{Good}
use Rattle.snap_call.specs.Records.{with_record}
use Rattle.snap_call.proofs.Saving.{good_saved}
use Rattle.snap_call.proofs.state.State.put_saved.Goals as goal

pub returns-clause-good : goal.returns-clause-good
returns-clause-good c =
    let r = c.args.added in
    let s = c.args.self.now in
    subst (λ (l : List Record). Good (record s { records = l; next_id = r.id + 1 })) (sym (c.in_default.ensures.ok ∙ ap (λ (x : Record). with_record x s.records) c.in_ok-held.ensures)) (good_saved s r c.requires.good c.requires.possible)

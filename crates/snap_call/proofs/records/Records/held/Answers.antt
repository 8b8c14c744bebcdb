use Rattle.std.proofs.Common.{◌++◌, sym, ap, ◌∙◌}
use Rattle.snap_call.proofs.Joined.{joined-next}
use Rattle.snap_call.proofs.records.Records.held.Goals as goal

pub loop-space-preserved : goal.loop-space-preserved
loop-space-preserved c =
    c.in_ok-list-2.ensures
    ∙ ap (λ l. l ++ c.space-item.result) c.loop-space.invariant
    ∙ sym (joined-next c.deref-space-items.result.now c.loop-space.space-index c.space-item.result c.loop-space-test.true c.space-item.is)

use Rattle.snap_copyup.proofs.Alone.{OnOk-weaker}
use Rattle.snap_upper.proofs.Made.{made_changes}
use Rattle.snap_upper.proofs.upper.perform_op.Goals as goal

pub returns-clause-view : goal.returns-clause-view
returns-clause-view c = OnOk-weaker c.perform.result (λ done op is. made_changes op c.args.layer.now c.args.lowers.now c.perform.new.layer c.args.ready.change is.layer is.change done) c.perform.ensures.ok

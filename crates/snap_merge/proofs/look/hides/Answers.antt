use Rattle.snap_merge.proofs.Views.{layer_rules}
use Rattle.snap_merge.proofs.look.hides.Goals as goal

pub returns-clause-rules : goal.returns-clause-rules
returns-clause-rules c = layer_rules c.args.layer.now c.args.path.now

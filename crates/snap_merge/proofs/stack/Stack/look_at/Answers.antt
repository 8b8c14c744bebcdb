use Rattle.std.proofs.Common.{sym}
use Rattle.snap_merge.proofs.Reaching.{reached_short, reached_whole}
use Rattle.snap_merge.proofs.stack.Stack.look_at.Goals as goal

pub returns-then-reach-names : goal.returns-then-reach-names
returns-then-reach-names c = sym (reached_short c.args.self.now c.args.names.now c.reach-reach.result.dirs _ c.show_are_layers.ensures c.reach-reach.ensures c.if-reach-names.true)

pub returns-else-reach-names : goal.returns-else-reach-names
returns-else-reach-names c = reached_whole c.args.self.now c.args.names.now c.reach-reach.result.dirs _ c.reach-reach.ensures c.if-reach-names.false

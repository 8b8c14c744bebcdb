use Rattle.std.proofs.Common.{arith, sym, ◌∙◌}
use Rattle.snap_layer.proofs.Totaling.{few_blocks, fewer_blocks}
use Rattle.snap_layer.proofs.layer.Layer.room_for.Goals as goal

pub overflow_add-result-2 : goal.overflow_add-result-2
overflow_add-result-2 c = omega (arith, c.requires.blocks, c.left-left.ensures.blocks, fewer_blocks c.args.self.now c.args.path.now, few_blocks c.args.self.now c.left-left.ensures.layer)

pub returns-in_err-paths-clause-last : goal.returns-in_err-paths-clause-last
returns-in_err-paths-clause-last c = λ e. sym c.left-left.ensures.paths ∙ c.in_err-paths.ensures.last

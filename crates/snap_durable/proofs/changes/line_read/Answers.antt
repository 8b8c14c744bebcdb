use Rattle.std.proofs.Common.{sym, arith, length-take}
use Rattle.std.proofs.lemmas.List.{take_all}
use Rattle.snap_durable.specs.Parts.{line_limit}
use Rattle.snap_durable.proofs.changes.line_read.Goals as goal

pub slice_bounds-result-end : goal.slice_bounds-result-end
slice_bounds-result-end c = omega (arith, length-take line_limit c.args.line.now, c.if-line-gt-LIMIT.true)

pub returns-else-line-gt-LIMIT : goal.returns-else-line-gt-LIMIT
returns-else-line-gt-LIMIT c = sym (take_all line_limit c.args.line.now (omega (arith, c.if-line-gt-LIMIT.false)))

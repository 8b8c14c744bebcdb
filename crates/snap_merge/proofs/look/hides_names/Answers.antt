use Rattle.std.proofs.Common.{◌∙◌}
use Rattle.snap_merge.proofs.Reaching.{hides_covered, hides_whole, hides_stop}
use Rattle.snap_merge.proofs.look.hides_names.Goals as goal

pub returns-then-trace : goal.returns-then-trace
returns-then-trace c = hides_covered c.args.layer.now c.args.names.now c.trace_in-trace.ensures.layer c.trace_in-trace.result.dirs c.trace_in-trace.result.node c.trace_in-trace.result.hidden c.trace_in-trace.ensures.traced c.if-trace.true

pub returns-then-names-trace : goal.returns-then-names-trace
returns-then-names-trace c = hides_whole c.args.layer.now c.args.names.now c.trace_in-trace.ensures.layer c.trace_in-trace.result.dirs c.trace_in-trace.result.node c.trace_in-trace.result.hidden c.trace_in-trace.ensures.traced c.if-trace.false c.if-names-trace.true

pub returns : goal.returns
returns c = c.node_hides.ensures ∙ hides_stop c.args.layer.now c.args.names.now c.trace_in-trace.ensures.layer c.trace_in-trace.result.dirs c.trace_in-trace.result.node c.trace_in-trace.result.hidden c.trace_in-trace.ensures.traced c.if-trace.false c.if-names-trace.false

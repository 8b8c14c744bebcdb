use Rattle.std.proofs.Common.{sym, ◌∙◌}
use Rattle.snap_merge.proofs.Reaching.{upper_covered, upper_hidden, upper_open, here_shown, here_hidden, here_open}
use Rattle.snap_merge.proofs.look.step_through.Goals as goal
use Rattle.snap_merge.proofs.look.step_through.Goals.{then-trace-via-then-trace, then-trace-via-else-trace+then-node_hides}

pub returns-then-trace : goal.returns-then-trace
returns-then-trace c =
    elim c.then-trace.branch [
      | then-trace-via-then-trace w ↦ upper_hidden c.args.layer.now c.args.names.now c.trace_in-trace.ensures.layer c.args.dirs c.trace_in-trace.result.dirs c.trace_in-trace.result.node c.trace_in-trace.result.hidden c.trace_in-trace.ensures.traced c.if-trace-dirs.true c.requires w.if-trace.true
      | then-trace-via-else-trace+then-node_hides w ↦ upper_covered c.args.layer.now c.args.names.now c.trace_in-trace.ensures.layer c.args.dirs c.trace_in-trace.result.dirs c.trace_in-trace.result.node c.trace_in-trace.result.hidden c.trace_in-trace.ensures.traced c.if-trace-dirs.true c.requires (sym w.node_hides.ensures ∙ w.if-node_hides.true)
    ]

pub returns-then-trace-dirs : goal.returns-then-trace-dirs
returns-then-trace-dirs c = upper_open c.args.layer.now c.args.names.now c.trace_in-trace.ensures.layer c.args.dirs c.trace_in-trace.result.dirs c.trace_in-trace.result.node c.trace_in-trace.result.hidden c.trace_in-trace.ensures.traced c.if-trace-dirs.true c.requires c.if-trace.false (sym c.node_hides.ensures ∙ c.if-node_hides.false)

pub returns-in-Some : goal.returns-in-Some
returns-in-Some c = here_shown c.args.layer.now c.args.names.now c.trace_in-trace.ensures.layer c.args.dirs c.trace_in-trace.result.dirs c.trace_in-trace.result.node c.trace_in-trace.result.hidden c.trace_in-trace.ensures.traced c.in-Some.node _ c.if-trace-dirs.false c.in-Some.is c.shown_at.ensures

pub returns-in-None : goal.returns-in-None
returns-in-None c = here_hidden c.args.layer.now c.args.names.now c.trace_in-trace.ensures.layer c.args.dirs c.trace_in-trace.result.dirs c.trace_in-trace.result.node c.trace_in-trace.result.hidden c.trace_in-trace.ensures.traced c.if-trace-dirs.false c.in-None.is c.if-trace-2.true

pub returns-in-None-2 : goal.returns-in-None-2
returns-in-None-2 c = here_open c.args.layer.now c.args.names.now c.trace_in-trace.ensures.layer c.args.dirs c.trace_in-trace.result.dirs c.trace_in-trace.result.node c.trace_in-trace.result.hidden c.trace_in-trace.ensures.traced c.if-trace-dirs.false c.in-None.is c.if-trace-2.false

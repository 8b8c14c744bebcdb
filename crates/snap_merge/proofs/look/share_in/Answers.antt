use Rattle.std.proofs.Common.{subst}
use Rattle.snap_merge.proofs.Sharing.{shares}
use Rattle.snap_merge.proofs.Rows.{its_dir, its_hiding}
use Rattle.snap_merge.proofs.look.share_in.Goals as goal

pub returns-clause-shares : goal.returns-clause-shares
returns-clause-shares c =
    shares c.args.layer.now c.args.names.now c.trace_in-trace.ensures.layer c.trace_in-trace.result.dirs c.trace_in-trace.result.node c.trace_in-trace.result.hidden c.trace_in-trace.ensures.traced c.node_hides.result c.node_hides.ensures c.trace_in-trace.result.dir c.trace_in-trace.ensures.dir

pub returns-clause-dir : goal.returns-clause-dir
returns-clause-dir c =
    its_dir c.args.layer.now c.args.names.now c.trace_in-trace.ensures.layer c.trace_in-trace.result.dirs c.trace_in-trace.result.node c.trace_in-trace.result.hidden c.trace_in-trace.ensures.traced c.trace_in-trace.result.dir c.trace_in-trace.ensures.dir

pub returns-clause-hides : goal.returns-clause-hides
returns-clause-hides c =
    its_hiding c.args.layer.now c.args.names.now c.trace_in-trace.result.dir _
    (shares c.args.layer.now c.args.names.now c.trace_in-trace.ensures.layer c.trace_in-trace.result.dirs c.trace_in-trace.result.node c.trace_in-trace.result.hidden c.trace_in-trace.ensures.traced c.node_hides.result c.node_hides.ensures c.trace_in-trace.result.dir c.trace_in-trace.ensures.dir)

use Rattle.std.specs.Prelude.{IfErr, IfSome}
use Rattle.std.proofs.Common.{None, subst}
use Rattle.snap_lines.specs.Transcripts.{Stops}
use Rattle.snap_session.specs.Service.{ServerValue, served}
use Rattle.snap_session.proofs.Serving.{never_at_a_line}
use Rattle.snap_session.proofs.server.run.Goals as goal

pub returns-clause-stopped : goal.returns-clause-stopped
returns-clause-stopped g c =
    let remaining = g.R.Read.remaining c.args.input.now in
    let left = g.R.Read.remaining c.read_lines.new.input in
    let before = g.W.Write.contents c.args.output.now in
    let after = g.W.Write.contents c.read_lines.new.output in
    never_at_a_line c.read_lines.result remaining left before after
    (subst (λ (v : ServerValue). IfErr c.read_lines.result (λ stop. IfSome remaining (λ bytes. Stops None served v bytes left stop before after))) c.new-server.ensures c.read_lines.ensures.stopped)

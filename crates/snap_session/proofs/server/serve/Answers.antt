use Rattle.std.proofs.lemmas.Result.{err_from_is_err_and}
use Rattle.snap_path.specs.Memory.{no_memory}
use Rattle.snap_lines.specs.declared.stop.Stop.TheVariants.{OutOfMemory}
use Rattle.snap_lines.proofs.TranscriptLaws.{err_is}
use Rattle.snap_session.proofs.Serving.{not_begun}
use Rattle.snap_session.proofs.server.serve.Goals as goal

pub returns-in_err-table-clause-stopped : goal.returns-in_err-table-clause-stopped
returns-in_err-table-clause-stopped g c =
    let p = err_from_is_err_and c.from_residual.result c.from_residual.ensures.1 in
    err_is _ c.from_residual.result p.0 (OutOfMemory no_memory) p.1 (cc p.2)
    (not_begun no_memory (g.R.Read.remaining c.args.input.now) (g.R.Read.remaining c.args.input.now) (g.W.Write.contents c.args.output.now))

use Rattle.std.proofs.lemmas.Result.{err_from_is_err_and}
use Rattle.snap_path.specs.Memory.{no_memory}
use Rattle.std.proofs.Common.{Some}
use Rattle.snap_lines.specs.Transcripts.{max_bytes}
use Rattle.snap_lines.specs.declared.stop.Stop.TheVariants.{OutOfMemory}
use Rattle.snap_lines.proofs.ReadLaws.{reading_not_begun}
use Rattle.snap_lines.proofs.TranscriptLaws.{err_is}
use Rattle.snap_session.specs.Script.{effect_of, unbegun}
use Rattle.snap_session.proofs.run.replay_within.Goals as goal

pub returns-in_err-table-clause-stopped : goal.returns-in_err-table-clause-stopped
returns-in_err-table-clause-stopped g c =
    let p = err_from_is_err_and c.from_residual.result c.from_residual.ensures.1 in
    err_is _ c.from_residual.result p.0 (OutOfMemory no_memory) p.1 (cc p.2)
    (reading_not_begun (Some max_bytes) effect_of (unbegun c.args.options) no_memory (g.R.Read.remaining c.args.input.now) (g.R.Read.remaining c.args.input.now) (g.W.Write.contents c.args.output.now))

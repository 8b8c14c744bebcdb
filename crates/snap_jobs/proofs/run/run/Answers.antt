use Rattle.std.specs.Prelude.{IfSome}
use Rattle.std.proofs.Common.{◌≡◌, None, Some, subst}
use Rattle.snap_lines.specs.Transcripts.{Stops, Tells, max_bytes, transcript}
use Rattle.snap_jobs.specs.Lines.{LinesValue, jobs_effect}
use Rattle.snap_jobs.proofs.Writing.{broken, lines_stopped, was_read, written}
use Rattle.snap_jobs.proofs.run.run.Goals as goal

pub returns-in-Ok-clause-written : goal.returns-in-Ok-clause-written
returns-in-Ok-clause-written g c =
    let remaining = g.R.Read.remaining c.args.input.now in
    let before = g.W.Write.contents c.args.output.now in
    let mid = g.W.Write.contents c.read_lines.new.output in
    let read = c.into_read.result in
    written c.args.options c.args.options.fields c.run_read.result remaining read before mid (g.W.Write.contents c.run_read.new.output)
    (subst (λ (v : LinesValue). IfSome remaining (λ bytes. Tells (transcript (Some max_bytes) jobs_effect v bytes) None before mid)) c.new-lines.ensures c.in-Ok.ensures.done)
    (was_read c.args.options.fields remaining c.read_lines.new.taker read c.into_read.ensures
    (subst (λ (v : LinesValue). IfSome remaining (λ bytes. (transcript (Some max_bytes) jobs_effect v bytes).value ≡ c.read_lines.new.taker)) c.new-lines.ensures c.in-Ok.ensures.value))
    c.run_read.ensures.written

pub returns-in-Ok-clause-stopped : goal.returns-in-Ok-clause-stopped
returns-in-Ok-clause-stopped g c =
    let remaining = g.R.Read.remaining c.args.input.now in
    let before = g.W.Write.contents c.args.output.now in
    let mid = g.W.Write.contents c.read_lines.new.output in
    let read = c.into_read.result in
    broken c.args.options c.run_read.result remaining (g.R.Read.remaining c.read_lines.new.input) read before mid (g.W.Write.contents c.run_read.new.output)
    (subst (λ (v : LinesValue). IfSome remaining (λ bytes. Tells (transcript (Some max_bytes) jobs_effect v bytes) None before mid)) c.new-lines.ensures c.in-Ok.ensures.done)
    (was_read c.args.options.fields remaining c.read_lines.new.taker read c.into_read.ensures
    (subst (λ (v : LinesValue). IfSome remaining (λ bytes. (transcript (Some max_bytes) jobs_effect v bytes).value ≡ c.read_lines.new.taker)) c.new-lines.ensures c.in-Ok.ensures.value))
    c.run_read.ensures.stopped

pub returns-in-Err-clause-stopped : goal.returns-in-Err-clause-stopped
returns-in-Err-clause-stopped g c =
    let remaining = g.R.Read.remaining c.args.input.now in
    let left = g.R.Read.remaining c.read_lines.new.input in
    let before = g.W.Write.contents c.args.output.now in
    let after = g.W.Write.contents c.read_lines.new.output in
    lines_stopped c.args.options remaining left c.in-Err.stop before after
    (subst (λ (v : LinesValue). IfSome remaining (λ bytes. Stops (Some max_bytes) jobs_effect v bytes left c.in-Err.stop before after)) c.new-lines.ensures c.in-Err.ensures.stopped)

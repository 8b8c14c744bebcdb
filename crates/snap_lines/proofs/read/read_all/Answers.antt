use Rattle.std.proofs.Common.{ℕ, ◌<◌, [], length, take, None, sym, arith, subst}
use Rattle.std.specs.Io.KnownBytes.{Consumes, IsAtEnd}
use Rattle.std.proofs.lemmas.Result.{err_from_is_err_and}
use Rattle.snap_path.specs.Memory.{no_memory}
use Rattle.snap_lines.specs.declared.stop.Stop.TheVariants.{OutOfMemory}
use Rattle.snap_lines.proofs.TranscriptLaws.{on_ok, if_err, err_is}
use Rattle.snap_lines.proofs.ReadLaws.{Reading, reading_end, reading_value, reading_none, reading_more, reading_stopped, reading_stopped_at_end, reading_failed, reading_not_begun}
use Rattle.snap_lines.specs.Runs.{Behind, within}
use Rattle.snap_lines.proofs.KnownLaws.{Keeps-same}
use Rattle.snap_lines.proofs.read.read_all.Goals as goal

pub returns-in-Ok-eq0-clause-done : goal.returns-in-Ok-eq0-clause-done
returns-in-Ok-eq0-clause-done g c =
    let room : 0 < length c.read.new.buf = omega arith in
    let at_end : IsAtEnd (g.R.Read.remaining c.read.new.self) = c.in-Ok-eq0.ensures.bytes.1 c.in-Ok-eq0.field-0-test room in
    let none : Consumes (g.R.Read.remaining c.reads.input) (g.R.Read.remaining c.read.new.self) [] =
    subst (λ (n : ℕ). Consumes (g.R.Read.remaining c.reads.input) (g.R.Read.remaining c.read.new.self) (take n c.read.new.buf)) c.in-Ok-eq0.field-0-test c.in-Ok-eq0.ensures.bytes.0 in
    on_ok c.finish.result (reading_end c.args.most g.T.TakeLine.effect c.args.taker.now _ _ _ _ _ _ (within c.reads.reader c.reads.taker) None c.reads.invariant none at_end) c.finish.ensures.ok

pub returns-in-Ok-eq0-clause-value : goal.returns-in-Ok-eq0-clause-value
returns-in-Ok-eq0-clause-value g c =
    let room : 0 < length c.read.new.buf = omega arith in
    let at_end : IsAtEnd (g.R.Read.remaining c.read.new.self) = c.in-Ok-eq0.ensures.bytes.1 c.in-Ok-eq0.field-0-test room in
    let none : Consumes (g.R.Read.remaining c.reads.input) (g.R.Read.remaining c.read.new.self) [] =
    subst (λ (n : ℕ). Consumes (g.R.Read.remaining c.reads.input) (g.R.Read.remaining c.read.new.self) (take n c.read.new.buf)) c.in-Ok-eq0.field-0-test c.in-Ok-eq0.ensures.bytes.0 in
    on_ok c.finish.result (reading_value c.args.most g.T.TakeLine.effect c.args.taker.now c.finish.new.taker _ _ _ _ _ (within c.reads.reader c.reads.taker) c.reads.invariant none at_end) c.finish.ensures.value

pub returns-in-Ok-eq0-clause-stopped : goal.returns-in-Ok-eq0-clause-stopped
returns-in-Ok-eq0-clause-stopped g c =
    let room : 0 < length c.read.new.buf = omega arith in
    let at_end : IsAtEnd (g.R.Read.remaining c.read.new.self) = c.in-Ok-eq0.ensures.bytes.1 c.in-Ok-eq0.field-0-test room in
    let none : Consumes (g.R.Read.remaining c.reads.input) (g.R.Read.remaining c.read.new.self) [] =
    subst (λ (n : ℕ). Consumes (g.R.Read.remaining c.reads.input) (g.R.Read.remaining c.read.new.self) (take n c.read.new.buf)) c.in-Ok-eq0.field-0-test c.in-Ok-eq0.ensures.bytes.0 in
    if_err c.finish.result (λ stop h. reading_stopped_at_end c.args.most g.T.TakeLine.effect c.args.taker.now _ _ _ _ _ _ _ (within c.reads.reader c.reads.taker) stop c.reads.invariant none at_end h) c.finish.ensures.err

pub reads-preserved : goal.reads-preserved
reads-preserved g c = reading_more c.args.most g.T.TakeLine.effect c.args.taker.now _ _ _ _ _ _ _ _ _ c.reads.invariant c.in-Ok.ensures.bytes.0 c.in_ok-take_read-in-Ok.ensures.ok

pub reads-init : goal.reads-init
reads-init g c =
    let a = g.R.Read.remaining c.args.input.now in
    let x = g.W.Write.contents c.args.output.now in
    subst (λ (s : Behind). Reading c.args.most g.T.TakeLine.effect c.args.taker.now a a x x (within s c.args.taker.now)) (sym c.new-reader.ensures) (reading_none c.args.most g.T.TakeLine.effect c.args.taker.now a x)

pub returns-in_err-chunk-clause-stopped : goal.returns-in_err-chunk-clause-stopped
returns-in_err-chunk-clause-stopped g c =
    let p = err_from_is_err_and c.from_residual.result c.from_residual.ensures.1 in
    err_is _ c.from_residual.result p.0 (OutOfMemory no_memory) p.1 (cc p.2)
    (reading_not_begun c.args.most g.T.TakeLine.effect c.args.taker.now no_memory (g.R.Read.remaining c.args.input.now) (g.R.Read.remaining c.args.input.now) (g.W.Write.contents c.args.output.now))

pub returns-in_err-take_read-in-Ok-clause-stopped : goal.returns-in_err-take_read-in-Ok-clause-stopped
returns-in_err-take_read-in-Ok-clause-stopped g c =
    let p = err_from_is_err_and c.from_residual-in_err-take_read-in-Ok.result c.from_residual-in_err-take_read-in-Ok.ensures.1 in
    let stop = c.in_err-take_read-in-Ok.field-0.0 in
    err_is _ c.from_residual-in_err-take_read-in-Ok.result p.0 stop p.1 (cc p.2)
    (reading_stopped c.args.most g.T.TakeLine.effect c.args.taker.now _ _ _ _ _ _ _ (within c.reads.reader c.reads.taker) _ stop c.reads.invariant c.in-Ok.ensures.bytes.0 c.in_err-take_read-in-Ok.ensures.err)

pub returns-in-Err-clause-stopped : goal.returns-in-Err-clause-stopped
returns-in-Err-clause-stopped g c = reading_failed c.args.most g.T.TakeLine.effect c.args.taker.now _ _ _ _ _ (within c.reads.reader c.reads.taker) c.reads.invariant c.in-Err.ensures.bytes

pub returns-clause-stopped : goal.returns-clause-stopped
returns-clause-stopped g c = reading_failed c.args.most g.T.TakeLine.effect c.args.taker.now _ _ _ _ _ (within c.reads.reader c.reads.taker) c.reads.invariant (Keeps-same _)

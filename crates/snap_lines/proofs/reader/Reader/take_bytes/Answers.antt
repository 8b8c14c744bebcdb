use Rattle.std.proofs.Common.{◌<◌, length, refl, arith}
use Rattle.std.proofs.lemmas.Result.{err_from_is_err_and}
use Rattle.snap_lines.proofs.TranscriptLaws.{goes_none, goes_more, stops_more, err_is}
use Rattle.snap_lines.proofs.reader.Reader.take_bytes.Goals as goal

pub loop-b-preserved : goal.loop-b-preserved
loop-b-preserved g c =
    let h : c.loop-b.b-index < length c.args.bytes.now = omega arith in
    goes_more g.T.TakeLine.effect _ _ _ c.args.bytes.now c.loop-b.b-index _ _ _ _ h refl c.loop-b.invariant c.in_ok-take_byte.ensures.ok

pub loop-b-init : goal.loop-b-init
loop-b-init g c = goes_none g.T.TakeLine.effect _ _

pub returns-in_err-take_byte-clause-err : goal.returns-in_err-take_byte-clause-err
returns-in_err-take_byte-clause-err g c =
    let p = err_from_is_err_and c.from_residual.result c.from_residual.ensures.1 in
    let h : c.loop-b.b-index < length c.args.bytes.now = omega arith in
    err_is _ c.from_residual.result p.0 c.in_err-take_byte.field-0.0 p.1 (cc p.2)
    (stops_more g.T.TakeLine.effect _ _ c.args.bytes.now c.loop-b.b-index _ c.in_err-take_byte.field-0.0 _ _ _ h refl c.loop-b.invariant c.in_err-take_byte.ensures.err)

use Rattle.std.proofs.Common.{◌<◌, ◌+◌, ◌-◌, length, sym, subst, arith, Some}
use Rattle.std.proofs.lemmas.List.{take_rest}
use Rattle.std.proofs.lemmas.Result.{err_from_is_err_and}
use Rattle.memchr.specs.Find.{IsFirstByte, is_byte}
use Rattle.snap_lines.specs.Runs.{within, Goes, StopsIn}
use Rattle.snap_lines.proofs.FeedLaws.{Open, first_in_rest, first_slice, found, goes_on, goes_to, open_before, stops_rest, stops_to, within_rest}
use Rattle.snap_lines.proofs.TranscriptLaws.{goes_none, goes_more, stops_more, err_is}
use Rattle.snap_lines.proofs.reader.Reader.feed.Goals as goal

pub lines-init : goal.lines-init
lines-init g c = (omega arith, goes_none g.T.TakeLine.effect _ _)

pub slice_bounds-memchr-count : goal.slice_bounds-memchr-count
slice_bounds-memchr-count g c = c.lines.invariant.0

pub slice_bounds-memchr-start : goal.slice_bounds-memchr-start
slice_bounds-memchr-start g c = omega (arith, c.lines.invariant.0)

pub take_open-requires : goal.take_open-requires
take_open-requires g c =
    let first = first_in_rest c.args.bytes.now c.lines.from (Some c.in-Some.n) (subst (IsFirstByte (is_byte 10) _) c.in-Some.is c.memchr.ensures) in
    subst Open (sym (first_slice c.args.bytes.now c.lines.from c.in-Some.n)) (open_before c.args.bytes.now c.lines.from c.in-Some.n first)

pub lines-smaller : goal.lines-smaller
lines-smaller g c =
    let first = first_in_rest c.args.bytes.now c.lines.from (Some c.in-Some.n) (subst (IsFirstByte (is_byte 10) _) c.in-Some.is c.memchr.ensures) in
    let within : c.lines.from + c.in-Some.n < length c.args.bytes.now = within_rest c.args.bytes.now c.lines.from c.in-Some.n first in
    let less : length c.args.bytes.now - (c.lines.from + c.in-Some.n + 1) < length c.args.bytes.now - c.lines.from = omega (arith, within) in
    less

pub lines-preserved : goal.lines-preserved
lines-preserved g c =
    let effect = g.T.TakeLine.effect in
    let bytes = c.args.bytes.now in
    let old = within c.args.self.now c.args.taker.now in
    let here = within c.lines.self c.lines.taker in
    let opened = within c.take_open.new.self c.take_open.new.taker in
    let first = first_in_rest bytes c.lines.from (Some c.in-Some.n) (subst (IsFirstByte (is_byte 10) _) c.in-Some.is c.memchr.ensures) in
    let lt = within_rest bytes c.lines.from c.in-Some.n first in
    let open_goes = subst (λ l. Goes effect here l opened (g.W.Write.contents c.lines.output) (g.W.Write.contents c.take_open.new.output)) (first_slice bytes c.lines.from c.in-Some.n) c.in_ok-take_open.ensures.ok in (
      omega (arith, lt),
      goes_more effect old opened (within c.take_byte.new.self c.take_byte.new.taker) bytes (c.lines.from + c.in-Some.n) 10 _ _ _ lt (found bytes c.lines.from c.in-Some.n first)
          (goes_to bytes c.lines.from effect old here _ _ c.lines.invariant.1 c.in-Some.n opened _ open_goes) c.in_ok-take_byte.ensures.ok,
    )

pub slice_bounds-take_open-count-2 : goal.slice_bounds-take_open-count-2
slice_bounds-take_open-count-2 g c = c.lines.invariant.0

pub slice_bounds-take_open-start-2 : goal.slice_bounds-take_open-start-2
slice_bounds-take_open-start-2 g c = omega (arith, c.lines.invariant.0)

pub take_open-requires-2 : goal.take_open-requires-2
take_open-requires-2 g c = subst (IsFirstByte (is_byte 10) _) c.in_default.is c.memchr.ensures

pub returns-clause-ok : goal.returns-clause-ok
returns-clause-ok g c =
    let effect = g.T.TakeLine.effect in
    let bytes = c.args.bytes.now in
    let old = within c.args.self.now c.args.taker.now in
    let here = within c.lines.self c.lines.taker in
    let new = within c.take_open-2.new.self c.take_open-2.new.taker in
    let rest_goes = subst (λ l. Goes effect here l new (g.W.Write.contents c.lines.output) (g.W.Write.contents c.take_open-2.new.output)) (take_rest bytes c.lines.from) c.in_ok-take_open-2.ensures.ok in
    goes_on bytes c.lines.from effect old here _ _ c.lines.invariant.1 new _ rest_goes

pub returns-in_err-take_open-clause-err : goal.returns-in_err-take_open-clause-err
returns-in_err-take_open-clause-err g c =
    let effect = g.T.TakeLine.effect in
    let bytes = c.args.bytes.now in
    let old = within c.args.self.now c.args.taker.now in
    let here = within c.lines.self c.lines.taker in
    let stop = c.in_err-take_open.field-0.0 in
    let p = err_from_is_err_and c.from_residual.result c.from_residual.ensures.1 in
    let stops = subst (λ l. StopsIn effect here l stop (g.W.Write.contents c.lines.output) (g.W.Write.contents c.take_open.new.output)) (first_slice bytes c.lines.from c.in-Some.n) c.in_err-take_open.ensures.err in
    err_is _ c.from_residual.result p.0 stop p.1 (cc p.2) (stops_to bytes c.lines.from effect old here _ _ c.lines.invariant.1 c.in-Some.n stop _ stops)

pub returns-in_err-take_byte-clause-err : goal.returns-in_err-take_byte-clause-err
returns-in_err-take_byte-clause-err g c =
    let effect = g.T.TakeLine.effect in
    let bytes = c.args.bytes.now in
    let old = within c.args.self.now c.args.taker.now in
    let here = within c.lines.self c.lines.taker in
    let opened = within c.take_open.new.self c.take_open.new.taker in
    let first = first_in_rest bytes c.lines.from (Some c.in-Some.n) (subst (IsFirstByte (is_byte 10) _) c.in-Some.is c.memchr.ensures) in
    let open_goes = subst (λ l. Goes effect here l opened (g.W.Write.contents c.lines.output) (g.W.Write.contents c.take_open.new.output)) (first_slice bytes c.lines.from c.in-Some.n) c.in_ok-take_open.ensures.ok in
    let stop = c.in_err-take_byte.field-0.0 in
    let p = err_from_is_err_and c.from_residual-in_err-take_byte.result c.from_residual-in_err-take_byte.ensures.1 in
    err_is _ c.from_residual-in_err-take_byte.result p.0 stop p.1 (cc p.2)
    (stops_more effect old opened bytes (c.lines.from + c.in-Some.n) 10 stop _ _ _ (within_rest bytes c.lines.from c.in-Some.n first) (found bytes c.lines.from c.in-Some.n first)
    (goes_to bytes c.lines.from effect old here _ _ c.lines.invariant.1 c.in-Some.n opened _ open_goes) c.in_err-take_byte.ensures.err)

pub returns-in_err-take_open-2-clause-err : goal.returns-in_err-take_open-2-clause-err
returns-in_err-take_open-2-clause-err g c =
    let effect = g.T.TakeLine.effect in
    let bytes = c.args.bytes.now in
    let old = within c.args.self.now c.args.taker.now in
    let here = within c.lines.self c.lines.taker in
    let stop = c.in_err-take_open-2.field-0.0 in
    let p = err_from_is_err_and c.from_residual-in_err-take_open-2.result c.from_residual-in_err-take_open-2.ensures.1 in
    let stops = subst (λ l. StopsIn effect here l stop (g.W.Write.contents c.lines.output) (g.W.Write.contents c.take_open-2.new.output)) (take_rest bytes c.lines.from) c.in_err-take_open-2.ensures.err in
    err_is _ c.from_residual-in_err-take_open-2.result p.0 stop p.1 (cc p.2) (stops_rest bytes c.lines.from effect old here _ _ c.lines.invariant.1 stop _ stops)

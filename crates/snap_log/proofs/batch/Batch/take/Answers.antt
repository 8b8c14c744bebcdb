use Rattle.std.proofs.Common.{◌≤◌, ◌<◌, ◌+◌, ◌-◌, length, refl, sym, ap, ◌∙◌, subst, arith, Some}
use Rattle.memchr.specs.Find.{IsFirstByte, is_byte}
use Rattle.snap_log.specs.Batches.{batched}
use Rattle.snap_log.proofs.OpenLaws.{Open, first_in_rest, first_slice, line_batched, open_before, within_rest}
use Rattle.std.proofs.lemmas.List.{take_rest}
use Rattle.snap_log.proofs.batch.Batch.take.Goals as goal

pub lines-init : goal.lines-init
lines-init c = (omega arith, refl)

pub slice_bounds-memchr-count : goal.slice_bounds-memchr-count
slice_bounds-memchr-count c = c.lines.invariant.0

pub slice_bounds-memchr-start : goal.slice_bounds-memchr-start
slice_bounds-memchr-start c = omega (arith, c.lines.invariant.0)

pub take_open-requires : goal.take_open-requires
take_open-requires c =
    let first = first_in_rest c.args.bytes.now c.lines.from (Some c.in-Some.n) (subst (IsFirstByte (is_byte 10) _) c.in-Some.is c.memchr.ensures) in
    subst Open (sym (first_slice c.args.bytes.now c.lines.from c.in-Some.n)) (open_before c.args.bytes.now c.lines.from c.in-Some.n first)

pub lines-smaller : goal.lines-smaller
lines-smaller c =
    let first = first_in_rest c.args.bytes.now c.lines.from (Some c.in-Some.n) (subst (IsFirstByte (is_byte 10) _) c.in-Some.is c.memchr.ensures) in
    let within : c.lines.from + c.in-Some.n + 1 ≤ length c.args.bytes.now = within_rest c.args.bytes.now c.lines.from c.in-Some.n first in
    let less : length c.args.bytes.now - (c.lines.from + c.in-Some.n + 1) < length c.args.bytes.now - c.lines.from = omega (arith, within) in
    less

pub lines-preserved : goal.lines-preserved
lines-preserved c =
    let bytes = c.args.bytes.now in
    let from = c.lines.from in
    let n = c.in-Some.n in
    let first = first_in_rest bytes from (Some n) (subst (IsFirstByte (is_byte 10) _) c.in-Some.is c.memchr.ensures) in
    let taken = c.in_ok-take_open.ensures ∙ ap (batched c.lines.self) (first_slice bytes from n) in (
      within_rest bytes from n first,
      line_batched bytes from n c.lines.self c.take_open.new.self c.end_line.new.self first taken c.in_ok-end_line.ensures ∙ c.lines.invariant.1,
    )

pub slice_bounds-take_open-count-2 : goal.slice_bounds-take_open-count-2
slice_bounds-take_open-count-2 c = c.lines.invariant.0

pub slice_bounds-take_open-start-2 : goal.slice_bounds-take_open-start-2
slice_bounds-take_open-start-2 c = omega (arith, c.lines.invariant.0)

pub take_open-requires-2 : goal.take_open-requires-2
take_open-requires-2 c = subst (IsFirstByte (is_byte 10) _) c.in_default.is c.memchr.ensures

pub returns : goal.returns
returns c = c.in_ok-take_open-2.ensures ∙ ap (batched c.lines.self) (take_rest c.args.bytes.now c.lines.from) ∙ c.lines.invariant.1

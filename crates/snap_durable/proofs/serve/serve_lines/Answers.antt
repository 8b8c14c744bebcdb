use Rattle.std.proofs.Common.{ℕ, [], ◌<◌, length, take, arith, sym, subst}
use Rattle.std.specs.Io.KnownBytes.{Consumes, IsAtEnd}
use Rattle.snap_log.specs.Batches.{Batched}
use Rattle.snap_durable.specs.Parts.{line_limit}
use Rattle.snap_durable.proofs.CameLaws.{Came, at_end_before, came_begun, came_done, came_ended, came_first, came_leaves, came_more, came_stops, if_ok}
use Rattle.snap_durable.proofs.serve.serve_lines.Goals as goal

pub reads-init : goal.reads-init
reads-init g c =
    let first = g.R.Read.remaining c.args.input.now in
    let before = g.W.Write.contents c.args.output.now in
    subst (λ (s : Batched). Came g.T.TakeLine.effect g.T.KeepLine.changes g.T.KeepLine.mark g.T.KeepLine.keeping g.T.KeepLine.settled line_limit c.args.taker.now c.args.log first before c.args.taker.now s c.args.log first before) (sym c.new-batch.ensures)
    (came_first g.T.TakeLine.effect g.T.KeepLine.changes g.T.KeepLine.mark g.T.KeepLine.keeping g.T.KeepLine.settled line_limit c.args.taker.now c.args.log first before)

pub returns-in-Err-clause-crash : goal.returns-in-Err-clause-crash
returns-in-Err-clause-crash g c = λ clean f left.
    let first = g.R.Read.remaining c.args.input.now in
    let before = g.W.Write.contents c.args.output.now in
    came_leaves g.T.TakeLine.effect g.T.KeepLine.changes g.T.KeepLine.mark g.T.KeepLine.keeping g.T.KeepLine.settled line_limit c.args.taker.now c.args.log first before _ _ c.args.log first before
    (came_first g.T.TakeLine.effect g.T.KeepLine.changes g.T.KeepLine.mark g.T.KeepLine.keeping g.T.KeepLine.settled line_limit c.args.taker.now c.args.log first before) f clean left

pub reads-preserved : goal.reads-preserved
reads-preserved g c =
    came_more g.T.TakeLine.effect g.T.KeepLine.changes g.T.KeepLine.mark g.T.KeepLine.keeping g.T.KeepLine.settled line_limit c.args.taker.now c.args.log (g.R.Read.remaining c.args.input.now) (g.W.Write.contents c.args.output.now) _ _ _ _ _ _ _ _ _ _ _
    c.reads.invariant c.in-Ok-read.ensures.bytes.0 c.in-Ok-take_read.ensures.went

-- the end of the input
pub returns-in-Ok-eq0-clause-done : goal.returns-in-Ok-eq0-clause-done
returns-in-Ok-eq0-clause-done g c =
    let room : 0 < length c.read.new.buf = omega arith in
    let at_end : IsAtEnd (g.R.Read.remaining c.read.new.self) = c.in-Ok-eq0.ensures.bytes.1 c.in-Ok-eq0.field-0-test room in
    let none : Consumes (g.R.Read.remaining c.reads.input) (g.R.Read.remaining c.read.new.self) [] =
    subst (λ (n : ℕ). Consumes (g.R.Read.remaining c.reads.input) (g.R.Read.remaining c.read.new.self) (take n c.read.new.buf)) c.in-Ok-eq0.field-0-test c.in-Ok-eq0.ensures.bytes.0 in
    if_ok c.finish.result
    (λ log_new ends. came_done g.T.TakeLine.effect g.T.KeepLine.changes g.T.KeepLine.mark g.T.KeepLine.keeping g.T.KeepLine.settled line_limit c.args.taker.now c.args.log (g.R.Read.remaining c.args.input.now) (g.W.Write.contents c.args.output.now) _ _ c.reads.log _ _ c.reads.invariant
    _ log_new _ (at_end_before _ _ none at_end) ends)
    c.finish.ensures.ok

pub returns-in-Ok-eq0-clause-crash : goal.returns-in-Ok-eq0-clause-crash
returns-in-Ok-eq0-clause-crash g c = λ clean f left.
    let room : 0 < length c.read.new.buf = omega arith in
    let at_end : IsAtEnd (g.R.Read.remaining c.read.new.self) = c.in-Ok-eq0.ensures.bytes.1 c.in-Ok-eq0.field-0-test room in
    let none : Consumes (g.R.Read.remaining c.reads.input) (g.R.Read.remaining c.read.new.self) [] =
    subst (λ (n : ℕ). Consumes (g.R.Read.remaining c.reads.input) (g.R.Read.remaining c.read.new.self) (take n c.read.new.buf)) c.in-Ok-eq0.field-0-test c.in-Ok-eq0.ensures.bytes.0 in
    came_ended g.T.TakeLine.effect g.T.KeepLine.changes g.T.KeepLine.mark g.T.KeepLine.keeping g.T.KeepLine.settled line_limit c.args.taker.now c.args.log (g.R.Read.remaining c.args.input.now) (g.W.Write.contents c.args.output.now) _ _ c.reads.log _ _ c.reads.invariant
    _ _ c.finish.result f (at_end_before _ _ none at_end) c.finish.ensures.ok c.finish.ensures.crash c.finish.ensures.clean clean left

-- a crash
pub returns-in-Err-take_read-clause-crash : goal.returns-in-Err-take_read-clause-crash
returns-in-Err-take_read-clause-crash g c = λ clean f left.
    came_stops g.T.TakeLine.effect g.T.KeepLine.changes g.T.KeepLine.mark g.T.KeepLine.keeping g.T.KeepLine.settled line_limit c.args.taker.now c.args.log (g.R.Read.remaining c.args.input.now) (g.W.Write.contents c.args.output.now) _ _ c.reads.log _ _ c.reads.invariant
    _ _ _ f c.in-Ok-read.ensures.bytes.0 (c.in-Err-take_read.ensures.clean clean) (c.in-Err-take_read.ensures.crash clean f left)

pub returns-in-Err-read-clause-crash : goal.returns-in-Err-read-clause-crash
returns-in-Err-read-clause-crash g c = λ clean f left.
    came_leaves g.T.TakeLine.effect g.T.KeepLine.changes g.T.KeepLine.mark g.T.KeepLine.keeping g.T.KeepLine.settled line_limit c.args.taker.now c.args.log (g.R.Read.remaining c.args.input.now) (g.W.Write.contents c.args.output.now) _ _ c.reads.log _ _ c.reads.invariant f clean left

pub returns-clause-crash : goal.returns-clause-crash
returns-clause-crash g c = λ clean f left.
    came_leaves g.T.TakeLine.effect g.T.KeepLine.changes g.T.KeepLine.mark g.T.KeepLine.keeping g.T.KeepLine.settled line_limit c.args.taker.now c.args.log (g.R.Read.remaining c.args.input.now) (g.W.Write.contents c.args.output.now) _ _ c.reads.log _ _ c.reads.invariant f clean left

-- no whole line is left between two reads
pub finish-requires : goal.finish-requires
finish-requires g c =
    came_begun g.T.TakeLine.effect g.T.KeepLine.changes g.T.KeepLine.mark g.T.KeepLine.keeping g.T.KeepLine.settled line_limit c.args.taker.now c.args.log (g.R.Read.remaining c.args.input.now) (g.W.Write.contents c.args.output.now) _ _ _ _ _ c.reads.invariant

pub take_read-requires : goal.take_read-requires
take_read-requires g c =
    came_begun g.T.TakeLine.effect g.T.KeepLine.changes g.T.KeepLine.mark g.T.KeepLine.keeping g.T.KeepLine.settled line_limit c.args.taker.now c.args.log (g.R.Read.remaining c.args.input.now) (g.W.Write.contents c.args.output.now) _ _ _ _ _ c.reads.invariant

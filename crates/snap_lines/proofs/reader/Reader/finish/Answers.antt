use Rattle.std.proofs.Common.{◌≡◌, length, true, false, sym, ap, ◌∙◌, subst}
use Rattle.std.specs.Prelude.{◌==◌}
use Rattle.snap_lines.specs.Lines.{is_open}
use Rattle.snap_lines.specs.Runs.{Behind, within, line_in, LeavesLine, StopsAtEnd}
use Rattle.snap_lines.proofs.TranscriptLaws.{on_ok, if_err, empty_list, more_list, none_is, end_none, end_ok, end_value, end_stops}
use Rattle.snap_lines.proofs.reader.Reader.finish.Goals as goal

pub returns-then-is_empty-clause-ok : goal.returns-then-is_empty-clause-ok
returns-then-is_empty-clause-ok g c =
    let e : (length c.args.self.now.pending == 0) ≡ true = ap (λ (z : Behind). length z.pending == 0) (sym c.self.view_is) ∙ ap (λ l. length l == 0) (sym c.as_slice.ensures.value) ∙ sym c.is_empty.ensures ∙ c.if-is_empty.true in
    end_none g.T.TakeLine.effect (within c.args.self.now c.args.taker.now) _ (empty_list _ e)

pub returns-then-is_empty-clause-value : goal.returns-then-is_empty-clause-value
returns-then-is_empty-clause-value g c =
    let e : (length c.args.self.now.pending == 0) ≡ true = ap (λ (z : Behind). length z.pending == 0) (sym c.self.view_is) ∙ ap (λ l. length l == 0) (sym c.as_slice.ensures.value) ∙ sym c.is_empty.ensures ∙ c.if-is_empty.true in
    ap (λ z. z.value) (none_is g.T.TakeLine.effect (within c.args.self.now c.args.taker.now) (empty_list _ e))

pub returns-clause-ok : goal.returns-clause-ok
returns-clause-ok g c =
    let no_feed = subst (λ (z : Behind). is_open z.pending ≡ true) c.self.view_is c.self.invariant.1 in
    let e : (length c.args.self.now.pending == 0) ≡ false = ap (λ (z : Behind). length z.pending == 0) (sym c.self.view_is) ∙ ap (λ l. length l == 0) (sym c.as_slice.ensures.value) ∙ sym c.is_empty.ensures ∙ c.if-is_empty.false in
    on_ok c.take_line.result (end_ok g.T.TakeLine.effect (within c.args.self.now c.args.taker.now) (within c.take_line.new.self c.take_line.new.taker) _ _ no_feed (more_list _ e)) c.take_line.ensures.ok

pub returns-clause-value : goal.returns-clause-value
returns-clause-value g c =
    let no_feed = subst (λ (z : Behind). is_open z.pending ≡ true) c.self.view_is c.self.invariant.1 in
    let e : (length c.args.self.now.pending == 0) ≡ false = ap (λ (z : Behind). length z.pending == 0) (sym c.self.view_is) ∙ ap (λ l. length l == 0) (sym c.as_slice.ensures.value) ∙ sym c.is_empty.ensures ∙ c.if-is_empty.false in
    on_ok c.take_line.result (end_value g.T.TakeLine.effect (within c.args.self.now c.args.taker.now) (within c.take_line.new.self c.take_line.new.taker) _ _ no_feed (more_list _ e)) c.take_line.ensures.ok

pub returns-clause-err : goal.returns-clause-err
returns-clause-err g c =
    let no_feed = subst (λ (z : Behind). is_open z.pending ≡ true) c.self.view_is c.self.invariant.1 in
    let e : (length c.args.self.now.pending == 0) ≡ false = ap (λ (z : Behind). length z.pending == 0) (sym c.self.view_is) ∙ ap (λ l. length l == 0) (sym c.as_slice.ensures.value) ∙ sym c.is_empty.ensures ∙ c.if-is_empty.false in
    let effect = g.T.TakeLine.effect in
    let old = within c.args.self.now c.args.taker.now in
    let x = g.W.Write.contents c.args.output.now in
    let y = g.W.Write.contents c.take_line.new.output in
    if_err {P = λ stop. LeavesLine effect old (line_in c.args.self.now.pending false) stop x y} {Q = λ stop. StopsAtEnd effect old stop x y} c.take_line.result
    (λ stop h. end_stops effect old stop x y no_feed (more_list _ e) h) c.take_line.ensures.err

use Rattle.std.proofs.Common.{◌≡◌, ◌≤◌, length, true, false, refl, sym, ap, ◌∙◌, subst}
use Rattle.std.proofs.lemmas.Result.{err_from_is_err_and}
use Rattle.snap_lines.specs.Effects.{text_bytes}
use Rattle.snap_lines.specs.Lines.{is_open}
use Rattle.snap_lines.specs.Transcripts.{next_line, passes}
use Rattle.snap_lines.specs.Runs.{Behind, within, kept_length, line_in, LeavesLine}
use Rattle.snap_lines.specs.declared.stop.Stop.{Stop}
use Rattle.snap_lines.proofs.TranscriptLaws.{err_is, effect_over, effect_fits, leaves_refused, leaves_broken, run_after, line_len}
use Rattle.snap_lines.proofs.reader.Reader.take_line.Goals as goal

pub returns-clause-ok : goal.returns-clause-ok
returns-clause-ok g c =
    let effect = g.T.TakeLine.effect in
    let pending = ap length c.as_slice-line.ensures.value ∙ ap (λ (z : Behind). length z.pending) c.self.view_is in
    let len = line_len c.args.self.now.pending c.args.ended (length c.as_slice-line.result.now) c.from.result pending c.from.ensures in
    let fits : passes c.args.self.now.left (length (line_in c.args.self.now.pending c.args.ended)) ≡ false =
    ap (λ (z : Behind). passes z.left (length (line_in c.args.self.now.pending c.args.ended))) (sym c.self.view_is) ∙ ap (passes c.self.inside.left) (sym len) ∙ sym c.passes.ensures ∙ c.if-passes.false in
    let no_feed = subst (λ (z : Behind). is_open z.pending ≡ true) c.self.view_is c.self.invariant.1 in
    let short = subst (λ (z : Behind). length z.pending ≤ kept_length z.left) c.self.view_is c.self.invariant.0 in
    let same = ap (λ (z : Behind). effect c.args.taker.now z.pending) (sym c.self.view_is) ∙ ap (effect c.args.taker.now) (sym c.as_slice-line.ensures.value) in (
      text_bytes c.in_ok-text.text,
      effect_fits effect (within c.args.self.now c.args.taker.now).place c.args.self.now.pending c.args.ended no_feed short fits ∙ same ∙ c.in_ok-text.ensures.ok,
      run_after _ _ _ _ _ _ _ _ c.args.taker.now _ _ c.self.view_is c.saturating_add-self-inside.ensures c.left_after-self-inside.ensures len c.clear.ensures.items,
      c.in_ok-write_text.ensures.ok,
    )

pub returns-then-passes-clause-err : goal.returns-then-passes-clause-err
returns-then-passes-clause-err g c =
    let effect = g.T.TakeLine.effect in
    let old = within c.args.self.now c.args.taker.now in
    let line = line_in c.args.self.now.pending c.args.ended in
    let x = g.W.Write.contents c.args.output.now in
    let pending = ap length c.as_slice-line.ensures.value ∙ ap (λ (z : Behind). length z.pending) c.self.view_is in
    let len = line_len c.args.self.now.pending c.args.ended (length c.as_slice-line.result.now) c.from.result pending c.from.ensures in
    let over : passes c.args.self.now.left (length (line_in c.args.self.now.pending c.args.ended)) ≡ true =
    ap (λ (z : Behind). passes z.left (length (line_in c.args.self.now.pending c.args.ended))) (sym c.self.view_is) ∙ ap (passes c.self.inside.left) (sym len) ∙ sym c.passes.ensures ∙ c.if-passes.true in
    subst (λ (s : Stop). LeavesLine effect old line s x x) (sym c.fault.ensures) ((effect_over effect old.place line over, ap (λ (z : Behind). next_line z.lines) c.self.view_is), refl)

pub returns-in_err-text-clause-err : goal.returns-in_err-text-clause-err
returns-in_err-text-clause-err g c =
    let effect = g.T.TakeLine.effect in
    let old = within c.args.self.now c.args.taker.now in
    let p = err_from_is_err_and c.from_residual.result c.from_residual.ensures.1 in
    let pending = ap length c.as_slice-line.ensures.value ∙ ap (λ (z : Behind). length z.pending) c.self.view_is in
    let len = line_len c.args.self.now.pending c.args.ended (length c.as_slice-line.result.now) c.from.result pending c.from.ensures in
    let fits : passes c.args.self.now.left (length (line_in c.args.self.now.pending c.args.ended)) ≡ false =
    ap (λ (z : Behind). passes z.left (length (line_in c.args.self.now.pending c.args.ended))) (sym c.self.view_is) ∙ ap (passes c.self.inside.left) (sym len) ∙ sym c.passes.ensures ∙ c.if-passes.false in
    let no_feed = subst (λ (z : Behind). is_open z.pending ≡ true) c.self.view_is c.self.invariant.1 in
    let short = subst (λ (z : Behind). length z.pending ≤ kept_length z.left) c.self.view_is c.self.invariant.0 in
    let same = ap (λ (z : Behind). effect c.args.taker.now z.pending) (sym c.self.view_is) ∙ ap (effect c.args.taker.now) (sym c.as_slice-line.ensures.value) in
    err_is _ c.from_residual.result p.0 c.in_err-text.field-0.0 p.1 (cc p.2)
    (leaves_refused effect old (line_in c.args.self.now.pending c.args.ended) _ c.self.inside.lines c.in_err-text.field-0.0 (g.W.Write.contents c.args.output.now)
    (effect_fits effect old.place c.args.self.now.pending c.args.ended no_feed short fits ∙ same) (ap (λ (z : Behind). z.lines) c.self.view_is) c.in_err-text.ensures.err)

pub returns-in_err-write_text-clause-err : goal.returns-in_err-write_text-clause-err
returns-in_err-write_text-clause-err g c =
    let effect = g.T.TakeLine.effect in
    let old = within c.args.self.now c.args.taker.now in
    let p = err_from_is_err_and c.from_residual-in_err-write_text.result c.from_residual-in_err-write_text.ensures.1 in
    let pending = ap length c.as_slice-line.ensures.value ∙ ap (λ (z : Behind). length z.pending) c.self.view_is in
    let len = line_len c.args.self.now.pending c.args.ended (length c.as_slice-line.result.now) c.from.result pending c.from.ensures in
    let fits : passes c.args.self.now.left (length (line_in c.args.self.now.pending c.args.ended)) ≡ false =
    ap (λ (z : Behind). passes z.left (length (line_in c.args.self.now.pending c.args.ended))) (sym c.self.view_is) ∙ ap (passes c.self.inside.left) (sym len) ∙ sym c.passes.ensures ∙ c.if-passes.false in
    let no_feed = subst (λ (z : Behind). is_open z.pending ≡ true) c.self.view_is c.self.invariant.1 in
    let short = subst (λ (z : Behind). length z.pending ≤ kept_length z.left) c.self.view_is c.self.invariant.0 in
    let same = ap (λ (z : Behind). effect c.args.taker.now z.pending) (sym c.self.view_is) ∙ ap (effect c.args.taker.now) (sym c.as_slice-line.ensures.value) in
    err_is _ c.from_residual-in_err-write_text.result p.0 c.in_err-write_text.field-0.0 p.1 (cc p.2)
    (leaves_broken effect old (line_in c.args.self.now.pending c.args.ended) _ c.in_err-write_text.field-0.0 _ _
    (effect_fits effect old.place c.args.self.now.pending c.args.ended no_feed short fits ∙ same ∙ c.in_ok-text.ensures.ok) c.in_err-write_text.ensures.err)

use Rattle.std.proofs.Common.{◌≡◌, ◌≤◌, ◌<◌, ℕ, [], ◌∷◌, length, true, refl, sym, ap, ◌∙◌, subst}
use Rattle.std.specs.Prelude.{is_some}
use Rattle.std.proofs.lemmas.Bool.{ne_eqb}
use Rattle.std.proofs.lemmas.Result.{err_from_is_err_and}
use Rattle.snap_path.specs.Memory.{no_memory}
use Rattle.snap_script.specs.declared.fault.Fault.TheVariants.{TooLong}
use Rattle.snap_lines.specs.Lines.{is_open}
use Rattle.snap_script.specs.Lines.{max_line}
use Rattle.snap_lines.specs.Transcripts.{next_line}
use Rattle.snap_lines.specs.Runs.{Behind, within, kept_length, Goes, StopsIn}
use Rattle.snap_lines.specs.declared.stop.Stop.{Stop}
use Rattle.snap_lines.specs.declared.stop.Stop.TheVariants.{OutOfMemory}
use Rattle.snap_lines.proofs.TranscriptLaws.{on_ok, if_err, err_is, newline_goes, newline_stops, open_one, open_run, cut_goes, is_cut, long_ends, stops_before}
use Rattle.snap_lines.proofs.reader.Reader.take_byte.Goals as goal

pub returns-then-b-eq10-clause-ok : goal.returns-then-b-eq10-clause-ok
returns-then-b-eq10-clause-ok g c =
    let effect = g.T.TakeLine.effect in
    let old = within c.args.self.now c.args.taker.now in
    let new = within c.take_line.new.self c.take_line.new.taker in
    let no_feed = subst (λ (z : Behind). is_open z.pending ≡ true) c.self.view_is c.self.invariant.1 in
    on_ok c.take_line.result (λ t. subst (λ (b : ℕ). Goes effect old (b ∷ []) new (g.W.Write.contents c.args.output.now) (g.W.Write.contents c.take_line.new.output))
    (sym c.if-b-eq10.true) (newline_goes effect old new _ _ no_feed t)) c.take_line.ensures.ok

pub returns-then-b-eq10-clause-err : goal.returns-then-b-eq10-clause-err
returns-then-b-eq10-clause-err g c =
    let effect = g.T.TakeLine.effect in
    let old = within c.args.self.now c.args.taker.now in
    let no_feed = subst (λ (z : Behind). is_open z.pending ≡ true) c.self.view_is c.self.invariant.1 in
    if_err c.take_line.result (λ stop h. subst (λ (b : ℕ). StopsIn effect old (b ∷ []) stop (g.W.Write.contents c.args.output.now) (g.W.Write.contents c.take_line.new.output))
    (sym c.if-b-eq10.true) (newline_stops effect old stop _ _ no_feed h)) c.take_line.ensures.err

pub returns-clause-ok : goal.returns-clause-ok
returns-clause-ok g c = open_run g.T.TakeLine.effect c.args.taker.now _ _ _ _ _ c.self.view_is (c.args.b ∷ []) _ (open_one c.args.b (ne_eqb _ _ c.if-b-eq10.false)) c.in_ok-push.ensures.items

pub returns-then-len-gt-MAX_LINE_BYTES-clause-ok : goal.returns-then-len-gt-MAX_LINE_BYTES-clause-ok
returns-then-len-gt-MAX_LINE_BYTES-clause-ok g c =
    let no_feed = subst (λ (z : Behind). is_open z.pending ≡ true) c.self.view_is c.self.invariant.1 in
    let fits = subst (λ (z : Behind). length z.pending ≤ kept_length z.left) c.self.view_is c.self.invariant.0 in
    let len = ap length c.as_slice-len.ensures.value ∙ ap (λ (z : Behind). length z.pending) c.self.view_is in
    let cut = is_cut c.args.self.now.left (length c.args.self.now.pending) fits (subst (λ n. max_line < n) len c.if-len-gt-MAX_LINE_BYTES.true) in
    cut_goes g.T.TakeLine.effect (within c.args.self.now c.args.taker.now) c.args.b _ (ne_eqb _ _ c.if-b-eq10.false) no_feed cut.0 cut.1

pub returns-then-is_some-clause-err : goal.returns-then-is_some-clause-err
returns-then-is_some-clause-err g c =
    let effect = g.T.TakeLine.effect in
    let old = within c.args.self.now c.args.taker.now in
    let x = g.W.Write.contents c.args.output.now in
    let no_feed = subst (λ (z : Behind). is_open z.pending ≡ true) c.self.view_is c.self.invariant.1 in
    let limited = ap (λ (z : Behind). is_some z.left) (sym c.self.view_is) ∙ sym c.is_some.ensures ∙ c.if-is_some.true in
    subst (λ (s : Stop). StopsIn effect old (c.args.b ∷ []) s x x) (sym c.fault.ensures)
    (long_ends effect old c.args.b (record { line = next_line c.self.inside.lines; cause = TooLong }) x no_feed (ne_eqb _ _ c.if-b-eq10.false) limited
    (ap (λ (z : Behind). length z.pending) (sym c.self.view_is) ∙ ap length (sym c.as_slice-len.ensures.value) ∙ c.if-len-eq-MAX_LINE_BYTES.true)
    (ap (λ (z : Behind). record { line = next_line z.lines; cause = TooLong }) c.self.view_is))

pub returns-in_err-push-clause-err : goal.returns-in_err-push-clause-err
returns-in_err-push-clause-err g c =
    let p = err_from_is_err_and c.from_residual.result c.from_residual.ensures.1 in
    err_is _ c.from_residual.result p.0 (OutOfMemory no_memory) p.1 (cc p.2) (stops_before g.T.TakeLine.effect (within c.args.self.now c.args.taker.now) (c.args.b ∷ []) no_memory _ _ refl)

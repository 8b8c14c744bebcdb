use Rattle.std.proofs.Common.{◌≡◌, ◌≤◌, ◌-◌, length, refl, sym, ap, ◌∙◌, subst, arith, length-append}
use Rattle.std.proofs.lemmas.Result.{err_from_is_err_and}
use Rattle.snap_path.specs.Memory.{no_memory}
use Rattle.snap_script.specs.Lines.{max_line}
use Rattle.snap_lines.specs.Lines.{is_open}
use Rattle.snap_lines.specs.Runs.{kept_length, within}
use Rattle.snap_lines.specs.declared.stop.Stop.TheVariants.{OutOfMemory}
use Rattle.snap_lines.proofs.FeedLaws.{kept_more, open_both, open_is}
use Rattle.snap_lines.proofs.TranscriptLaws.{err_is, open_run, stops_before}
use Rattle.snap_lines.proofs.reader.Reader.take_open.Goals as goal

pub returns-clause-ok : goal.returns-clause-ok
returns-clause-ok g c = open_run g.T.TakeLine.effect c.args.taker.now _ _ _ _ _ c.self.view_is c.args.bytes.now _ (open_is c.args.bytes.now c.requires) c.in_ok-extend_from_slice.ensures.items

pub returns-in_err-extend_from_slice-clause-err : goal.returns-in_err-extend_from_slice-clause-err
returns-in_err-extend_from_slice-clause-err g c =
    let p = err_from_is_err_and c.from_residual.result c.from_residual.ensures.1 in
    err_is _ c.from_residual.result p.0 (OutOfMemory no_memory) p.1 (cc p.2) (stops_before g.T.TakeLine.effect (within c.args.self.now c.args.taker.now) c.args.bytes.now no_memory _ _ refl)

pub invariant_of-self-2 : goal.invariant_of-self-2
invariant_of-self-2 g c =
    let p = c.self.inside.pending.items in
    let bytes = c.args.bytes.now in
    let items = c.in_ok-extend_from_slice.ensures.items in
    let len : length c.as_slice-len.result.now ≡ length p = ap length c.as_slice-len.ensures.value in
    let room : length bytes ≤ max_line - length p = omega (arith, c.if-bytes-saturating_sub.false, c.saturating_sub.ensures, len) in
    let kept = kept_more c.self.inside.left (length p) (length bytes) c.self.invariant.0 room in (
      subst (λ n. n ≤ kept_length c.self.inside.left) (sym (ap length items ∙ length-append p bytes)) kept,
      ap is_open items ∙ open_both p bytes c.self.invariant.1 (open_is bytes c.requires),
    )

use Rattle.std.specs.Prelude.{get_or, take}
use Rattle.std.proofs.Common.{ℕ, ◌+◌, List, ◌++◌, Option, sym, ap, ◌∙◌}
use Rattle.snap_usage.specs.Counted.{no_usage}
use Rattle.snap_script.specs.declared.fault.Field.{Field}
use Rattle.snap_writers.specs.declared.job.Ended.{Ended}
use Rattle.snap_writers.specs.declared.job.Ended.TheVariants.{Committed}
use Rattle.snap_jobs.specs.Ends.{end_line, end_lines, end_told}
use Rattle.snap_jobs.proofs.Telling.{lines_more}
use Rattle.snap_jobs.proofs.ends.end_lines.Goals as goal

pub loop-place-preserved : goal.loop-place-preserved
loop-place-preserved c =
    let tells = end_told c.args.rule c.args.jobs.now in
    let ends = c.args.ends.now in
    let i = c.loop-place.place in
    let other : Ended = Committed 0 no_usage in
    let line = c.as_str.ensures.value ∙ (c.in_ok-line.ensures ∙ ap (λ (of : Option Field). end_line (i + 1) of (get_or ends i other)) c.end_told-of.ensures) in
    c.in_ok-push_str.ensures.bytes
    ∙ (ap (λ (l : List ℕ). l ++ c.as_str.result.now) c.loop-place.invariant
    ∙ (ap (λ (l : List ℕ). end_lines tells 1 (take i ends) ++ l) line ∙ sym (lines_more tells ends i other c.loop-place-test.true)))

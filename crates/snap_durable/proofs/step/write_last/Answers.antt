use Rattle.std.proofs.Common.{◌++◌, ℕ, List, ap, ap₂, ◌∙◌, append_assoc}
use Rattle.snap_log.specs.Staged.{lines_staged}
use Rattle.snap_durable.proofs.step.write_last.Goals as goal

pub returns-clause-written : goal.returns-clause-written
returns-clause-written g c = λ text sum h.
    let before : List ℕ = lines_staged c.args.coming.now.stage in
    let one : List ℕ = c.as_slice.result.now in
    let two : List ℕ = c.as_slice-2.result.now in
    let three : List ℕ = c.as_slice-3.result.now in
    let second = c.push-3.ensures.clean h in
    let first = c.push-2.ensures.clean second in
    c.in_ok-push-3.ensures.pushed h
    ∙ ap (λ (t : List ℕ). t ++ three) (c.in_ok-push-2.ensures.pushed second ∙ ap (λ (t : List ℕ). t ++ two) (c.in_ok-push.ensures.pushed first))
    ∙ append_assoc (before ++ one) two three ∙ append_assoc before one (two ++ three)
    ∙ ap₂ (λ (s t : List ℕ). before ++ (s ++ t)) (c.as_slice.ensures.same ∙ c.in_ok-mark.ensures.text text sum) (ap₂ (λ (s t : List ℕ). s ++ t) c.as_slice-2.ensures.same c.as_slice-3.ensures.same)

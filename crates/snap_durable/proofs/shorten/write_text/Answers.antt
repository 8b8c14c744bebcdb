use Rattle.std.proofs.Common.{◌++◌, ℕ, List, [], ap, ap₂, ◌∙◌, append_assoc}
use Rattle.snap_marks.specs.declared.sums.Sums.{Sums}
use Rattle.snap_pair.specs.Replacing.{lines_coming}
use Rattle.snap_durable.specs.Checkpoints.{saved_text}
use Rattle.snap_durable.proofs.shorten.write_text.Goals as goal

pub returns-clause-coming : goal.returns-clause-coming
returns-clause-coming g c = λ h.
    let before : List ℕ = lines_coming c.args.replacing.now in
    let saved : List ℕ = saved_text c.args.lines in
    let one : List ℕ = c.as_slice.result.now in
    let two : List ℕ = c.as_slice-2.result.now in
    let middle = c.push-2.ensures.clean h in
    c.in_ok-push-2.ensures.pushed h
    ∙ ap (λ (t : List ℕ). t ++ two) (c.in_ok-sums.ensures.coming middle ∙ ap (λ (t : List ℕ). t ++ saved) (c.in_ok-push.ensures.pushed (c.write_lines.ensures.clean middle)))
    ∙ append_assoc (before ++ one) saved two ∙ append_assoc before one (saved ++ two)
    ∙ ap₂ (λ (s t : List ℕ). before ++ (s ++ (saved ++ t))) (c.as_slice.ensures.same ∙ c.in_ok-first.ensures.text [] (ap (λ (s : Sums). s.lines) c.new.ensures)) (c.as_slice-2.ensures.same ∙ c.in_ok-mark.ensures.text saved c.in_ok-sums.ensures.sum)

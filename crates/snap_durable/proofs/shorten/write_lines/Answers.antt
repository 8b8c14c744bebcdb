use Rattle.std.proofs.Common.{◌≡◌, ◌++◌, ℕ, List, ap, ◌∙◌, append_assoc}
use Rattle.snap_pair.specs.Replacing.{lines_coming}
use Rattle.snap_durable.specs.Checkpoints.{saved_text}
use Rattle.snap_durable.proofs.shorten.write_lines.Goals as goal

pub parts-preserved : goal.parts-preserved
parts-preserved g c =
    let left : List ℕ = saved_text c.fill.new.lines in
    let text : c.as_slice.result.now ++ left ≡ saved_text c.parts.lines =
    ap (λ (t : List ℕ). t ++ left) c.as_slice.ensures.same ∙ c.in_ok-fill.ensures.text ∙ ap (λ (t : List ℕ). t ++ saved_text c.parts.lines) c.clear.ensures in
    record {
      coming = λ h. ap (λ (t : List ℕ). t ++ left) (c.in_ok-push.ensures.pushed h) ∙ append_assoc (lines_coming c.parts.replacing) c.as_slice.result.now left
          ∙ ap (λ (t : List ℕ). lines_coming c.parts.replacing ++ t) text ∙ c.parts.invariant.coming (c.push.ensures.clean h);
      sum = c.in_ok-fill.ensures.sum ∙ c.parts.invariant.sum;
      told = λ all. c.parts.invariant.told (c.in_ok-fill.ensures.told all);
      long = λ has. c.parts.invariant.long (c.in_ok-fill.ensures.left has);
      counting = c.push.ensures.counting ∙ c.parts.invariant.counting;
      crash = λ before h. c.push.ensures.crash h;
      clean = λ h. c.parts.invariant.clean (c.push.ensures.clean h);
      first = λ h. c.parts.invariant.first (c.push.ensures.first h);
      second = λ h. c.parts.invariant.second (c.push.ensures.second h);
    }

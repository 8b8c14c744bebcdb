use Rattle.std.proofs.Common.{◌≡◌, ◌++◌, ℕ, List, ap, ◌∙◌, append_assoc}
use Rattle.snap_lines.proofs.KnownLaws.{Appends-trans}
use Rattle.snap_durable.specs.Checkpoints.{saved_text}
use Rattle.snap_durable.proofs.moved.write_lines.Goals as goal

pub parts-preserved : goal.parts-preserved
parts-preserved g c =
    let left : List ℕ = saved_text c.fill.new.lines in
    let part : List ℕ = c.as_slice.result.now in
    let before : List ℕ = c.parts.invariant.written.0 in
    let text : part ++ left ≡ saved_text c.parts.lines =
    ap (λ (t : List ℕ). t ++ left) c.as_slice.ensures.same ∙ c.in_ok-fill.ensures.text ∙ ap (λ (t : List ℕ). t ++ saved_text c.parts.lines) c.clear.ensures in
    record {
      written = (
        before ++ part,
        Appends-trans _ _ _ before part c.parts.invariant.written.1 c.in_ok-write_bytes.ensures.ok,
        append_assoc before part left ∙ ap (λ (t : List ℕ). before ++ t) text ∙ c.parts.invariant.written.2,
      );
      told = λ all. c.parts.invariant.told (c.in_ok-fill.ensures.told all);
      long = λ has. c.parts.invariant.long (c.in_ok-fill.ensures.left has);
    }

use Rattle.std.proofs.Common.{◌∙◌, ◌≡◌, ◌++◌, ◌∷◌, [], ℕ, List, ap, append_assoc, subst, sym}
use Rattle.std.proofs.lemmas.Fmt.{contents_after_writes}
use Rattle.std.specs.Fmt.{HasWritten, HasWrittenStyled, decimal, formatter_spec, padded}
use Rattle.arrayvec.specs.ArrayString.{ArrayString}
use Rattle.snap_usage.specs.Counted.{usage_text}
use Rattle.snap_usage.proofs.usage.UsageDisplay.fmt.Goals as goal

pub returns-clause-writes : goal.returns-clause-writes
returns-clause-writes g c =
    let is : c.as_str.result.now ≡ usage_text c.args.self.now =
    c.as_str.ensures.value ∙ contents_after_writes _ (λ (w : ArrayString). w.bytes) (λ w b v e. e) c.new-text.result _ c.write.new.self c.in_ok-write.ensures.writes
    ∙ ap (λ (l : List ℕ). l ++ (decimal c.args.self.now.blocks ++ (47 ∷ decimal c.args.self.now.inodes))) c.new-text.ensures
    ∙ sym (append_assoc (decimal c.args.self.now.blocks) (47 ∷ []) (decimal c.args.self.now.inodes)) in
    λ plain done. subst (λ (t : List ℕ). HasWritten g.W.Write.write_str_gives c.args.f.now t c.pad.new.self) is (c.pad.ensures.writes plain done)

pub returns-clause-styled : goal.returns-clause-styled
returns-clause-styled g c =
    let is : c.as_str.result.now ≡ usage_text c.args.self.now =
    c.as_str.ensures.value ∙ contents_after_writes _ (λ (w : ArrayString). w.bytes) (λ w b v e. e) c.new-text.result _ c.write.new.self c.in_ok-write.ensures.writes
    ∙ ap (λ (l : List ℕ). l ++ (decimal c.args.self.now.blocks ++ (47 ∷ decimal c.args.self.now.inodes))) c.new-text.ensures
    ∙ sym (append_assoc (decimal c.args.self.now.blocks) (47 ∷ []) (decimal c.args.self.now.inodes)) in
    λ flush done. subst (λ (t : List ℕ). HasWrittenStyled g.W.Write.write_str_gives c.args.f.now (padded (formatter_spec c.args.f.now) t) c.pad.new.self) is (c.pad.ensures.styled flush done)

use Rattle.std.proofs.Common.{rules, ◌≡◌, string_bytes, ◌∙◌}
use Rattle.json.specs.Print.{print}
use Rattle.snap_json.proofs.Texts.{print-with_value}
use Rattle.snap_json.proofs.writer.Writer.finish.Goals as goal

pub returns : goal.returns
returns c = λ d written.
    let tokens = c.self.inside.out.tokens in
    let bytes : string_bytes c.in-Ok.text ≡ print tokens = search rules in
    bytes ∙ print-with_value tokens d (c.self.view_is ∙ written)

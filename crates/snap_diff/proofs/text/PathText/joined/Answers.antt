use Rattle.std.proofs.Common.{◌≡◌, List, ℕ, ◌++◌, ◌∷◌, [], subst, ap, ◌∙◌}
use lib.Utf8.{encode}
use Rattle.std.specs.String.{string_bytes}
use Rattle.snap_path.specs.Text.{IsHeld}
use Rattle.snap_diff.proofs.Texts.{kept_text, longer, told_below}
use Rattle.snap_diff.proofs.text.PathText.joined.Goals as goal

made : (c : goal.In_ok-push_str-2) → IsHeld (string_bytes c.push_str-2.new.self) (c.args.self.now ++ c.args.name.now ∷ [])
unfolding encode
made c =
    let text : List ℕ = string_bytes c.self.inside.text in
    let copied : string_bytes c.push_str.new.self ≡ text = c.in_ok-push_str.ensures.bytes ∙ ap (λ (b : List ℕ). b ++ c.as_str-2.result.now) c.in_ok-text.ensures.bytes ∙ c.as_str-2.ensures.value in
    let named : string_bytes c.push_str-2.new.self ≡ (text ++ 47 ∷ []) ++ c.args.name.now =
    c.in_ok-push_str-2.ensures.bytes
    ∙ ap (λ (b : List ℕ). b ++ c.as_str-3.result.now) c.in_ok-push.ensures.bytes
    ∙ ap (λ (b : List ℕ). (b ++ 47 ∷ []) ++ c.as_str-3.result.now) copied
    ∙ ap (λ (n : List ℕ). (text ++ 47 ∷ []) ++ n) c.as_str-3.ensures.value in
    longer text c.args.self.now c.args.name.now (string_bytes c.push_str-2.new.self) (subst (IsHeld text) c.self.view_is c.self.invariant) c.as_str.ensures.valid c.requires named

pub invariant_of-result : goal.invariant_of-result
invariant_of-result c = kept_text (c.args.self.now ++ c.args.name.now ∷ []) (string_bytes c.push_str-2.new.self) (made c).1 (made c).0

pub returns : goal.returns
returns c = told_below (c.args.self.now ++ c.args.name.now ∷ []) (string_bytes c.push_str-2.new.self) (made c).1 (made c).0

use Rattle.std.proofs.Common.{◌≡◌, ◌≤◌, List, ℕ, ◌++◌, ◌∷◌, [], length, sym, ap, subst, ◌∙◌}
use lib.Utf8.{encode}
use Rattle.std.specs.String.{string_bytes}
use Rattle.snap_path.specs.Text.{text_below, IsHeld}
use Rattle.snap_path.proofs.Texts.{IsHeld_push}
use Rattle.snap_path.proofs.path.Path.joined.Goals as goal
use Rattle.snap_path.specs.Limits.{most_path_bytes}

pub invariant_of-path : goal.invariant_of-path
unfolding encode
invariant_of-path c =
    let same : c.path.inside.names.items ≡ c.args.self.now = c.path.view_is ∙ c.in_ok-path.ensures.ok ∙ c.deref.ensures.value ∙ c.self.view_is in
    let fits : length (text_below (c.path.inside.names.items ++ c.args.name.now ∷ [])) ≤ most_path_bytes = rw same c.requires in
    let pushed = IsHeld_push (string_bytes c.path.inside.text) c.path.inside.names.items c.args.name.now c.path.invariant c.as_str.ensures.valid fits in
    let text : string_bytes c.push_str.new.self ≡ (string_bytes c.path.inside.text ++ 47 ∷ []) ++ c.args.name.now = c.in_ok-push_str.ensures.bytes ∙ ap (λ b. b ++ c.as_str.result.now) c.in_ok-push.ensures.bytes ∙ ap (λ n. (string_bytes c.path.inside.text ++ 47 ∷ []) ++ n) c.as_str.ensures.value in
    let names : c.push-2.new.self.items ≡ c.path.inside.names.items ++ c.args.name.now ∷ [] = c.in_ok-push-2.ensures.items ∙ ap (λ n. c.path.inside.names.items ++ n ∷ []) c.in_ok-clone.ensures.cases in
    let P : List ℕ → Type 0 = λ t. IsHeld t c.push-2.new.self.items in
    subst P (sym text) (subst (IsHeld ((string_bytes c.path.inside.text ++ 47 ∷ []) ++ c.args.name.now)) (sym names) pushed)

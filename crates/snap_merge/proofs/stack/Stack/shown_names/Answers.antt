use Rattle.std.proofs.Common.{◌≡◌, ◌∷◌, ◌++◌, [], List, Option, sym, ap, ◌∙◌}
use Rattle.std.specs.Prelude.{◌&&◌, is_some}
use Rattle.std.specs.Option.{option_copied, option_to_list}
use Rattle.std.specs.Borrow.{Bor}
use Rattle.snap_path.specs.Text.{Names}
use Rattle.snap_layer.specs.Tree.{Tree}
use Rattle.snap_merge.specs.Objects.{seen}
use Rattle.snap_merge.specs.Shares.{seen_so_far}
use Rattle.snap_merge.proofs.Sharing.{told_last}
use Rattle.snap_merge.proofs.stack.Stack.shown_names.Goals as goal

pub returns-then-not-branch : goal.returns-then-not-branch
returns-then-not-branch c = λ n.
    let layers : c.args.self.now ≡ c.in-Some.top.now ∷ c.self.inside.lowers.now = sym c.self.view_is ∙ ap (λ (o : Option (Bor Tree)). option_to_list (option_copied o) ++ c.self.inside.lowers.now) c.in-Some.is in
    let q = c.args.path.now ++ n ∷ [] in
    sym (told_last c.put_layer.new.shown.keys c.put_layer.new.gone.keys n)
    ∙ ap (λ b. seen_so_far c.put_layer.new.shown.keys c.put_layer.new.gone.keys n (b && is_some (seen c.self.inside.lowers.now q))) (sym c.if-not-branch.true)
    ∙ c.in_ok-put_layer.ensures n (seen c.self.inside.lowers.now q)
    ∙ ap (λ (ks : Names). seen_so_far ks c.new-gone.result.keys n (is_some (seen (c.in-Some.top.now ∷ c.self.inside.lowers.now) q))) c.new-shown.ensures.empty
    ∙ ap (λ (ks : Names). seen_so_far [] ks n (is_some (seen (c.in-Some.top.now ∷ c.self.inside.lowers.now) q))) c.new-gone.ensures.empty
    ∙ ap (λ (s : List Tree). is_some (seen s q)) (sym layers)

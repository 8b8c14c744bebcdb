use Rattle.std.proofs.Common.{◌≡◌, ◌∷◌, ◌++◌, [], List, ℕ, not, Option, sym, ap, ◌∙◌}
use Rattle.std.specs.Prelude.{◌&&◌, is_some}
use Rattle.std.specs.Option.{option_copied, option_to_list}
use Rattle.std.specs.Borrow.{Bor}
use Rattle.std.specs.BTreeSet.{BTreeSet}
use Rattle.snap_path.specs.Text.{Names}
use Rattle.snap_layer.specs.Tree.{Tree}
use Rattle.snap_merge.specs.Objects.{seen}
use Rattle.snap_merge.specs.Shares.{has, seen_so_far}
use Rattle.snap_merge.proofs.Sharing.{told_last, told_some, empty_of, any_some, any_names, nil_of}
use Rattle.snap_merge.proofs.stack.Stack.has_names.Goals as goal
use Rattle.snap_merge.proofs.stack.Stack.has_names.Goals.{in-Some+in_ok-goes_on+else-not-goes_on+else-not-is_empty, in_default}

pub returns-then-not-goes_on : goal.returns-then-not-goes_on
returns-then-not-goes_on c =
    let layers : c.args.self.now ≡ c.in-Some.top.now ∷ c.self.inside.lowers.now = sym c.self.view_is ∙ ap (λ (o : Option (Bor Tree)). option_to_list (option_copied o) ++ c.self.inside.lowers.now) c.in-Some.is in
    let step : (n : List ℕ) → seen_so_far c.put_layer.new.shown.keys c.put_layer.new.gone.keys n (c.in_ok-goes_on.goes_on && is_some (seen c.self.inside.lowers.now (c.args.path.now ++ n ∷ []))) ≡ is_some (seen c.args.self.now (c.args.path.now ++ n ∷ [])) =
    λ n. c.in_ok-goes_on.ensures n (seen c.self.inside.lowers.now (c.args.path.now ++ n ∷ []))
    ∙ ap (λ (ks : Names). seen_so_far ks c.new-gone.result.keys n (is_some (seen (c.in-Some.top.now ∷ c.self.inside.lowers.now) (c.args.path.now ++ n ∷ [])))) c.new-shown.ensures.empty
    ∙ ap (λ (ks : Names). seen_so_far [] ks n (is_some (seen (c.in-Some.top.now ∷ c.self.inside.lowers.now) (c.args.path.now ++ n ∷ [])))) c.new-gone.ensures.empty
    ∙ ap (λ (s : List Tree). is_some (seen s (c.args.path.now ++ n ∷ []))) (sym layers) in
    empty_of c.is_empty.result c.put_layer.new.shown.keys c.is_empty.ensures
    ∙ any_names c.put_layer.new.shown.keys c.args.self.now c.args.path.now
    (λ n h. sym (step n) ∙ told_some c.put_layer.new.shown.keys c.put_layer.new.gone.keys n (c.in_ok-goes_on.goes_on && is_some (seen c.self.inside.lowers.now (c.args.path.now ++ n ∷ []))) h)
    (λ e n. sym (step n) ∙ ap (λ b. seen_so_far c.put_layer.new.shown.keys c.put_layer.new.gone.keys n (b && is_some (seen c.self.inside.lowers.now (c.args.path.now ++ n ∷ [])))) c.if-not-goes_on.true ∙ told_last c.put_layer.new.shown.keys c.put_layer.new.gone.keys n ∙ ap (has n) e)

pub returns-then-not-is_empty : goal.returns-then-not-is_empty
returns-then-not-is_empty c =
    let layers : c.args.self.now ≡ c.in-Some.top.now ∷ c.self.inside.lowers.now = sym c.self.view_is ∙ ap (λ (o : Option (Bor Tree)). option_to_list (option_copied o) ++ c.self.inside.lowers.now) c.in-Some.is in
    let step : (n : List ℕ) → seen_so_far c.put_layer.new.shown.keys c.put_layer.new.gone.keys n (c.in_ok-goes_on.goes_on && is_some (seen c.self.inside.lowers.now (c.args.path.now ++ n ∷ []))) ≡ is_some (seen c.args.self.now (c.args.path.now ++ n ∷ [])) =
    λ n. c.in_ok-goes_on.ensures n (seen c.self.inside.lowers.now (c.args.path.now ++ n ∷ []))
    ∙ ap (λ (ks : Names). seen_so_far ks c.new-gone.result.keys n (is_some (seen (c.in-Some.top.now ∷ c.self.inside.lowers.now) (c.args.path.now ++ n ∷ [])))) c.new-shown.ensures.empty
    ∙ ap (λ (ks : Names). seen_so_far [] ks n (is_some (seen (c.in-Some.top.now ∷ c.self.inside.lowers.now) (c.args.path.now ++ n ∷ [])))) c.new-gone.ensures.empty
    ∙ ap (λ (s : List Tree). is_some (seen s (c.args.path.now ++ n ∷ []))) (sym layers) in
    sym (any_some c.put_layer.new.shown.keys c.args.self.now c.args.path.now
    (sym (ap not (sym c.if-not-is_empty.true) ∙ empty_of c.is_empty-in-Some.result c.put_layer.new.shown.keys c.is_empty-in-Some.ensures))
    (λ n h. sym (step n) ∙ told_some c.put_layer.new.shown.keys c.put_layer.new.gone.keys n (c.in_ok-goes_on.goes_on && is_some (seen c.self.inside.lowers.now (c.args.path.now ++ n ∷ []))) h))

pub returns : goal.returns
returns c =
    let whole : (n : List ℕ) → seen_so_far [] c.match-self.gone.keys n (is_some (seen c.self.inside.lowers.now (c.args.path.now ++ n ∷ []))) ≡ is_some (seen c.args.self.now (c.args.path.now ++ n ∷ [])) =
    elim c.match-self.branch [
      | in-Some+in_ok-goes_on+else-not-goes_on+else-not-is_empty w ↦ λ n.
          let layers : c.args.self.now ≡ w.in-Some.top.now ∷ c.self.inside.lowers.now = sym c.self.view_is ∙ ap (λ (o : Option (Bor Tree)). option_to_list (option_copied o) ++ c.self.inside.lowers.now) w.in-Some.is in
          let none : w.put_layer.new.shown.keys ≡ [] = nil_of w.put_layer.new.shown.keys (w.is_empty-in-Some.ensures.0 w.if-not-is_empty.false) in
          ap (λ (g : BTreeSet (List ℕ)). seen_so_far [] g.keys n (is_some (seen c.self.inside.lowers.now (c.args.path.now ++ n ∷ [])))) w.gone-is
          ∙ ap (λ (ks : Names). seen_so_far ks w.put_layer.new.gone.keys n (is_some (seen c.self.inside.lowers.now (c.args.path.now ++ n ∷ [])))) (sym none)
          ∙ ap (λ b. seen_so_far w.put_layer.new.shown.keys w.put_layer.new.gone.keys n (b && is_some (seen c.self.inside.lowers.now (c.args.path.now ++ n ∷ [])))) (sym w.if-not-goes_on.false)
          ∙ w.in_ok-goes_on.ensures n (seen c.self.inside.lowers.now (c.args.path.now ++ n ∷ []))
          ∙ ap (λ (ks : Names). seen_so_far ks c.new-gone.result.keys n (is_some (seen (w.in-Some.top.now ∷ c.self.inside.lowers.now) (c.args.path.now ++ n ∷ [])))) c.new-shown.ensures.empty
          ∙ ap (λ (ks : Names). seen_so_far [] ks n (is_some (seen (w.in-Some.top.now ∷ c.self.inside.lowers.now) (c.args.path.now ++ n ∷ [])))) c.new-gone.ensures.empty
          ∙ ap (λ (s : List Tree). is_some (seen s (c.args.path.now ++ n ∷ []))) (sym layers)
      | in_default w ↦ λ n.
          let layers : c.args.self.now ≡ c.self.inside.lowers.now = sym c.self.view_is ∙ ap (λ (o : Option (Bor Tree)). option_to_list (option_copied o) ++ c.self.inside.lowers.now) w.in_default.is in
          ap (λ (g : BTreeSet (List ℕ)). seen_so_far [] g.keys n (is_some (seen c.self.inside.lowers.now (c.args.path.now ++ n ∷ [])))) w.gone-is
          ∙ ap (λ (ks : Names). seen_so_far [] ks n (is_some (seen c.self.inside.lowers.now (c.args.path.now ++ n ∷ [])))) c.new-gone.ensures.empty
          ∙ ap (λ (s : List Tree). is_some (seen s (c.args.path.now ++ n ∷ []))) (sym layers)
    ] in
    empty_of c.is_empty-2.result c.put_some.new.shown.keys c.is_empty-2.ensures
    ∙ any_names c.put_some.new.shown.keys c.args.self.now c.args.path.now
    (λ n h. sym (whole n) ∙ c.in_ok-put_some.ensures.some n h)
    (λ e n. sym (whole n) ∙ c.in_ok-put_some.ensures.none e n)

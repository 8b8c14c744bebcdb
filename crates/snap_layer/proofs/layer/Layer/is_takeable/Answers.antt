use Rattle.std.proofs.Common.{◌≡◌, ℕ, List, ◌∷◌, ◌++◌, [], sym, subst, ap, ◌∙◌}
use Rattle.std.specs.Prelude.{is_some, ◌==◌, false, true, length}
use Rattle.snap_path.specs.Text.{Names}
use Rattle.snap_layer.specs.Tree.{Tree, at}
use Rattle.snap_layer.specs.Edits.{IsFree}
use Rattle.snap_layer.proofs.layer.Layer.is_takeable.Goals as goal

differ : false ≡ true → ⊥
differ e = cc

pub returns : goal.returns
returns c =
    let Clear : Tree → Type 0 = λ t. (n : List ℕ) → IsFree (at t (c.args.path.now ++ n ∷ [])) in
    (λ t. record { there = ap is_some (sym c.at.ensures.node) ∙ c.if-is_none.ensures; clear = subst Clear c.self.view_is (c.has_clear.ensures.0 t); below_root = λ e. differ (c.if-is_empty.ensures ∙ ap (λ (ns : Names). length ns == 0) (c.names.ensures.names ∙ e)) }, λ taken. c.has_clear.ensures.1 (subst Clear (sym c.self.view_is) taken.clear))

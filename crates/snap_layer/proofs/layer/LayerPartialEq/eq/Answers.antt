use Rattle.std.proofs.Common.{◌≡◌, sym, ◌∙◌}
use Rattle.snap_layer.specs.Equal.{tree_eq, tree_eq-Decides}
use Rattle.snap_layer.proofs.layer.LayerPartialEq.eq.Goals as goal

pub returns-clause-equal : goal.returns-clause-equal
returns-clause-equal c =
    let decides = tree_eq-Decides c.args.self.now c.args.other.now in
    let is : c.is_same.result ≡ tree_eq c.args.self.now c.args.other.now = c.is_same.ensures ∙ (λ i. tree_eq (c.self.view_is i) (c.other.view_is i)) in
    (λ t. decides.0 (sym is ∙ t), λ e. is ∙ decides.1 e)

use Rattle.std.proofs.Common.{◌≡◌, sym, ◌∙◌}
use Rattle.snap_layer.specs.Equal.{tree_eq, tree_eq-Decides}
use Rattle.snap_layer.proofs.shared.SharedPartialEq.eq.Goals as goal

pub returns-clause-equal : goal.returns-clause-equal
returns-clause-equal c =
    let decides = tree_eq-Decides c.args.self.now c.args.other.now in
    let told : c.eq.result ≡ tree_eq c.args.self.now c.args.other.now = c.eq.ensures ∙ (λ i. tree_eq (c.layer.ensures.value i) (c.layer-2.ensures.value i)) in
    (λ t. decides.0 (sym told ∙ t), λ e. told ∙ decides.1 e)

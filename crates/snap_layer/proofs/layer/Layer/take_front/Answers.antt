use Rattle.std.proofs.Common.{◌≡◌, take, sym, ap, subst, ◌∙◌}
use Rattle.snap_path.specs.Text.{Names}
use Rattle.snap_layer.specs.Tree.{Tree}
use Rattle.snap_layer.specs.Layers.{IsLayer}
use Rattle.snap_layer.specs.Edits.{without, IsTakeable}
use Rattle.snap_layer.specs.Totals.{IsCounted}
use Rattle.snap_layer.proofs.Kept.{IsLayer-without}
use Rattle.snap_layer.proofs.layer.Layer.take_front.Goals as goal

pub take-requires-clause-takeable : goal.take-requires-clause-takeable
take-requires-clause-takeable c =
    let front : take c.args.front c.names.result.now ≡ take c.args.front c.args.path.now = ap (take c.args.front) c.names.ensures.names in
    subst (λ (u : Tree). IsTakeable u (take c.args.front c.names.result.now)) (sym c.self.view_is) (subst (IsTakeable c.args.self.now) (sym front) c.requires.takeable)

pub take-requires-clause-layer : goal.take-requires-clause-layer
take-requires-clause-layer c =
    let ok : IsLayer c.args.self.now = c.left_front-left.ensures.layer in
    let front : take c.args.front c.names.result.now ≡ take c.args.front c.args.path.now = ap (take c.args.front) c.names.ensures.names in
    let left = IsLayer-without c.args.self.now (take c.args.front c.args.path.now) ok c.requires.takeable.clear c.requires.takeable.below_root in
    subst (λ (u : Tree). IsLayer (without u (take c.args.front c.names.result.now))) (sym c.self.view_is) (subst (λ (p : Names). IsLayer (without c.args.self.now p)) (sym front) left)

pub invariant_of-self : goal.invariant_of-self
invariant_of-self c =
    let ok : IsLayer c.args.self.now = c.left_front-left.ensures.layer in
    let front : take c.args.front c.names.result.now ≡ take c.args.front c.args.path.now = ap (take c.args.front) c.names.ensures.names in
    let is = c.take.ensures ∙ (λ i. without (c.self.view_is i) (front i)) in
    subst (IsCounted _) (sym is) (record { inodes = c.left_front-left.ensures.inodes; blocks = c.left_front-left.ensures.blocks; paths = c.left_front-left.ensures.paths }, IsLayer-without c.args.self.now (take c.args.front c.args.path.now) ok c.requires.takeable.clear c.requires.takeable.below_root)

pub returns-clause-next : goal.returns-clause-next
returns-clause-next c =
    let front : take c.args.front c.names.result.now ≡ take c.args.front c.args.path.now = ap (take c.args.front) c.names.ensures.names in
    c.take.ensures ∙ (λ i. without (c.self.view_is i) (front i))

pub returns-clause-layer : goal.returns-clause-layer
returns-clause-layer c =
    let ok : IsLayer c.args.self.now = c.left_front-left.ensures.layer in
    let front : take c.args.front c.names.result.now ≡ take c.args.front c.args.path.now = ap (take c.args.front) c.names.ensures.names in
    let is = c.take.ensures ∙ (λ i. without (c.self.view_is i) (front i)) in
    subst IsLayer (sym is) (IsLayer-without c.args.self.now (take c.args.front c.args.path.now) ok c.requires.takeable.clear c.requires.takeable.below_root)

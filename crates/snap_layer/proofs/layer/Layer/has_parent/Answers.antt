use Rattle.std.proofs.Common.{◌≡◌, ◌-◌, Some, None, length, take, sym, ap, subst, ◌∙◌}
use Rattle.snap_path.specs.Text.{Names}
use Rattle.snap_layer.specs.Tree.{at, IsDirAt}
use Rattle.snap_layer.proofs.Testing.{parent_from, parent_is}
use Rattle.snap_layer.proofs.layer.Layer.has_parent.Goals as goal

pub returns-in-Some-clause-parent : goal.returns-in-Some-clause-parent
returns-in-Some-clause-parent c =
    let front : at c.args.self.now (take (length c.args.path.now - 1) c.args.path.now) ≡ Some c.in-Some.node =
    ap (λ (ns : Names). at c.args.self.now (take (length ns - 1) c.args.path.now)) (sym c.names-names.ensures.names) ∙ sym c.at_front.ensures ∙ c.in-Some.is in
    (λ t. parent_from c.args.self.now c.args.path.now (λ none. c.if-names-eq0.false (ap length c.names-names.ensures.names ∙ none)) (subst IsDirAt (sym front) (sym c.is_dir.ensures ∙ t)), λ above. c.is_dir.ensures ∙ subst IsDirAt front (parent_is c.args.self.now c.args.path.now above))

pub returns-in-None-clause-parent : goal.returns-in-None-clause-parent
returns-in-None-clause-parent c =
    let front : at c.args.self.now (take (length c.args.path.now - 1) c.args.path.now) ≡ None =
    ap (λ (ns : Names). at c.args.self.now (take (length ns - 1) c.args.path.now)) (sym c.names-names.ensures.names) ∙ sym c.at_front.ensures ∙ c.in-None.is in
    (λ t. absurd (cc), λ above. absurd (subst IsDirAt front (parent_is c.args.self.now c.args.path.now above)))

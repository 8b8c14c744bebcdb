use Rattle.std.proofs.Common.{sym, ap, subst, ◌∙◌}
use Rattle.snap_upper.specs.declared.change.Change.{Change}
use Rattle.snap_upper.specs.After.{planned}
use Rattle.snap_upper.specs.Changes.{outcome, IsReady}
use Rattle.snap_upper.proofs.Modes.{with_mode_planned}
use Rattle.snap_upper.proofs.Opaque.{with_opaque_planned}
use Rattle.snap_upper.proofs.usage.weigh.Goals as goal

pub returns-in-SetMode : goal.returns-in-SetMode
returns-in-SetMode c =
    let ready = subst (λ (change : Change). IsReady change c.args.layer.now c.args.lowers.now) c.in-SetMode.is c.requires.ready in
    with_mode_planned c.args.layer.now c.in-SetMode.path.now c.in-SetMode.mode c.count-after.ensures.layer ready.0 ready.1 c.count-after.result c.count-after.ensures.bodies
    ∙ ap (λ (change : Change). planned (outcome change c.args.layer.now c.args.lowers.now)) (sym c.in-SetMode.is)

pub returns-in-SetOpaque : goal.returns-in-SetOpaque
returns-in-SetOpaque c =
    with_opaque_planned c.args.layer.now c.in-SetOpaque.path.now c.count-after.ensures.layer c.count-after.result c.count-after.ensures.bodies
    ∙ ap (λ (change : Change). planned (outcome change c.args.layer.now c.args.lowers.now)) (sym c.in-SetOpaque.is)

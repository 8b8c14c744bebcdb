use Rattle.std.proofs.Common.{◌≡◌, true, false, sym, ap, ◌∙◌}
use Rattle.std.specs.Prelude.{is_some}
use Rattle.snap_layer.specs.Tree.{at}
use Rattle.snap_saved.proofs.Placing.{no_obstacle, no_parent, occupied, parent_answer}
use Rattle.snap_saved.proofs.restoring.obstacle.Goals as goal

pub returns-clause-first : goal.returns-clause-first
returns-clause-first c =
    let t = c.args.layer.now in
    let p = c.args.path.now in
    let none : is_some (at t p) ≡ false = ap is_some (sym c.at.ensures.node) ∙ sym c.is_some.ensures ∙ c.if-is_some.false in
    sym (no_obstacle t p none (sym (parent_answer t p true c.if-not-has_parent.ensures.parent)))

pub returns-then-is_some-clause-first : goal.returns-then-is_some-clause-first
returns-then-is_some-clause-first c = sym (occupied c.args.layer.now c.args.path.now (ap is_some (sym c.at.ensures.node) ∙ sym c.is_some.ensures ∙ c.if-is_some.true))

pub returns-then-not-has_parent-clause-first : goal.returns-then-not-has_parent-clause-first
returns-then-not-has_parent-clause-first c =
    let t = c.args.layer.now in
    let p = c.args.path.now in
    let none : is_some (at t p) ≡ false = ap is_some (sym c.at.ensures.node) ∙ sym c.is_some.ensures ∙ c.if-is_some.false in
    sym (no_parent t p none (sym (parent_answer t p false c.if-not-has_parent.ensures.parent)))

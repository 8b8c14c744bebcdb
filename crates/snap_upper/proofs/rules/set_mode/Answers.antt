use Rattle.std.proofs.Common.{◌≡◌, ◌∷◌, false, true, is_some, sym, ap, subst, ◌∙◌}
use Rattle.snap_layer.specs.Tree.{at}
use Rattle.snap_merge.specs.Objects.{AreLayers}
use Rattle.snap_upper.specs.declared.op.Op.TheVariants as op
use Rattle.snap_upper.proofs.Outcomes.{stack_passes}
use Rattle.snap_upper.proofs.Modes.{settable, has_mode, own_mode_after, empty, lower_ready, lower_after}
use Rattle.snap_upper.proofs.Sure.{no_value}
use Rattle.snap_upper.proofs.rules.set_mode.Goals as goal

pub returns-then-is_some-clause-ok : goal.returns-then-is_some-clause-ok
returns-then-is_some-clause-ok c =
    let u = c.args.layer.now in
    let ls = c.args.lowers.now in
    let p = c.args.path.now in
    let ok = (subst AreLayers c.over.ensures c.in_ok-check_mode.ensures.layers).0 in
    let passes = stack_passes (op.SetMode p c.args.mode) _ (u ∷ ls) c.over.ensures c.in_ok-check_mode.ensures.error in
    let some : is_some (at u p) ≡ true = ap is_some (sym c.at.ensures.node) ∙ sym c.is_some.ensures ∙ c.if-is_some.true in
    let can = settable u ls p c.args.mode ok passes in
    record {
      layers = (subst AreLayers c.over.ensures c.in_ok-check_mode.ensures.layers).1;
      ready = (has_mode u ls p ok can.there some, can.low);
      same = own_mode_after u ls p c.args.mode ok passes some;
      in_place = λ there. tt;
    }

pub lower_with-requires-clause-nothing : goal.lower_with-requires-clause-nothing
lower_with-requires-clause-nothing c =
    let u = c.args.layer.now in
    let ls = c.args.lowers.now in
    let p = c.args.path.now in
    let ok = (subst AreLayers c.over.ensures c.in_ok-check_mode.ensures.layers).0 in
    let passes = stack_passes (op.SetMode p c.args.mode) _ (u ∷ ls) c.over.ensures c.in_ok-check_mode.ensures.error in
    empty u ls p c.args.mode ok passes (ap is_some (sym c.at.ensures.node) ∙ sym c.is_some.ensures ∙ c.if-is_some.false)

pub lower_with-requires-clause-there : goal.lower_with-requires-clause-there
lower_with-requires-clause-there c =
    let u = c.args.layer.now in
    let ls = c.args.lowers.now in
    let p = c.args.path.now in
    let ok = (subst AreLayers c.over.ensures c.in_ok-check_mode.ensures.layers).0 in
    (settable u ls p c.args.mode ok (stack_passes (op.SetMode p c.args.mode) _ (u ∷ ls) c.over.ensures c.in_ok-check_mode.ensures.error)).there

pub returns-clause-ok : goal.returns-clause-ok
returns-clause-ok c =
    let u = c.args.layer.now in
    let ls = c.args.lowers.now in
    let p = c.args.path.now in
    let ok = (subst AreLayers c.over.ensures c.in_ok-check_mode.ensures.layers).0 in
    let passes = stack_passes (op.SetMode p c.args.mode) _ (u ∷ ls) c.over.ensures c.in_ok-check_mode.ensures.error in
    let none : is_some (at u p) ≡ false = ap is_some (sym c.at.ensures.node) ∙ sym c.is_some.ensures ∙ c.if-is_some.false in
    let layers = (subst AreLayers c.over.ensures c.in_ok-check_mode.ensures.layers).1 in
    let new = c.in_ok-new.new in
    let is = c.in_ok-new.ensures.ok in
    record { layers = layers; ready = lower_ready u ls p c.args.mode ok passes layers none new is; same = lower_after u ls p c.args.mode ok passes none new is; in_place = no_value (at u p) none }

use Rattle.std.proofs.Common.{◌≡◌, ◌∷◌, Some, false, true, is_some, sym, ap, subst, ◌∙◌, List}
use Rattle.snap_layer.specs.Tree.{Tree, at}
use Rattle.snap_merge.specs.Objects.{AreLayers, dir, seen}
use Rattle.snap_upper.specs.declared.op.Op.TheVariants as op
use Rattle.snap_upper.proofs.Outcomes.{stack_passes}
use Rattle.snap_upper.proofs.Opaque.{own_dir, own_opaque_after, lower_opaque_ready, lower_opaque_after}
use Rattle.snap_upper.proofs.Sure.{no_value}
use Rattle.snap_upper.proofs.rules.opaque.Goals as goal

pub returns-then-is_some-clause-ok : goal.returns-then-is_some-clause-ok
returns-then-is_some-clause-ok c =
    let u = c.args.layer.now in
    let ls = c.args.lowers.now in
    let p = c.args.path.now in
    let ok = (subst AreLayers c.over.ensures c.in_ok-meta.ensures.layers).0 in
    let passes = stack_passes (op.Opaque p) _ (u ∷ ls) c.over.ensures c.in_ok-meta.ensures.error in
    let some : is_some (at u p) ≡ true = ap is_some (sym c.at.ensures.node) ∙ sym c.is_some.ensures ∙ c.if-is_some.true in
    let m = c.in_ok-meta.meta in
    let was : seen (u ∷ ls) p ≡ Some (dir m) = ap (λ (s : List Tree). seen s p) (sym c.over.ensures) ∙ c.in_ok-meta.ensures.meta in
    record {
      layers = (subst AreLayers c.over.ensures c.in_ok-meta.ensures.layers).1;
      ready = own_dir u ls p m ok was some;
      same = own_opaque_after u ls p ok passes m was some;
      in_place = λ there. tt;
    }

pub returns-clause-ok : goal.returns-clause-ok
returns-clause-ok c =
    let u = c.args.layer.now in
    let ls = c.args.lowers.now in
    let p = c.args.path.now in
    let ok = (subst AreLayers c.over.ensures c.in_ok-meta.ensures.layers).0 in
    let passes = stack_passes (op.Opaque p) _ (u ∷ ls) c.over.ensures c.in_ok-meta.ensures.error in
    let none : is_some (at u p) ≡ false = ap is_some (sym c.at.ensures.node) ∙ sym c.is_some.ensures ∙ c.if-is_some.false in
    let layers = (subst AreLayers c.over.ensures c.in_ok-meta.ensures.layers).1 in
    let m = c.in_ok-meta.meta in
    let was : seen (u ∷ ls) p ≡ Some (dir m) = ap (λ (s : List Tree). seen s p) (sym c.over.ensures) ∙ c.in_ok-meta.ensures.meta in
    let ready = lower_opaque_ready u ls p ok passes m was layers none in
    record { layers = layers; ready = (ready.0, ready.1, tt); same = lower_opaque_after u ls p ok passes m was none; in_place = no_value (at u p) none }

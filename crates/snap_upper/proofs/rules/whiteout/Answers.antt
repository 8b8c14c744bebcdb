use Rattle.std.proofs.Common.{◌≡◌, ◌∷◌, [], true, false, sym, ap, subst, ◌∙◌}
use Rattle.snap_layer.specs.Edits.{IsFree}
use Rattle.snap_layer.specs.Tree.{at, IsDirAt}
use Rattle.snap_layer.proofs.Kept.{nothing_below}
use Rattle.snap_merge.specs.Objects.{AreLayers}
use Rattle.snap_upper.specs.declared.op.Op.TheVariants as op
use Rattle.snap_upper.specs.After.{limited}
use Rattle.snap_upper.proofs.Outcomes.{stack_passes, after_passes}
use Rattle.snap_upper.proofs.Trees.{IsErasableTree-passed, tree_is_erased}
use Rattle.snap_upper.proofs.Sure.{node_of_number, number_of_no_dir}
use Rattle.snap_upper.proofs.rules.whiteout.Goals as goal

pub returns-then-is_dir_there-clause-ok : goal.returns-then-is_dir_there-clause-ok
returns-then-is_dir_there-clause-ok c =
    let u = c.args.layer.now in
    let ls = c.args.lowers.now in
    let p = c.args.path.now in
    let passes = stack_passes (op.Whiteout p) _ (u ∷ ls) c.over.ensures c.in_ok-found.ensures.error in
    let erasable = IsErasableTree-passed (u ∷ ls) p passes in
    record {
      layers = (subst AreLayers c.over.ensures c.in_ok-found.ensures.layers).1;
      ready = (record { dir = c.is_dir_there.ensures.0 c.if-is_dir_there.true; below_root = erasable.below_root }, c.is_below-covers.ensures);
      same = sym (after_passes (op.Whiteout p) u ls passes);
      in_place = λ named. absurd (number_of_no_dir (at u p) named (c.is_dir_there.ensures.0 c.if-is_dir_there.true));
    }

pub returns-clause-ok : goal.returns-clause-ok
returns-clause-ok c =
    let u = c.args.layer.now in
    let ls = c.args.lowers.now in
    let p = c.args.path.now in
    let ok = (subst AreLayers c.over.ensures c.in_ok-found.ensures.layers).0 in
    let passes = stack_passes (op.Whiteout p) _ (u ∷ ls) c.over.ensures c.in_ok-found.ensures.error in
    let erasable = IsErasableTree-passed (u ∷ ls) p passes in
    let no_dir : IsDirAt (at u p) → ⊥ = λ dir. clash (sym (c.is_dir_there.ensures.1 dir) ∙ c.if-is_dir_there.false) in
    record {
      layers = (subst AreLayers c.over.ensures c.in_ok-found.ensures.layers).1;
      ready = (erasable.way, erasable.there, erasable.below_root, (λ n. subst IsFree (sym (nothing_below u ok p no_dir n [])) tt), c.is_below-covers.ensures);
      same = ap limited (sym (tree_is_erased u ls p ok erasable.way no_dir)) ∙ sym (after_passes (op.Whiteout p) u ls passes);
      in_place = node_of_number (at u p);
    }
  where
    clash : true ≡ false → ⊥
    clash e = cc

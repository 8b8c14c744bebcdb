use Rattle.std.proofs.Common.{◌≡◌, true, ℕ, List, ◌∷◌, sym, subst}
use Rattle.snap_layer.specs.Layers.{is_target}
use Rattle.snap_merge.specs.Objects.{AreLayers}
use Rattle.snap_upper.specs.declared.op.Op.TheVariants as op
use Rattle.snap_upper.proofs.Outcomes.{stack_passes}
use Rattle.snap_upper.proofs.Making.{IsNewSymlink-passed, vacant_unseen, symlink_after}
use Rattle.snap_upper.proofs.rules.symlink.Goals as goal

pub returns-clause-ok : goal.returns-clause-ok
returns-clause-ok c =
    let u = c.args.layer.now in
    let ls = c.args.lowers.now in
    let p = c.args.path.now in
    let ok = (subst AreLayers c.over.ensures c.in_ok-check_symlink.ensures.layers).0 in
    let target = c.args.target.now in
    let passes = stack_passes (op.Symlink p target) _ (u ∷ ls) c.over.ensures c.in_ok-check_symlink.ensures.error in
    let made = IsNewSymlink-passed (u ∷ ls) p target passes in
    record {
      layers = (subst AreLayers c.over.ensures c.in_ok-check_symlink.ensures.layers).1;
      ready = (made.way, (vacant_unseen u ls p ok made.unseen, subst (λ (bs : List ℕ). is_target bs ≡ true) (sym c.as_slice-target.ensures) made.target_is), tt);
      same = symlink_after u ls p target c.as_slice-target.result.now passes c.as_slice-target.ensures;
      in_place = λ none. absurd none;
    }

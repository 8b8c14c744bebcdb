use Rattle.std.proofs.Common.{◌∷◌, subst, arith}
use Rattle.snap_merge.specs.Objects.{AreLayers}
use Rattle.snap_upper.specs.declared.op.Op.TheVariants as op
use Rattle.snap_upper.proofs.Outcomes.{stack_passes}
use Rattle.snap_upper.proofs.Making.{new, vacant_unseen, file_after}
use Rattle.snap_upper.proofs.rules.create.Goals as goal

pub returns-clause-ok : goal.returns-clause-ok
returns-clause-ok c =
    let u = c.args.layer.now in
    let ls = c.args.lowers.now in
    let p = c.args.path.now in
    let ok = (subst AreLayers c.over.ensures c.in_ok-check_new.ensures.layers).0 in
    let passes = stack_passes (op.Create p c.args.mode) _ (u ∷ ls) c.over.ensures c.in_ok-check_new.ensures.error in
    let made = new u ls p c.args.mode passes in
    record {
      layers = (subst AreLayers c.over.ensures c.in_ok-check_new.ensures.layers).1;
      ready = (made.way, (vacant_unseen u ls p ok made.unseen, made.low, omega arith), tt);
      same = file_after u ls p c.args.mode passes;
      in_place = λ none. absurd none;
    }

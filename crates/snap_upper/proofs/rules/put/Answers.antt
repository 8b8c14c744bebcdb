use Rattle.std.proofs.Common.{ℕ, List, Option, ◌∷◌, sym, subst}
use Rattle.snap_layer.specs.Contents.{IsContent}
use Rattle.snap_layer.specs.declared.content.Content.TheVariants.{Sized}
use Rattle.snap_merge.specs.Objects.{AreLayers}
use Rattle.snap_upper.specs.declared.op.Op.TheVariants as op
use Rattle.snap_upper.proofs.Outcomes.{stack_passes}
use Rattle.snap_upper.proofs.Making.{IsNewSized-passed, vacant_unseen, sized_after}
use Rattle.snap_upper.proofs.rules.put.Goals as goal

pub returns-clause-ok : goal.returns-clause-ok
returns-clause-ok c =
    let u = c.args.layer.now in
    let ls = c.args.lowers.now in
    let p = c.args.path.now in
    let size = c.args.size in
    let digest = c.args.digest.now in
    let ok = (subst AreLayers c.over.ensures c.in_ok-check_put.ensures.layers).0 in
    let passes = stack_passes (op.Put p c.args.mode size digest) _ (u ∷ ls) c.over.ensures c.in_ok-check_put.ensures.error in
    let made = IsNewSized-passed (u ∷ ls) p c.args.mode size digest passes in
    let fits = subst (λ (d : Option (List ℕ)). IsContent (Sized size d)) (sym c.as_ref-digest.ensures.value) made.content in
    record {
      layers = (subst AreLayers c.over.ensures c.in_ok-check_put.ensures.layers).1;
      ready = (made.way, (vacant_unseen u ls p ok made.unseen, made.low, fits), fits);
      same = sized_after u ls p c.args.mode size digest _ passes c.as_ref-digest.ensures.value;
      in_place = λ none. absurd none;
    }

use Rattle.std.proofs.Common.{◌≡◌, ◌∷◌, ◌++◌, [], List, None, ap, sym, subst, ◌∙◌}
use Rattle.snap_layer.specs.Tree.{Tree}
use Rattle.snap_merge.specs.Objects.{AreLayers}
use Rattle.snap_copyup.proofs.Alone.{free_unseen}
use Rattle.snap_upper.specs.declared.op.Op.TheVariants as op
use Rattle.snap_upper.specs.After.{tests, first_error}
use Rattle.snap_upper.proofs.Outcomes.{after_passes}
use Rattle.snap_upper.proofs.Erased.{IsErasable-dir}
use Rattle.snap_upper.proofs.rules.rmdir.Goals as goal

pub returns-clause-ok : goal.returns-clause-ok
returns-clause-ok c =
    let u = c.args.layer.now in
    let ls = c.args.lowers.now in
    let p = c.args.path.now in
    let ok = (subst AreLayers c.over.ensures c.in_ok-found.ensures.layers).0 in
    let passes : first_error (tests (op.Rmdir p) (u ∷ ls)) ≡ None = ap (λ (s : List Tree). first_error (tests (op.Rmdir p) s)) (sym c.over.ensures) ∙ c.in_ok-found.ensures.ok in
    let erasable = IsErasable-dir (u ∷ ls) p passes in
    record { layers = (subst AreLayers c.over.ensures c.in_ok-found.ensures.layers).1; ready = (erasable.way, erasable.there, erasable.below_root, (λ n. free_unseen u ls (p ++ n ∷ []) ok (erasable.clear n)), c.is_below-covers.ensures); same = sym (after_passes (op.Rmdir p) u ls passes); in_place = λ none. absurd none }

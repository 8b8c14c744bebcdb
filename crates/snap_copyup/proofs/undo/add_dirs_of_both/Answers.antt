use Rattle.std.proofs.Common.{◌∷◌, ap, ◌∙◌, subst}
use Rattle.snap_layer.specs.Tree.{Tree}
use Rattle.snap_merge.specs.Walk.{walk_error}
use Rattle.snap_copyup.specs.Copying.{with_parents}
use Rattle.snap_copyup.proofs.Wholes.{IfErr-refused}
use Rattle.snap_copyup.proofs.Undoing.{second_way, both_full}
use Rattle.snap_layer.specs.Layers.{IsLayer}
use Rattle.snap_copyup.proofs.undo.add_dirs_of_both.Goals as goal

pub returns-in_err-first-clause-error : goal.returns-in_err-first-clause-error
returns-in_err-first-clause-error c =
    let u = c.args.layer.now in
    let ls = c.args.lowers.now in
    let one = c.args.one.now in
    let other = c.args.other.now in
    IfErr-refused c.from_residual.result c.in_err-first.field-0.0 (with_parents u ls one) (with_parents (with_parents u ls one) ls other) c.from_residual.ensures.1 (both_full u ls one other c.requires.one c.requires.other (subst IsLayer c.in_err-first.ensures.unchanged c.in_err-first.ensures.layer)) c.in_err-first.ensures.error

pub add_dirs-requires-2 : goal.add_dirs-requires-2
add_dirs-requires-2 c = ap (λ (t : Tree). walk_error (t ∷ c.args.lowers.now) c.args.other.now) c.in_ok-first.ensures.ok ∙ second_way c.args.layer.now c.args.lowers.now c.args.one.now c.args.other.now c.requires.one c.requires.other

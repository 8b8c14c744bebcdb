use Rattle.std.proofs.Common.{sym, ap, subst, ◌∙◌}
use Rattle.snap_layer.specs.Tree.{Tree, at}
use Rattle.snap_layer.specs.Layers.{IsLayer}
use Rattle.snap_layer.specs.Edits.{HasParent, HasPlace}
use Rattle.snap_copyup.specs.Copying.{with_parents}
use Rattle.snap_copyup.proofs.Wholes.{IfErr-refused}
use Rattle.snap_upper.specs.After.{renamed}
use Rattle.snap_upper.proofs.Movable.{renamable}
use Rattle.snap_upper.proofs.LowerRename.{rename_bare, rename_full, rename_made, rename_parent, rename_place, rename_refused}
use Rattle.snap_upper.proofs.names.shift_lower.Goals as goal

pub add_dirs_of_both-requires-clause-one : goal.add_dirs_of_both-requires-clause-one
add_dirs_of_both-requires-clause-one c = (renamable c.args.layer.now c.args.lowers.now c.args.from.now c.args.to.now c.requires.passes c.requires.moves).way_from

pub add_dirs_of_both-requires-clause-other : goal.add_dirs_of_both-requires-clause-other
add_dirs_of_both-requires-clause-other c = (renamable c.args.layer.now c.args.lowers.now c.args.from.now c.args.to.now c.requires.passes c.requires.moves).way_to

pub returns-in_err-above_from-clause-error : goal.returns-in_err-above_from-clause-error
returns-in_err-above_from-clause-error c =
    let u = c.args.layer.now in
    let ls = c.args.lowers.now in
    let from = c.args.from.now in
    let to = c.args.to.now in
    let is = renamable u ls from to c.requires.passes c.requires.moves in
    IfErr-refused c.from_residual.result c.in_err-above_from.field-0.0 (with_parents (with_parents u ls from) ls to) (renamed u ls from to) c.from_residual.ensures.1
    (rename_full u ls from to c.requires.layer c.requires.layers is c.requires.lower) c.in_err-above_from.ensures.error

pub put_shifted_copy-requires-clause-bare : goal.put_shifted_copy-requires-clause-bare
put_shifted_copy-requires-clause-bare c =
    let u = c.args.layer.now in
    let ls = c.args.lowers.now in
    let from = c.args.from.now in
    let to = c.args.to.now in
    let is = renamable u ls from to c.requires.passes c.requires.moves in
    ap (λ (t : Tree). at t from) c.in_ok-above_from.ensures.ok ∙ rename_bare u ls from to c.requires.layer c.requires.layers is c.requires.lower

pub put_shifted_copy-requires-clause-parent : goal.put_shifted_copy-requires-clause-parent
put_shifted_copy-requires-clause-parent c =
    let u = c.args.layer.now in
    let ls = c.args.lowers.now in
    let from = c.args.from.now in
    let to = c.args.to.now in
    let is = renamable u ls from to c.requires.passes c.requires.moves in
    subst (λ (t : Tree). HasParent t from) (sym c.in_ok-above_from.ensures.ok) (rename_parent u ls from to c.requires.layer c.requires.layers is c.requires.lower)

pub put_shifted_copy-requires-clause-place : goal.put_shifted_copy-requires-clause-place
put_shifted_copy-requires-clause-place c =
    let u = c.args.layer.now in
    let ls = c.args.lowers.now in
    let from = c.args.from.now in
    let to = c.args.to.now in
    let is = renamable u ls from to c.requires.passes c.requires.moves in
    let same = c.in_ok-above_from.ensures.ok in
    subst (λ (t : Tree). HasPlace t to) (sym same) (rename_place u ls from to c.requires.layer c.requires.layers is c.requires.lower (subst IsLayer same c.in_ok-above_from.ensures.layer))

pub put_shifted_copy-requires-clause-not_inside : goal.put_shifted_copy-requires-clause-not_inside
put_shifted_copy-requires-clause-not_inside c = (renamable c.args.layer.now c.args.lowers.now c.args.from.now c.args.to.now c.requires.passes c.requires.moves).not_inside

pub put_shifted_copy-requires-clause-not_around : goal.put_shifted_copy-requires-clause-not_around
put_shifted_copy-requires-clause-not_around c = (renamable c.args.layer.now c.args.lowers.now c.args.from.now c.args.to.now c.requires.passes c.requires.moves).not_around

pub returns-in-Err-clause-error : goal.returns-in-Err-clause-error
returns-in-Err-clause-error c =
    let u = c.args.layer.now in
    let ls = c.args.lowers.now in
    let from = c.args.from.now in
    let to = c.args.to.now in
    let is = renamable u ls from to c.requires.passes c.requires.moves in
    rename_refused u ls from to c.requires.layer c.requires.layers is c.requires.lower c.add_dirs_of_both.new.layer c.in_ok-above_from.ensures.ok c.in_ok-above_from.ensures.layer c.in-Err.error c.in-Err.ensures.error

pub returns-clause-ok : goal.returns-clause-ok
returns-clause-ok c =
    let u = c.args.layer.now in
    let ls = c.args.lowers.now in
    let from = c.args.from.now in
    let to = c.args.to.now in
    let is = renamable u ls from to c.requires.passes c.requires.moves in
    rename_made u ls from to c.requires.layer c.requires.layers is c.requires.lower c.add_dirs_of_both.new.layer c.in_ok-above_from.ensures.ok c.in_ok-above_from.ensures.layer c.put_shifted_copy.new.layer c.in_default.ensures.ok
